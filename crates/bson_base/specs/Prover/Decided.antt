-- What `==` answers is whether the contents are equal.
use Rattle.std.proofs.Common.{◌≡◌, true, refl, ap, subst}
use Rattle.std.specs.Prelude.{◌&&◌, nat_eq}
use Rattle.std.specs.Bool.{Decides}
use Rattle.std.specs.Str.{bytes_eq}
use Rattle.std.specs.Cmp.{IsPartialEquivalence, partial_equiv_from_equiv, decided, on_equiv, signed_Decides, unsigned_Decides, booleans_Decides}
use Rattle.std.proofs.lemmas.Bool.{and_parts, and_from, false≢true}
use Rattle.std.proofs.lemmas.Slice.Eq.{bytes_eq-Decides}
use Rattle.bson_kinds.specs.Text.{Bytes}
use Rattle.bson_kinds.specs.Kind.{byte}
use Rattle.bson_kinds.specs.Prover.KindBytes.{same_byte}
use Rattle.bson_base.specs.Tree.{Tree, double, string, document, array, binary, undefined, object_id, boolean, date_time, null, regular_expression, db_pointer, javascript_code, symbol, javascript_code_with_scope, int32, timestamp, int64, decimal128, max_key, min_key, raw, Pairs, no_pairs, pair, Trees, no_trees, tree}
use Rattle.bson_base.specs.Same.{same, same_trees, same_pairs}
use Rattle.bson_base.specs.BsonView.{tree_of, binary_of, regex_of, pointer_of, scoped_of, pairs_of}
use Rattle.bson_base.specs.RegexView.{RegexTexts}
use Rattle.bson_base.specs.declared.binary.Binary.{Binary}
use Rattle.bson_base.specs.declared.bson.Bson.{Bson}
use Rattle.bson_base.specs.declared.code_with_scope.JavaScriptCodeWithScope.{JavaScriptCodeWithScope}
use Rattle.bson_base.specs.declared.db_pointer.DbPointer.{DbPointer}
use Rattle.bson_base.specs.declared.document.Document.{Document}

bytes_alike : (bytes : Bytes) → bytes_eq bytes bytes ≡ true
bytes_alike bytes = (bytes_eq-Decides bytes bytes).1 refl

mutual
  same_is : (t u : Tree) → same t u ≡ true → t ≡ u
  same_is (double bytes) (double others) e = ap double ((bytes_eq-Decides bytes others).0 e)
  same_is (string t) (string u) e = ap string ((bytes_eq-Decides t u).0 e)
  same_is (document ps) (document qs) e = ap document (pairs_are ps qs e)
  same_is (array ts) (array us) e = ap array (trees_are ts us e)
  same_is (binary subtype bytes) (binary other others) e =
      let both = and_parts (nat_eq subtype other) (bytes_eq bytes others) e in
      λ i. binary ((unsigned_Decides subtype other).0 both.0 i) ((bytes_eq-Decides bytes others).0 both.1 i)
  same_is undefined undefined e = refl
  same_is (object_id id) (object_id other) e = ap object_id ((bytes_eq-Decides id other).0 e)
  same_is (boolean b) (boolean c) e = ap boolean ((booleans_Decides b c).0 e)
  same_is (date_time n) (date_time m) e = ap date_time ((signed_Decides n m).0 e)
  same_is null null e = refl
  same_is (regular_expression pattern options) (regular_expression p o) e =
      let both = and_parts (bytes_eq pattern p) (bytes_eq options o) e in
      λ i. regular_expression ((bytes_eq-Decides pattern p).0 both.0 i) ((bytes_eq-Decides options o).0 both.1 i)
  same_is (db_pointer namespace id) (db_pointer n other) e =
      let both = and_parts (bytes_eq namespace n) (bytes_eq id other) e in
      λ i. db_pointer ((bytes_eq-Decides namespace n).0 both.0 i) ((bytes_eq-Decides id other).0 both.1 i)
  same_is (javascript_code t) (javascript_code u) e = ap javascript_code ((bytes_eq-Decides t u).0 e)
  same_is (symbol t) (symbol u) e = ap symbol ((bytes_eq-Decides t u).0 e)
  same_is (javascript_code_with_scope code scope) (javascript_code_with_scope c s) e =
      let both = and_parts (bytes_eq code c) (same_pairs scope s) e in
      λ i. javascript_code_with_scope ((bytes_eq-Decides code c).0 both.0 i) (pairs_are scope s both.1 i)
  same_is (int32 n) (int32 m) e = ap int32 ((signed_Decides n m).0 e)
  same_is (timestamp time increment) (timestamp u j) e =
      let both = and_parts (nat_eq time u) (nat_eq increment j) e in
      λ i. timestamp ((unsigned_Decides time u).0 both.0 i) ((unsigned_Decides increment j).0 both.1 i)
  same_is (int64 n) (int64 m) e = ap int64 ((signed_Decides n m).0 e)
  same_is (decimal128 bytes) (decimal128 others) e = ap decimal128 ((bytes_eq-Decides bytes others).0 e)
  same_is max_key max_key e = refl
  same_is min_key min_key e = refl
  same_is (raw k bytes) (raw l others) e =
      let both = and_parts (nat_eq (byte k) (byte l)) (bytes_eq bytes others) e in
      λ i. raw (same_byte k l ((unsigned_Decides (byte k) (byte l)).0 both.0) i) ((bytes_eq-Decides bytes others).0 both.1 i)
  same_is t u e = absurd (false≢true e)

  trees_are : (ts us : Trees) → same_trees ts us ≡ true → ts ≡ us
  trees_are no_trees no_trees e = refl
  trees_are (tree t ts) (tree u us) e =
      let both = and_parts (same t u) (same_trees ts us) e in
      λ i. tree (same_is t u both.0 i) (trees_are ts us both.1 i)
  trees_are ts us e = absurd (false≢true e)

  pairs_are : (ps qs : Pairs) → same_pairs ps qs ≡ true → ps ≡ qs
  pairs_are no_pairs no_pairs e = refl
  pairs_are (pair key t ps) (pair k u qs) e =
      let both = and_parts (bytes_eq key k && same t u) (same_pairs ps qs) e in
      let first = and_parts (bytes_eq key k) (same t u) both.0 in
      λ i. pair ((bytes_eq-Decides key k).0 first.0 i) (same_is t u first.1 i) (pairs_are ps qs both.1 i)
  pairs_are ps qs e = absurd (false≢true e)

mutual
  same_itself : (t : Tree) → same t t ≡ true
  same_itself (double bytes) = bytes_alike bytes
  same_itself (string t) = bytes_alike t
  same_itself (document ps) = pairs_alike ps
  same_itself (array ts) = trees_alike ts
  same_itself (binary subtype bytes) = and_from _ _ ((unsigned_Decides subtype subtype).1 refl) (bytes_alike bytes)
  same_itself undefined = refl
  same_itself (object_id id) = bytes_alike id
  same_itself (boolean b) = (booleans_Decides b b).1 refl
  same_itself (date_time n) = (signed_Decides n n).1 refl
  same_itself null = refl
  same_itself (regular_expression pattern options) = and_from _ _ (bytes_alike pattern) (bytes_alike options)
  same_itself (db_pointer namespace id) = and_from _ _ (bytes_alike namespace) (bytes_alike id)
  same_itself (javascript_code t) = bytes_alike t
  same_itself (symbol t) = bytes_alike t
  same_itself (javascript_code_with_scope code scope) = and_from _ _ (bytes_alike code) (pairs_alike scope)
  same_itself (int32 n) = (signed_Decides n n).1 refl
  same_itself (timestamp time increment) = and_from _ _ ((unsigned_Decides time time).1 refl) ((unsigned_Decides increment increment).1 refl)
  same_itself (int64 n) = (signed_Decides n n).1 refl
  same_itself (decimal128 bytes) = bytes_alike bytes
  same_itself max_key = refl
  same_itself min_key = refl
  same_itself (raw k bytes) = and_from _ _ ((unsigned_Decides (byte k) (byte k)).1 refl) (bytes_alike bytes)

  trees_alike : (ts : Trees) → same_trees ts ts ≡ true
  trees_alike no_trees = refl
  trees_alike (tree t ts) = and_from _ _ (same_itself t) (trees_alike ts)

  pairs_alike : (ps : Pairs) → same_pairs ps ps ≡ true
  pairs_alike no_pairs = refl
  pairs_alike (pair key t ps) = and_from _ _ (and_from _ _ (bytes_alike key) (same_itself t)) (pairs_alike ps)

-- `same` is true exactly where the values are equal
pub same_decides : (t u : Tree) → Decides (same t u) (t ≡ u)
same_decides t u = (same_is t u, λ e. subst (λ v. same t v ≡ true) e (same_itself t))

pub same_pairs_decides : (ps qs : Pairs) → Decides (same_pairs ps qs) (ps ≡ qs)
same_pairs_decides ps qs = (pairs_are ps qs, λ e. subst (λ rs. same_pairs ps rs ≡ true) e (pairs_alike ps))

-- the laws of `==`
pub binary_laws : IsPartialEquivalence (λ (a : Binary) (b : Binary). same (binary_of a) (binary_of b))
binary_laws = partial_equiv_from_equiv (on_equiv binary_of (decided same same_decides))

pub regex_laws : IsPartialEquivalence (λ (a : RegexTexts) (b : RegexTexts). same (regex_of a) (regex_of b))
regex_laws = partial_equiv_from_equiv (on_equiv regex_of (decided same same_decides))

pub pointer_laws : IsPartialEquivalence (λ (a : DbPointer) (b : DbPointer). same (pointer_of a) (pointer_of b))
pointer_laws = partial_equiv_from_equiv (on_equiv pointer_of (decided same same_decides))

pub scoped_laws : IsPartialEquivalence (λ (a : JavaScriptCodeWithScope) (b : JavaScriptCodeWithScope). same (scoped_of a) (scoped_of b))
scoped_laws = partial_equiv_from_equiv (on_equiv scoped_of (decided same same_decides))

pub bson_laws : IsPartialEquivalence (λ (a : Bson) (b : Bson). same (tree_of a) (tree_of b))
bson_laws = partial_equiv_from_equiv (on_equiv tree_of (decided same same_decides))

pub document_laws : IsPartialEquivalence (λ (a : Document) (b : Document). same_pairs (pairs_of a) (pairs_of b))
document_laws = partial_equiv_from_equiv (on_equiv pairs_of (decided same_pairs same_pairs_decides))
