-- A document that is read as an ObjectId has its id at `$oid`, its first wrapper key.
use Rattle.std.proofs.Common.{◌≡◌, ℕ, zero, suc, List, [], ◌∷◌, Bool, true, false, cond, Option, Some, None, Ok, Err, refl, ap, sym, subst, ◌∙◌}
use Rattle.std.specs.Prelude.{codes}
use Rattle.std.specs.Str.{bytes_eq}
use Rattle.std.proofs.lemmas.Slice.Eq.{bytes_eq-Decides}
use Rattle.bson_base.specs.Pairs.{put}
use Rattle.bson_base.specs.BsonView.{Key, Pair, tree_of, row_of, pairs_row, listed_pairs, pairs_of}
use Rattle.bson_base.specs.Folded.{at}
use Rattle.bson_kinds.specs.Outcome.{◌>>=◌, result_map}
use Rattle.bson_base.specs.Parsed.{bytes_of_digits}
use Rattle.bson_kinds.specs.Text.{Bytes, Utf8}
use Rattle.bson_base.specs.Tree as trees
use Rattle.bson_base.specs.Tree.{Tree, Pairs, no_pairs, pair, kind}
use Rattle.bson_base.specs.declared.bson.Bson as bson
use Rattle.bson_base.specs.declared.bson.Bson.{Bson, Row_of-Bson, end_of-Bson, more_of-Bson}
use Rattle.bson_base.specs.declared.document.Document.{Document}
use Rattle.bson_kinds.specs.declared.element_type.ElementType.TheVariants as kinds
use Rattle.bson_kinds.proofs.Outcomes.{some_is, some_map, map_ok, bind_ok, ok_is}
use Rattle.bson_rawdoc.specs.Node.{from_memory, tree_node, pair_nodes}
use Rattle.bson_kinds.specs.Piece.{made}
use Rattle.bson_values.specs.Marked.{Marked}
use Rattle.bson_values.specs.Refusal.{ReadFault, Refusal, under}
use Rattle.bson_values.specs.Wrapper as wrapper
use Rattle.bson_values.specs.Wrapper.{wrappers, with_key, of_key}
use Rattle.bson_values.specs.declared.wrapper.Wrapper.{Wrapper}
use Rattle.bson_values.specs.declared.wrapper.Wrapper.TheVariants.{Oid}
use Rattle.bson_laws.specs.Datum.{datum}
use Rattle.bson_laws.specs.Judged.{Reading, judged}
use Rattle.bson_laws.specs.RawFree.{IsRawFree, ArePairsRawFree, AreTreesRawFree}
use Rattle.bson_laws.specs.ReadsExtended.{tree_of_kind}
use Rattle.bson_laws.specs.Trees.{or_bad, by_meaning, by_key, after_scope, as_tree, document_tree, after_code}
use Rattle.bson_laws.specs.Wrapped.{id_of_text, of_length, oid_body, judging, meaning}
use Rattle.bson_laws.proofs.Sizes.{under_ok}
use Rattle.bson_laws.proofs.Tame.{judged_is}
use Rattle.bson_trees.specs.Trees.{is_raw}
use Rattle.bson_trees.proofs.ReadKinds.{document_not_raw}
use Rattle.bson_raw_builder.proofs.WrappedIds.{valid_is, only_oid}
use Rattle.bson_laws.specs.FirstKeys.{id_given, id_read}

-- ---- values in memory

mutual
  bson_free : (b : Bson) → IsRawFree (tree_of b)
  bson_free (bson.Array' shape row) = row_free row
  bson_free (bson.Document' keys row) = pairs_row_free keys row
  bson_free (bson.JavaScriptCodeWithScope' code keys row) = pairs_row_free keys row
  bson_free b = tt

  row_free : {m : _} (row : Row_of-Bson m) → AreTreesRawFree (row_of row)
  row_free end_of-Bson = tt
  row_free (more_of-Bson b rest) = (bson_free b, row_free rest)

  pairs_row_free : {m : _} (keys : List (Key × Unit {0})) (row : Row_of-Bson m) → ArePairsRawFree (pairs_row keys row)
  pairs_row_free [] row = tt
  pairs_row_free (k ∷ ks) end_of-Bson = tt
  pairs_row_free (k ∷ ks) (more_of-Bson b rest) = (bson_free b, pairs_row_free ks rest)

pairs_free : (ps : List (Pair Bson)) → ArePairsRawFree (listed_pairs ps)
pairs_free [] = tt
pairs_free (p ∷ ps) = (bson_free p.value, pairs_free ps)

-- nothing in a document in memory is given by its bytes
pub document_free : (d : Document) → ArePairsRawFree (pairs_of d)
document_free d = pairs_free d.0

-- ---- keys

found_by : (b : Bool) (x w : Wrapper) (key : Utf8) (others : Option Wrapper) → bytes_eq key (wrapper.key x) ≡ b → (others ≡ Some w → key ≡ wrapper.key w) → cond b (Some x) others ≡ Some w → key ≡ wrapper.key w
found_by true x w key others same rest e = (bytes_eq-Decides key (wrapper.key x)).0 same ∙ ap wrapper.key (some_is x w e)
found_by false x w key others same rest e = rest e

found : (ws : List Wrapper) (key : Utf8) (w : Wrapper) → with_key key ws ≡ Some w → key ≡ wrapper.key w
found [] key w e = absurd cc
found (x ∷ ws) key w e = found_by (bytes_eq key (wrapper.key x)) x w key (with_key key ws) refl (found ws key w) e

-- the key `$oid` is known
known : (key : Utf8) → of_key key ≡ Some Oid → codes "$oid" ≡ key
unfolding of_key
known key e = sym (found wrappers key Oid e)

-- no other key is `$oid`
unknown : (key : Utf8) → of_key key ≡ None → bytes_eq (codes "$oid") key ≡ false
unfolding of_key
unknown key e = by (bytes_eq (codes "$oid") key) refl
  where
    by : (b : Bool) → bytes_eq (codes "$oid") key ≡ b → b ≡ false
    by true same = let oid : of_key (codes "$oid") ≡ None = ap of_key ((bytes_eq-Decides (codes "$oid") key).0 same) ∙ e in absurd cc
    by false same = refl

-- ---- the value of `$oid`

text_id : (x : Utf8) (id : Bytes) → id_of_text x ≡ Some (trees.object_id id) → bytes_of_digits 12 x ≡ Some id
text_id x id e = let m = some_map trees.object_id (bytes_of_digits 12 x) (trees.object_id id) e in m.1 ∙ ap Some cc

twelve : (b : Bool) (x id : Bytes) → cond b (Some (trees.object_id x)) None ≡ Some (trees.object_id id) → cond b (Some x) None ≡ Some id
twelve true x id e = ap Some cc
twelve false x id e = absurd cc

given_is : (t : Tree) (levels : ℕ) (id : Bytes) → IsRawFree t → oid_body (tree_node from_memory t levels) ≡ Ok (Some (trees.object_id id)) → id_given t ≡ Some id
given_is (trees.string x) levels id f e = text_id x id (ok_is (id_of_text x) (Some (trees.object_id id)) e)
given_is (trees.binary zero b) levels id f e = twelve _ b id (ok_is (of_length 12 trees.object_id b) (Some (trees.object_id id)) e)
given_is (trees.binary (suc n) b) levels id f e = absurd cc
given_is (trees.document ps) zero id f e = absurd cc
given_is (trees.document ps) (suc levels) id f e = absurd cc
given_is (trees.array ts) zero id f e = absurd cc
given_is (trees.array ts) (suc levels) id f e = absurd cc
given_is (trees.raw k b) levels id f e = absurd f
given_is t levels id f e = absurd cc

body_is : (key : Utf8) (t : Tree) (levels : ℕ) (id : Bytes) → IsRawFree t → under key (judging oid_body (tree_node from_memory t levels) >>= or_bad Oid) ≡ Ok (trees.object_id id) → id_given t ≡ Some id
body_is key t levels id f e =
    let n = tree_node from_memory t levels in
    let m = bind_ok (judging oid_body n) (or_bad Oid) (trees.object_id id) (under_ok key (judging oid_body n >>= or_bad Oid) (trees.object_id id) e) in
    let j = bind_ok (judged n) oid_body m.0 m.1 in
    given_is t levels id f (subst (λ v. oid_body v ≡ Ok m.0) (sym (judged_is n j.0 j.1)) j.2 ∙ ap Ok (valid_is Oid m.0 (trees.object_id id) m.2))

-- ---- the first wrapper key

first_is : (o : Option Wrapper) (key : Utf8) (t : Tree) (ps : Pairs) (levels : ℕ) (others : Tree → Reading Tree) (id : Bytes) → IsRawFree t → of_key key ≡ o
    → ((u : Tree) → others u ≡ Ok (trees.object_id id) → at (codes "$oid") id_given ps ≡ Some id)
    → by_key o key (tree_node from_memory t levels) (judged (tree_node from_memory t levels) >>= λ _. as_tree (tree_node from_memory t levels)) others
    (λ x. after_code x (pair_nodes from_memory ps levels)) (λ qs. after_scope qs (pair_nodes from_memory ps levels)) ≡ Ok (trees.object_id id)
    → at (codes "$oid") id_given (pair key t ps) ≡ Some id
first_is None key t ps levels others id f is rest e =
    let n = tree_node from_memory t levels in
    let m = bind_ok (under key (judged n >>= λ _. as_tree n)) others (trees.object_id id) e in
    rw (unknown key is) (rest m.0 m.2)
first_is (Some w) key t ps levels others id f is rest e =
    let n = tree_node from_memory t levels in
    let ns = pair_nodes from_memory ps levels in
    let value = judged n >>= λ _. as_tree n in
    let oid : w ≡ Oid = only_oid w key n ns value id e in
    let meant : by_meaning Oid (meaning Oid) key n value (λ x. after_code x ns) (λ qs. after_scope qs ns) ≡ Ok (trees.object_id id) =
    subst (λ v. by_meaning v (meaning v) key n value (λ x. after_code x ns) (λ qs. after_scope qs ns) ≡ Ok (trees.object_id id)) oid e in
    let same : bytes_eq (codes "$oid") key ≡ true = (bytes_eq-Decides (codes "$oid") key).1 (known key (is ∙ ap Some oid)) in
    rw same (body_is key t levels id f meant)

at_oid : (ps done : Pairs) (levels : ℕ) (id : Bytes) → ArePairsRawFree ps → document_tree (pair_nodes from_memory ps levels) done ≡ Ok (trees.object_id id) → at (codes "$oid") id_given ps ≡ Some id
at_oid no_pairs done levels id f e = absurd cc
at_oid (pair key t ps) done levels id f e =
    first_is (of_key key) key t ps levels (λ u. document_tree (pair_nodes from_memory ps levels) (put key u done)) id f.0 refl
    (λ u g. at_oid ps (put key u done) levels id f.1 g) e

-- ---- what is read at the leaf of ObjectIds

read_is : (t : Tree) (u : Tree) → is_raw t ≡ false → tree_of_kind kinds.ObjectId t ≡ Ok u → (id : Bytes) × (t ≡ trees.object_id id)
read_is (trees.object_id id) u free e = (id, refl)
read_is (trees.raw k b) u free e = absurd cc
read_is t u free e = absurd cc

-- a document that is read so has the id that is read
pub read_given : (ps : Pairs) (levels : ℕ) (x : Marked) → ArePairsRawFree ps → result_map (datum made) (document_tree (pair_nodes from_memory ps levels) no_pairs >>= tree_of_kind kinds.ObjectId) ≡ Ok x
    → id_read (document_tree (pair_nodes from_memory ps levels) no_pairs) ≡ at (codes "$oid") id_given ps
read_given ps levels x f e =
    let r = document_tree (pair_nodes from_memory ps levels) no_pairs in
    let m = map_ok (datum made) (r >>= tree_of_kind kinds.ObjectId) x e in
    let b = bind_ok r (tree_of_kind kinds.ObjectId) m.0 m.1 in
    let i = read_is b.0 m.0 (document_not_raw (pair_nodes from_memory ps levels) no_pairs b.0 b.1) b.2 in
    let whole : r ≡ Ok (trees.object_id i.0) = b.1 ∙ ap Ok i.1 in
    ap id_read whole ∙ sym (at_oid ps no_pairs levels i.0 f whole)

-- of one that is refused none is read
not_id : (t : Tree) (e : Refusal ReadFault) → result_map (datum made) (tree_of_kind kinds.ObjectId t) ≡ Err e → id_read (Ok t) ≡ None
not_id (trees.object_id id) e f = absurd cc
not_id t e f = refl

pub refused_id : (r : Reading Tree) (e : Refusal ReadFault) → result_map (datum made) (r >>= tree_of_kind kinds.ObjectId) ≡ Err e → id_read r ≡ None
refused_id (Ok t) e f = not_id t e f
refused_id (Err d) e f = refl
