-- What is read of a value of a tree in memory that is put in its bytes.
use Rattle.std.proofs.Common.{◌≡◌, ℕ, ℤ, pos, negsuc, zero, suc, ◌^◌, Bool, true, false, cond, Option, Some, None, Ok, Err, refl, ap, subst, ◌∙◌}
use Rattle.std.proofs.lemmas.Bool.{ltb-true}
use Rattle.std.specs.Prelude.{nat_lt, option_map, option_and_then, codes}
use Rattle.std.specs.Str.{bytes_eq}
use Rattle.bson_kinds.specs.Outcome.{◌>>=◌, result_map}
use Rattle.bson_kinds.specs.Text.{Utf8}
use Rattle.bson_kinds.proofs.Apart.{no_ok, no_some}
use Rattle.bson_kinds.proofs.Outcomes.{some_is, ok_is, some_map, some_then, map_ok, bind_ok}
use Rattle.bson_base.specs.Encoded.{EncodeFault, encode_fault}
use Rattle.bson_base.specs.Folded.{text_of, pairs_in, at, plain_bytes, uint32_of}
use Rattle.bson_base.specs.Pairs.{lookup}
use Rattle.bson_base.specs.Sound.{max_levels}
use Rattle.bson_base.specs.Tree as tree
use Rattle.bson_base.specs.Tree.{Tree, Pairs, no_pairs, pair}
use Rattle.bson_rawdoc.specs.Node as node
use Rattle.bson_rawdoc.specs.Node.{Whole, of_bytes, of_tree, of_opening, Node, Extended, Nodes, opens, from_memory, piece, tree_node}
use Rattle.bson_values.specs.Cause.{unknown_field}
use Rattle.bson_values.specs.Marked.{Marked, contents}
use Rattle.bson_values.specs.Refusal.{under}
use Rattle.bson_values.specs.Value as value
use Rattle.bson_values.specs.Value.{i64}
use Rattle.bson_values.specs.Wrapper.{of_key}
use Rattle.bson_values.specs.declared.wrapper.Wrapper.{Wrapper}
use Rattle.bson_values.specs.declared.wrapper.Wrapper.TheVariants as wrappers
use Rattle.bson_laws.specs.Assembled.{Building, unless, or_bad, plain, one_level, Looked, stays, becomes, looked_tree, scope_of, with_scope, of_body, by_first_key, by_key, built, looked_at, built_pairs, built_trees, after_code, scope_in, within_limit, assembled_tree}
use Rattle.bson_laws.specs.FirstKeys as keys
use Rattle.bson_laws.specs.FirstKeys.{number_in, byte_in, uint32_in, bytes_in, id_given, id_in, is_boolean, is_in_int32, regular_expression_of, binary_of, timestamp_of, db_pointer_of, first_key}
use Rattle.bson_laws.specs.Judged.{judged, scope_key}
use Rattle.bson_laws.specs.ReadsRaw.{slice_of, raw_extended, raw_value_of}
use Rattle.bson_laws.specs.TreeRaw.{held_scope, opened_pairs, as_reading, built_of, read_built, built_value, tree_raw_value_of}
use Rattle.bson_laws.specs.Unmarked.{with_document}
use Rattle.bson_laws.specs.Wrapped.{tree_if}
use Rattle.bson_laws.proofs.Tame.{IsTame}
use Rattle.bson_laws.proofs.Writable.{IsSmall, wide_small}
use Rattle.bson_number_laws.proofs.Numbers.{Holds, boolean_holds, double_holds, text_holds, bytes_hold, unit_holds, small_holds, byte_holds, short_holds, word_small, raw_document_holds, raw_array_holds, one_holds, two_hold}
use Rattle.bson_number_laws.proofs.TameTrees.{IsHeldWhole, IsSeen}

-- ---- values as they are

-- what it is by itself holds numbers that an Int64 holds
abbrev HasSmall : Node → Type 0
HasSmall (node.int64 n) = IsSmall n
HasSmall (node.extended (node.timestamp time increment) ns) = IsSmall (pos time) × IsSmall (pos increment)
HasSmall n = Unit {0}

tame_small : (n : Node) → IsTame from_memory n → HasSmall n
tame_small (node.int64 n) t = wide_small n t
tame_small (node.extended (node.timestamp time increment) ns) t = (word_small time t.0.0, word_small increment t.0.1)
tame_small n t = tt

abbrev ReadHolds : Marked → Type 0
ReadHolds v = Holds (contents v)

extended_holds : (x : Extended) (ns : Nodes) (v : Marked) → HasSmall (node.extended x ns) → raw_extended x ≡ Ok v → ReadHolds v
extended_holds (node.binary s b) ns v h e = subst ReadHolds (ok_is _ v e) (one_holds _ _ _ (two_hold _ _ _ _ _ (bytes_hold _) (byte_holds _)))
extended_holds node.undefined ns v h e = subst ReadHolds (ok_is _ v e) (one_holds _ _ _ (boolean_holds _))
extended_holds (node.object_id id) ns v h e = subst ReadHolds (ok_is _ v e) (one_holds _ _ _ (text_holds _))
extended_holds (node.date_time n) ns v h e = subst ReadHolds (ok_is _ v e) (one_holds _ _ _ (one_holds _ _ _ (text_holds _)))
extended_holds (node.regular_expression p q) ns v h e = subst ReadHolds (ok_is _ v e) (one_holds _ _ _ (two_hold _ _ _ _ _ (text_holds _) (text_holds _)))
extended_holds (node.db_pointer x id) ns v h e = subst ReadHolds (ok_is _ v e) (one_holds _ _ _ (two_hold _ _ _ _ _ (text_holds _) (one_holds _ _ _ (text_holds _))))
extended_holds (node.javascript_code x) ns v h e = subst ReadHolds (ok_is _ v e) (one_holds _ _ _ (text_holds _))
extended_holds (node.symbol x) ns v h e = subst ReadHolds (ok_is _ v e) (one_holds _ _ _ (text_holds _))
extended_holds (node.javascript_code_with_scope code scope) ns v h e =
    let r = map_ok _ _ v e in subst ReadHolds r.2 (two_hold _ _ _ _ _ (text_holds _) (raw_document_holds _))
extended_holds (node.timestamp time increment) ns v h e =
    subst ReadHolds (ok_is _ v e) (one_holds _ _ _ (two_hold _ _ _ _ _ (small_holds i64 (pos time) h.0) (small_holds i64 (pos increment) h.1)))
extended_holds (node.decimal128 b) ns v h e = subst ReadHolds (ok_is _ v e) (one_holds _ _ _ (bytes_hold _))
extended_holds node.max_key ns v h e = subst ReadHolds (ok_is _ v e) (one_holds _ _ _ (short_holds _))
extended_holds node.min_key ns v h e = subst ReadHolds (ok_is _ v e) (one_holds _ _ _ (short_holds _))

raw_holds : (n : Node) (v : Marked) → HasSmall n → raw_value_of n ≡ Ok v → ReadHolds v
raw_holds (node.document w ns) v h e = let r = map_ok value.raw_document (slice_of w) v e in subst ReadHolds r.2 (raw_document_holds _)
raw_holds (node.array w ns) v h e = let r = map_ok value.raw_array (slice_of w) v e in subst ReadHolds r.2 (raw_array_holds _)
raw_holds (node.double bits) v h e = subst ReadHolds (ok_is _ v e) (double_holds bits)
raw_holds (node.string p) v h e = subst ReadHolds (ok_is _ v e) (text_holds _)
raw_holds (node.bytes u b) v h e = subst ReadHolds (ok_is _ v e) (bytes_hold _)
raw_holds (node.boolean b) v h e = subst ReadHolds (ok_is _ v e) (boolean_holds b)
raw_holds node.null v h e = subst ReadHolds (ok_is _ v e) unit_holds
raw_holds (node.int32 n) v h e = subst ReadHolds (ok_is _ v e) (short_holds n)
raw_holds (node.int64 n) v h e = subst ReadHolds (ok_is _ v e) (small_holds i64 n h)
raw_holds (node.extended x ns) v h e = extended_holds x ns v h e
raw_holds n v h e = absurd (no_ok e)

-- ---- what is built

-- the same of a tree that is built; none is given by its bytes
abbrev IsCounted : Tree → Type 0
IsCounted (tree.int64 n) = IsSmall n
IsCounted (tree.timestamp time increment) = IsSmall (pos time) × IsSmall (pos increment)
IsCounted (tree.raw k b) = ⊥
IsCounted t = Unit {0}

built_holds : (t : Tree) (v : Marked) → IsCounted t → built_value t ≡ Ok v → ReadHolds v
built_holds (tree.document ps) v h e = subst ReadHolds (ok_is _ v e) (raw_document_holds _)
built_holds (tree.array ts) v h e = subst ReadHolds (ok_is _ v e) (raw_array_holds _)
built_holds (tree.javascript_code_with_scope code scope) v h e = subst ReadHolds (ok_is _ v e) (two_hold _ _ _ _ _ (text_holds _) (raw_document_holds _))
built_holds (tree.binary zero b) v h e = raw_holds (node.bytes false (piece false b)) v tt e
built_holds (tree.binary (suc n) b) v h e = raw_holds (opens (node.binary (suc n) (piece false b))) v tt e
built_holds (tree.int64 n) v h e = raw_holds (node.int64 n) v h e
built_holds (tree.timestamp time increment) v h e = raw_holds (opens (node.timestamp time increment)) v h e
built_holds (tree.raw k b) v h e = absurd h
built_holds t v h e = raw_holds (tree_node from_memory t zero) v tt e

-- ---- what first keys stand for

word_of : (z : ℤ) (n : ℕ) → uint32_of z ≡ Some n → IsSmall (pos n)
word_of (pos m) n e = by_case (nat_lt m (2 ^ 32)) refl e where
  by_case : (b : Bool) → nat_lt m (2 ^ 32) ≡ b → cond b (Some m) None ≡ Some n → IsSmall (pos n)
  by_case true is q = subst (λ k. IsSmall (pos k)) (some_is m n q) (word_small m (ltb-true _ _ is))
  by_case false is q = absurd (no_some q)
word_of (negsuc m) n e = absurd (no_some e)

word_at : (key : Utf8) (ps : Pairs) (n : ℕ) → at key uint32_in ps ≡ Some n → IsSmall (pos n)
word_at key ps n e =
    let a = some_then uint32_in (lookup key ps) n e in
    let b = some_then uint32_of (number_in a.0) n a.2 in
    word_of b.0 n b.2

if_counted : (b : Bool) (t u : Tree) → IsCounted t → tree_if b t ≡ Some u → IsCounted u
if_counted true t u h e = subst IsCounted (some_is t u e) h
if_counted false t u h e = absurd (no_some e)

-- something in one part of a document, and something in another
parts_counted : {A B : Type 0} (make : A → B → Tree) (o : Option A) (p : Option B) (u : Tree) → ((a : A) (b : B) → o ≡ Some a → p ≡ Some b → IsCounted (make a b)) → option_and_then (λ a. option_map (make a) p) o ≡ Some u → IsCounted u
parts_counted make o p u each e =
    let a = some_then (λ x. option_map (make x) p) o u e in
    let b = some_map (make a.0) p u a.2 in
    subst IsCounted b.2 (each a.0 b.0 a.1 b.1)

-- what the value of a first key stands for
abbrev stands_for : keys.FirstKey → Tree → Option Tree
stands_for (keys.body form) t = form t
stands_for k t = None

key_counted : (w : Wrapper) (t u : Tree) → stands_for (first_key w) t ≡ Some u → IsCounted u
key_counted wrappers.Oid t u e = let m = some_map tree.object_id (id_given t) u e in subst IsCounted m.2 tt
key_counted wrappers.Symbol t u e = let m = some_then (λ x. Some (tree.symbol x)) (text_of t) u e in subst IsCounted (some_is (tree.symbol m.0) u m.2) tt
key_counted wrappers.NumberDecimalBytes t u e = let m = some_map tree.decimal128 (bytes_in 16 t) u e in subst IsCounted m.2 tt
key_counted wrappers.RegularExpression t u e =
    let m = some_then regular_expression_of (pairs_in t) u e in parts_counted tree.regular_expression (at (codes "pattern") text_of m.0) (at (codes "options") text_of m.0) u (λ a b p q. tt) m.2
key_counted wrappers.Undefined t u e = if_counted (is_boolean t) tree.undefined u tt e
key_counted wrappers.Binary t u e =
    let m = some_then binary_of (pairs_in t) u e in parts_counted (λ b n. tree.binary n b) (at (codes "bytes") plain_bytes m.0) (at (codes "subType") byte_in m.0) u (λ a b p q. tt) m.2
key_counted wrappers.Date t u e = let m = some_map tree.date_time (number_in t) u e in subst IsCounted m.2 tt
key_counted wrappers.Timestamp t u e =
    let m = some_then timestamp_of (pairs_in t) u e in
    parts_counted tree.timestamp (at (codes "t") uint32_in m.0) (at (codes "i") uint32_in m.0) u (λ a b p q. (word_at (codes "t") m.0 a p, word_at (codes "i") m.0 b q)) m.2
key_counted wrappers.MinKey t u e = if_counted (is_in_int32 t) tree.min_key u tt e
key_counted wrappers.MaxKey t u e = if_counted (is_in_int32 t) tree.max_key u tt e
key_counted wrappers.DbPointer t u e =
    let m = some_then db_pointer_of (pairs_in t) u e in parts_counted tree.db_pointer (at (codes "$ref") text_of m.0) (at (codes "$id") id_in m.0) u (λ a b p q. tt) m.2
key_counted w t u e = absurd (no_some e)

-- ---- codes

scoped_counted : (text : Utf8) (r : Building Looked) (u : Tree) → with_scope text r ≡ Ok u → IsCounted u
scoped_counted text r u e = let m = map_ok (tree.javascript_code_with_scope text) (r >>= scope_of) u e in subst IsCounted m.2 tt

code_counted : (ps : Pairs) (text : Utf8) (levels : ℕ) (u : Tree) → after_code ps text levels ≡ Ok u → IsCounted u
code_counted no_pairs text levels u e = subst IsCounted (ok_is (tree.javascript_code text) u e) tt
code_counted (pair key t ps) text levels u e = by_case (bytes_eq key scope_key) e where
  by_case : (b : Bool) → cond b (with_scope text (scope_in t levels)) (Err (unknown_field key)) ≡ Ok u → IsCounted u
  by_case true q = scoped_counted text (scope_in t levels) u q
  by_case false q = absurd (no_ok q)

-- ---- documents

unless_is : (o : Option EncodeFault) (t u : Tree) → unless o (Ok t) ≡ Ok u → t ≡ u
unless_is None t u e = ok_is t u e
unless_is (Some f) t u e = absurd (no_ok e)

or_bad_is : {A : Type 0} (w : Wrapper) (o : Option A) (x : A) → or_bad w o ≡ Ok x → o ≡ Some x
or_bad_is w (Some y) x e = ap Some (ok_is y x e)
or_bad_is w None x e = absurd (no_ok e)

abbrev LookedCounted : Looked → Type 0
LookedCounted x = IsCounted (looked_tree x)

stays_counted : (r : Building Pairs) (x : Looked) → result_map stays r ≡ Ok x → LookedCounted x
stays_counted r x e = let m = map_ok stays r x e in subst LookedCounted m.2 tt

first_counted : (w : Wrapper) (k : keys.FirstKey) (t : Tree) (f : Utf8 → Building Tree) (r : Building Pairs) (x : Looked) → ((u : Tree) → stands_for k t ≡ Some u → IsCounted u) → ((text : Utf8) (u : Tree) → f text ≡ Ok u → IsCounted u)
    → by_first_key w k t f (result_map stays r) ≡ Ok x → LookedCounted x
first_counted w (keys.body form) t f r x stands coded e =
    let m = map_ok becomes (of_body w form t) x e in
    let b = bind_ok (or_bad w (form t)) plain m.0 m.1 in
    subst LookedCounted m.2 (subst IsCounted (unless_is (encode_fault b.0) b.0 m.0 b.2) (stands b.0 (or_bad_is w (form t) b.0 b.1)))
first_counted w keys.code t f r x stands coded e =
    let m = map_ok becomes (or_bad wrappers.Code (text_of t) >>= f) x e in
    let b = bind_ok (or_bad wrappers.Code (text_of t)) f m.0 m.1 in
    subst LookedCounted m.2 (coded b.0 m.0 b.2)
first_counted w keys.ordinary t f r x stands coded e = stays_counted r x e

by_key_counted : (o : Option Wrapper) (t : Tree) (f : Utf8 → Building Tree) (r : Building Pairs) (x : Looked) → ((text : Utf8) (u : Tree) → f text ≡ Ok u → IsCounted u) → by_key o t f (result_map stays r) ≡ Ok x → LookedCounted x
by_key_counted None t f r x coded e = stays_counted r x e
by_key_counted (Some w) t f r x coded e = first_counted w (first_key w) t f r x (λ u. key_counted w t u) coded e

looked_counted : (ps : Pairs) (levels : ℕ) (x : Looked) → looked_at ps levels ≡ Ok x → LookedCounted x
looked_counted no_pairs levels x e = subst LookedCounted (ok_is (stays no_pairs) x e) tt
looked_counted (pair key t ps) levels x e = by_key_counted (of_key key) t (λ text. after_code ps text levels) (built_pairs (pair key t ps) levels) x (λ text. code_counted ps text levels) e

level_counted : (ps : Pairs) (levels : ℕ) (x : Looked) → one_level (looked_at ps) levels ≡ Ok x → LookedCounted x
level_counted ps zero x e = absurd (no_ok e)
level_counted ps (suc levels) x e = looked_counted ps levels x e

-- ---- documents, arrays and scopes

built_counted : (t : Tree) (levels : ℕ) (u : Tree) → IsHeldWhole (of_tree t) → built t levels ≡ Ok u → IsCounted u
built_counted (tree.document ps) levels u h e = let m = map_ok looked_tree (one_level (looked_at ps) levels) u e in subst IsCounted m.2 (level_counted ps levels m.0 m.1)
built_counted (tree.array ts) levels u h e = let m = map_ok tree.array (one_level (built_trees ts) levels) u e in subst IsCounted m.2 tt
built_counted t levels u h e = absurd h

-- the whole value was built
assembled_built : (t u : Tree) → as_reading (assembled_tree t) ≡ Ok u → built t max_levels ≡ Ok u
assembled_built t u e =
    let b = bind_ok (built t max_levels) (λ x. result_map (λ _. x) (within_limit x)) u (answered (assembled_tree t) e) in
    let m = map_ok (λ _. b.0) (within_limit b.0) u b.2 in
    b.1 ∙ ap Ok m.2
  where
    answered : (r : Building Tree) → as_reading r ≡ Ok u → r ≡ Ok u
    answered (Ok x) q = ap Ok (ok_is x u q)
    answered (Err c) q = absurd (no_ok q)

held_counted : (t u : Tree) → IsHeldWhole (of_tree t) → as_reading (assembled_tree t) ≡ Ok u → IsCounted u
held_counted t u h e = built_counted t max_levels u h (assembled_built t u e)

document_counted : (w : Whole) (ns : Nodes) (u : Tree) → IsHeldWhole w → read_built (node.document w ns) ≡ Ok u → IsCounted u
document_counted (of_bytes b) ns u h e = absurd (no_ok e)
document_counted (of_tree t) ns u h e = held_counted t u h e
document_counted of_opening ns u h e =
    let b = bind_ok (opened_pairs ns no_pairs) (λ ps. as_reading (assembled_tree (tree.document ps))) u e in held_counted (tree.document b.0) u tt b.2

array_counted : (w : Whole) (ns : Nodes) (u : Tree) → IsHeldWhole w → read_built (node.array w ns) ≡ Ok u → IsCounted u
array_counted (of_tree t) ns u h e = held_counted t u h e
array_counted w ns u h e = absurd (no_ok e)

scope_counted : (code : Utf8) (o : Option Tree) (u : Tree) → built_of (option_and_then (with_document code) o) ≡ Ok u → IsCounted u
scope_counted code None u e = absurd (no_ok e)
scope_counted code (Some (tree.document ps)) u e = scoped_counted code (one_level (looked_at ps) max_levels) u (assembled_built (tree.javascript_code_with_scope code ps) u e)
scope_counted code (Some t) u e = absurd (no_ok e)

-- ---- at `rawbson`

pub raw_value_holds : (n : Node) (v : Marked) → IsSeen n → tree_raw_value_of n ≡ Ok v → Holds (contents v)
raw_value_holds (node.document w ns) v s e = let b = bind_ok (read_built (node.document w ns)) built_value v e in built_holds b.0 v (document_counted w ns b.0 s.1.0 b.1) b.2
raw_value_holds (node.array w ns) v s e = let b = bind_ok (read_built (node.array w ns)) built_value v e in built_holds b.0 v (array_counted w ns b.0 s.1.0 b.1) b.2
raw_value_holds (node.extended (node.javascript_code_with_scope code scope) ns) v s e =
    let whole = node.extended (node.javascript_code_with_scope code scope) ns in
    let a = bind_ok (under scope_key (judged scope)) (λ _. read_built whole >>= built_value) v e in
    let b = bind_ok (read_built whole) built_value v a.2 in
    built_holds b.0 v (scope_counted code.bytes (held_scope scope) b.0 b.1) b.2
raw_value_holds n v s e = raw_holds n v (tame_small n s.0) e
