-- What reading a value in its bytes gives, of whatever it is read.
use Rattle.std.proofs.Common.{◌≡◌, ℕ, zero, pos, ◌^◌, ◌<◌, length, true, false, None, Ok, refl, subst}
use Rattle.std.specs.Int.{w32, w64}
use Rattle.std.specs.Prelude.{FitsSigned, codes}
use Rattle.std.specs.Str.{is_utf8}
use Rattle.bson_kinds.specs.Outcome.{◌>>=◌}
use Rattle.bson_kinds.specs.Text.{Bytes, Utf8, AreBytes, has_zero}
use Rattle.bson_base.specs.Tree as tree
use Rattle.bson_base.specs.Tree.{Tree, kind}
use Rattle.bson_kinds.proofs.Outcomes.{ok_is, map_ok}
use Rattle.bson_rawdoc.specs.Node as node
use Rattle.bson_rawdoc.specs.Node.{of_bytes, Whole, Sight, Node, Extended, fault, extended_fault}
use Rattle.bson_kinds.specs.Piece.{Piece, borrowed}
use Rattle.bson_values.specs.Marked.{Marked, contents}
use Rattle.bson_values.specs.Refusal.{under}
use Rattle.bson_values.specs.Value as value
use Rattle.bson_values.specs.Value.{u8, i32, i64, Value}
use Rattle.bson_laws.specs.Datum.{datum, itself, two, nameless, wrapped}
use Rattle.bson_laws.specs.Judged.{judged, scope_key}
use Rattle.bson_laws.specs.ReadsRaw.{slice_of, raw_document_of, raw_array_of, scoped_code, raw_extended, raw_value_of}
use Rattle.bson_laws.specs.Writable.{HoldsNoExpression}
use Rattle.bson_laws.proofs.Framed.{IsFramed}
use Rattle.bson_laws.proofs.GivenTrees.{IsGivenTree}
use Rattle.bson_laws.proofs.JudgedTexts.{judged_text, no_fault, neither_fault, unfaulted}
use Rattle.bson_laws.proofs.Sizes.{under_ok}
use Rattle.bson_laws.proofs.Tame.{IsSliceFramed, IsTame, IsTameValue, after_judged}
use Rattle.bson_kinds.proofs.Apart.{no_ok}

-- ---- what is given

-- what a value is made of that is read so
pub data Kept : Type 0 where
  a_document : Bytes → Kept
  an_array : Bytes → Kept
  -- a value that is the same as a tree
  a_tree : Tree → Kept
  -- a binary of a subtype of its own
  a_binary : (subtype : ℕ) → Bytes → Kept
  -- code, with a scope
  a_code : Utf8 → (scope : Bytes) → Kept

abbrev pub binary_value : ℕ → Bytes → Value
binary_value n b = wrapped itself (codes "$binary") (nameless itself (two itself (codes "bytes") (value.bytes b) (codes "subType") (value.integer u8 (pos n))))

abbrev pub code_value : Utf8 → Bytes → Value
code_value code scope = value.structure (codes "$codeWithScope") (two itself (codes "$code") (value.str code) (codes "$scope") (value.raw_document scope))

abbrev pub kept_value : Kept → Value
kept_value (a_document b) = value.raw_document b
kept_value (an_array b) = value.raw_array b
kept_value (a_tree t) = datum itself t
kept_value (a_binary n b) = binary_value n b
kept_value (a_code code scope) = code_value code scope

-- a tree that is no document, no array, no binary of a subtype of its own, and no code with a scope; each part has the size of its kind, texts are UTF-8, and the
-- texts of a regular expression hold no zero
abbrev pub IsWhole : Tree → Type 0
IsWhole (tree.double bits) = length bits ≡ 8
IsWhole (tree.string t) = is_utf8 t ≡ true
IsWhole (tree.binary zero b) = Unit {0}
IsWhole tree.undefined = Unit {0}
IsWhole (tree.object_id id) = (length id ≡ 12) × AreBytes id
IsWhole (tree.boolean b) = Unit {0}
IsWhole (tree.date_time n) = FitsSigned w64 n
IsWhole tree.null = Unit {0}
IsWhole (tree.regular_expression p q) = (is_utf8 p ≡ true) × (is_utf8 q ≡ true) × (has_zero p ≡ false) × (has_zero q ≡ false)
IsWhole (tree.db_pointer namespace id) = (is_utf8 namespace ≡ true) × (length id ≡ 12) × AreBytes id
IsWhole (tree.javascript_code t) = is_utf8 t ≡ true
IsWhole (tree.symbol t) = is_utf8 t ≡ true
IsWhole (tree.int32 n) = FitsSigned w32 n
IsWhole (tree.timestamp time increment) = (time < 2 ^ 32) × (increment < 2 ^ 32)
IsWhole (tree.int64 n) = FitsSigned w64 n
IsWhole (tree.decimal128 b) = length b ≡ 16
IsWhole tree.max_key = Unit {0}
IsWhole tree.min_key = Unit {0}
IsWhole t = ⊥

-- what holds of each given tree that holds no regular expression, and of those expressions, holds of such a tree
pub by_whole : (P : Tree → Type 0) → ((t : Tree) → IsGivenTree t → HoldsNoExpression (kind t) → P t) → ((p q : Utf8) → IsWhole (tree.regular_expression p q) → P (tree.regular_expression p q)) → (t : Tree) → IsWhole t → P t
by_whole P each expression (tree.double bits) w = each (tree.double bits) w tt
by_whole P each expression (tree.string x) w = each (tree.string x) w tt
by_whole P each expression (tree.binary zero b) w = each (tree.binary zero b) tt tt
by_whole P each expression tree.undefined w = each tree.undefined tt tt
by_whole P each expression (tree.object_id id) w = each (tree.object_id id) w tt
by_whole P each expression (tree.boolean b) w = each (tree.boolean b) tt tt
by_whole P each expression (tree.date_time n) w = each (tree.date_time n) w tt
by_whole P each expression tree.null w = each tree.null tt tt
by_whole P each expression (tree.regular_expression p q) w = expression p q w
by_whole P each expression (tree.db_pointer namespace id) w = each (tree.db_pointer namespace id) w tt
by_whole P each expression (tree.javascript_code x) w = each (tree.javascript_code x) w tt
by_whole P each expression (tree.symbol x) w = each (tree.symbol x) w tt
by_whole P each expression (tree.int32 n) w = each (tree.int32 n) w tt
by_whole P each expression (tree.timestamp time increment) w = each (tree.timestamp time increment) w tt
by_whole P each expression (tree.int64 n) w = each (tree.int64 n) w tt
by_whole P each expression (tree.decimal128 b) w = each (tree.decimal128 b) w tt
by_whole P each expression tree.max_key w = each tree.max_key tt tt
by_whole P each expression tree.min_key w = each tree.min_key tt tt
by_whole P each expression t w = absurd w

abbrev pub IsKept : Kept → Type 0
IsKept (a_document b) = IsFramed b
IsKept (an_array b) = IsFramed b
IsKept (a_tree t) = IsWhole t
IsKept (a_binary n b) = n < 256
IsKept (a_code code scope) = (is_utf8 code ≡ true) × IsFramed scope

abbrev pub IsGivenRaw : Value → Type 0
IsGivenRaw v = (k : Kept) × IsKept k × (v ≡ kept_value k)

-- ---- documents and arrays

slice_framed : (slice : Whole) (p : Piece) → IsSliceFramed slice → slice_of slice ≡ Ok p → IsFramed p.bytes
slice_framed (of_bytes b) p f e = subst (λ (x : Piece). IsFramed x.bytes) (ok_is (borrowed b) p e) f
slice_framed w p f e = absurd (no_ok e)

pub document_framed : (at : Sight) (n : Node) (p : Piece) → IsTame at n → raw_document_of n ≡ Ok p → IsFramed p.bytes
document_framed at (node.document slice ns) p t e = slice_framed slice p t.0 e
document_framed at n p t e = absurd (no_ok e)

pub array_framed : (at : Sight) (n : Node) (p : Piece) → IsTame at n → raw_array_of n ≡ Ok p → IsFramed p.bytes
array_framed at (node.array slice ns) p t e = slice_framed slice p t.0 e
array_framed at n p t e = absurd (no_ok e)

-- ---- all values

kept : (k : Kept) (w v : Marked) → IsKept k → contents w ≡ kept_value k → w ≡ v → IsGivenRaw (contents v)
kept k w v h is e = subst (λ x. IsGivenRaw (contents x)) e (k, h, is)

extended_given : (at : Sight) (x : Extended) (v : Marked) → IsTameValue at x → extended_fault x ≡ None → raw_extended x ≡ Ok v → IsGivenRaw (contents v)
extended_given at (node.binary s b) v t f e = kept (a_binary s b.bytes) _ v t.0 refl (ok_is _ v e)
extended_given at node.undefined v t f e = kept (a_tree tree.undefined) _ v tt refl (ok_is _ v e)
extended_given at (node.object_id id) v t f e = kept (a_tree (tree.object_id id.bytes)) _ v (t.0, t.1) refl (ok_is _ v e)
extended_given at (node.date_time n) v t f e = kept (a_tree (tree.date_time n)) _ v t refl (ok_is _ v e)
extended_given at (node.regular_expression p q) v t f e =
    let b = neither_fault (node.text_fault p) (node.text_fault q) f in
    kept (a_tree (tree.regular_expression p.bytes q.bytes)) _ v (unfaulted p b.0, unfaulted q b.1, t.2, t.3) refl (ok_is _ v e)
extended_given at (node.db_pointer namespace id) v t f e = kept (a_tree (tree.db_pointer namespace.bytes id)) _ v (unfaulted namespace f, t.0, t.1) refl (ok_is _ v e)
extended_given at (node.javascript_code p) v t f e = kept (a_tree (tree.javascript_code p.bytes)) _ v (unfaulted p f) refl (ok_is _ v e)
extended_given at (node.symbol p) v t f e = kept (a_tree (tree.symbol p.bytes)) _ v (unfaulted p f) refl (ok_is _ v e)
extended_given at (node.javascript_code_with_scope p n) v t f e =
    let b = neither_fault (node.text_fault p) (fault n) f in
    let r = map_ok (scoped_code p) (under scope_key (judged n >>= raw_document_of)) v e in
    let scope = document_framed at n r.0 t.0 (after_judged n raw_document_of r.0 (under_ok scope_key (judged n >>= raw_document_of) r.0 r.1)) in
    kept (a_code p.bytes r.0.bytes) (scoped_code p r.0) v (unfaulted p b.0, scope) refl r.2
extended_given at (node.timestamp time increment) v t f e = kept (a_tree (tree.timestamp time increment)) _ v t refl (ok_is _ v e)
extended_given at (node.decimal128 b) v t f e = kept (a_tree (tree.decimal128 b.bytes)) _ v t.0 refl (ok_is _ v e)
extended_given at node.max_key v t f e = kept (a_tree tree.max_key) _ v tt refl (ok_is _ v e)
extended_given at node.min_key v t f e = kept (a_tree tree.min_key) _ v tt refl (ok_is _ v e)

pub raw_given : (at : Sight) (n m : Node) (v : Marked) → IsTame at n → judged n ≡ Ok m → raw_value_of n ≡ Ok v → IsGivenRaw (contents v)
raw_given at (node.document slice ns) m v t j e = let r = map_ok value.raw_document (slice_of slice) v e in kept (a_document r.0.bytes) (value.raw_document r.0) v (slice_framed slice r.0 t.0 r.1) refl r.2
raw_given at (node.array slice ns) m v t j e = let r = map_ok value.raw_array (slice_of slice) v e in kept (an_array r.0.bytes) (value.raw_array r.0) v (slice_framed slice r.0 t.0 r.1) refl r.2
raw_given at (node.double bits) m v t j e = kept (a_tree (tree.double bits)) (value.double bits) v t refl (ok_is _ v e)
raw_given at (node.string p) m v t j e = kept (a_tree (tree.string p.bytes)) (value.str p) v (judged_text p m j) refl (ok_is _ v e)
raw_given at (node.bytes u b) m v t j e = kept (a_tree (tree.binary 0 b.bytes)) (value.bytes b) v tt refl (ok_is _ v e)
raw_given at (node.boolean b) m v t j e = kept (a_tree (tree.boolean b)) (value.boolean b) v tt refl (ok_is _ v e)
raw_given at node.null m v t j e = kept (a_tree tree.null) value.unit v tt refl (ok_is _ v e)
raw_given at (node.int32 n) m v t j e = kept (a_tree (tree.int32 n)) (value.integer i32 n) v t refl (ok_is _ v e)
raw_given at (node.int64 n) m v t j e = kept (a_tree (tree.int64 n)) (value.integer i64 n) v t refl (ok_is _ v e)
raw_given at (node.extended x ns) m v t j e = extended_given at x v t.0 (no_fault (extended_fault x) (node.extended x ns) m j) e
raw_given at n m v t j e = absurd (no_ok e)
