-- The value of an element is the node of its bytes, and the fault that it is refused for is the node's.
use Rattle.std.proofs.Common.{◌≡◌, ℕ, ℤ, pos, negsuc, zero, suc, ◌+◌, length, drop, Bool, true, false, cond, Option, Some, None, Result, Ok, Err, refl, ap, ◌∙◌}
use Rattle.std.specs.Prelude.{◌-◌, ◌||◌, nat_lt, get_or, take}
use Rattle.std.specs.Ordering.{int_eq}
use Rattle.std.specs.Str.{is_utf8}
use Rattle.bson_kinds.specs.Text.{Bytes, Utf8}
use Rattle.bson_kinds.specs.Outcome.{◌>>=◌, result_map, or_else}
use Rattle.bson_kinds.specs.declared.element_type.ElementType.{ElementType}
use Rattle.bson_kinds.specs.declared.element_type.ElementType.TheVariants as kinds
use Rattle.bson_rawdoc.specs.Envelope.{is_closed, inside}
use Rattle.bson_rawdoc.specs.Extent.{two_texts_in}
use Rattle.bson_rawdoc.specs.Node.{of_bytes, Node, string, boolean, broken, regular_expression, db_pointer, javascript_code, symbol, javascript_code_with_scope, text_fault, fault, opens, binary_node, or_broken, text_bytes, two_bytes, db_pointer_bytes, scoped_bytes, node_with, nodes_with, holding, closed_node, node_in, inner_node, value_node}
use Rattle.bson_rawdoc.specs.Numbers.{int32_in}
use Rattle.bson_kinds.specs.Piece.{Piece, borrowed}
use Rattle.bson_rawdoc.specs.RawValue as raw
use Rattle.bson_rawdoc.specs.RawValue.{utf8_in, text_in, closed_in, boolean_of, binary_in, regex_of, db_pointer_in, code_and_scope, scoped_code, value_in}
use Rattle.bson_rawdoc.specs.Walk.{walk}
use Rattle.bson_faults.specs.declared.raw.Error.{Error}
use Rattle.bson_faults.specs.declared.raw.Error.TheVariants.{NotUtf8, TextUnclosed, ScopeTotal, ValueUnclosed}

-- What is seen is the node, which has no fault; what is refused is the fault of the node.
abbrev pub Sees : {A : Type 0} → (A → Node) → Result A Error → Node → Type 0
Sees make (Ok x) n = (n ≡ make x) × (fault n ≡ None)
Sees make (Err e) n = fault n ≡ Some e

mapped : {A B : Type 0} (f : A → B) (make : B → Node) (r : Result A Error) (n : Node) → Sees (λ x. make (f x)) r n → Sees make (result_map f r) n
mapped f make (Ok x) n h = h
mapped f make (Err e) n h = h

-- a value whose node has no fault, where there is one
plainly : {A : Type 0} (k : ElementType) (make : A → Node) (r : Result A Error) → ((x : A) → fault (make x) ≡ None) → Sees make r (or_broken k make r)
plainly k make (Ok x) h = (refl, h x)
plainly k make (Err e) h = refl

-- ---- texts

-- the fault of the node is that of the text
abbrev HasTextFault : (Piece → Node) → Type 0
HasTextFault make = (p : Piece) → fault (make p) ≡ text_fault p

text_either : (make : Piece → Node) → HasTextFault make → (b : Bytes) (u : Bool) → is_utf8 b ≡ u → Sees (λ t. make (borrowed t)) (cond u (Ok b) (Err NotUtf8)) (make (borrowed b))
text_either make same b true e = (refl, same (borrowed b) ∙ ap (λ x. cond x None (Some NotUtf8)) e)
text_either make same b false e = same (borrowed b) ∙ ap (λ x. cond x None (Some NotUtf8)) e

text_seen : (k : ElementType) (make : Piece → Node) → HasTextFault make → (b : Bytes) → Sees (λ t. make (borrowed t)) (text_in b) (or_broken k make (text_bytes b))
text_seen k make same b = by_case (is_closed b) where
  by_case : (c : Bool) → Sees (λ t. make (borrowed t)) (cond c (utf8_in (inside b)) (Err TextUnclosed)) (or_broken k make (cond c (Ok (borrowed (inside b))) (Err TextUnclosed)))
  by_case true = text_either make same (inside b) (is_utf8 (inside b)) refl
  by_case false = refl

-- ---- two texts

abbrev pattern_node : Piece × Piece → Node
pattern_node p = opens (regular_expression p.0 p.1)

regex_either : (p q : Bytes) (u w : Bool) → is_utf8 p ≡ u → is_utf8 q ≡ w
    → Sees (λ (r : Utf8 × Utf8). pattern_node (borrowed r.0, borrowed r.1)) (cond u (Ok p) (Err NotUtf8) >>= λ pattern. result_map (λ options. (pattern, options)) (cond w (Ok q) (Err NotUtf8))) (pattern_node (borrowed p, borrowed q))
regex_either p q true true e d = (refl, (λ i. or_else (cond (e i) None (Some NotUtf8)) (cond (d i) None (Some NotUtf8))))
regex_either p q true false e d = λ i. or_else (cond (e i) None (Some NotUtf8)) (cond (d i) None (Some NotUtf8))
regex_either p q false w e d = ap (λ x. or_else (cond x None (Some NotUtf8)) (text_fault (borrowed q))) e

regex_seen : (o : Option (Bytes × Bytes)) → Sees (λ (r : Utf8 × Utf8). pattern_node (borrowed r.0, borrowed r.1)) (regex_of o) (or_broken kinds.RegularExpression pattern_node (two_bytes o))
regex_seen None = refl
regex_seen (Some x) = regex_either x.0 x.1 (is_utf8 x.0) (is_utf8 x.1) refl refl

-- ---- a text and an ObjectId

pointer_seen : (b : Bytes) → Sees (λ (p : Utf8 × Bytes). opens (db_pointer (borrowed p.0) p.1)) (db_pointer_in b) (or_broken kinds.DbPointer (λ (p : Piece × Bytes). opens (db_pointer p.0 p.1)) (db_pointer_bytes b))
pointer_seen b = by_case (is_closed front) where
  front : Bytes
  front = take (length b - 12) b

  by_case : (c : Bool) → Sees (λ (p : Utf8 × Bytes). opens (db_pointer (borrowed p.0) p.1)) (result_map (λ n. (n, drop (length b - 12) b)) (cond c (utf8_in (inside front)) (Err TextUnclosed)))
      (or_broken kinds.DbPointer (λ (p : Piece × Bytes). opens (db_pointer p.0 p.1)) (result_map (λ n. (n, drop (length b - 12) b)) (cond c (Ok (borrowed (inside front))) (Err TextUnclosed))))
  by_case true = mapped (λ n. (n, drop (length b - 12) b)) (λ (p : Utf8 × Bytes). opens (db_pointer (borrowed p.0) p.1)) (utf8_in (inside front)) _ (text_either (λ p. opens (db_pointer p (drop (length b - 12) b))) (λ p. refl) (inside front) (is_utf8 (inside front)) refl)
  by_case false = refl

-- ---- all kinds, where documents, arrays and scopes are made so

binary_whole : (subtype : ℕ) (b : Piece) → fault (binary_node false subtype b) ≡ None
binary_whole zero b = refl
binary_whole (suc subtype) b = refl

module _ (inner : ElementType → Bytes → Node) (whole : (k : ElementType) (b : Bytes) → fault (inner k b) ≡ None) where
  -- the same, of bytes that are closed or not
  abbrev container : ElementType → Bytes → Node
  container k b = closed_node k b (inner k b)

  container_seen : (k : ElementType) (b : Bytes) → Sees (inner k) (closed_in b) (container k b)
  container_seen k b = by_case (is_closed b) where
    by_case : (c : Bool) → Sees (inner k) (cond c (Ok b) (Err ValueUnclosed)) (cond c (inner k b) (broken k ValueUnclosed))
    by_case true = (refl, whole k b)
    by_case false = refl

  abbrev scoped : Utf8 × Bytes → Node
  scoped p = opens (javascript_code_with_scope (borrowed p.0) (inner kinds.EmbeddedDocument p.1))

  abbrev scoped_node : Piece × Bytes → Node
  scoped_node p = opens (javascript_code_with_scope p.0 (container kinds.EmbeddedDocument p.1))

  parts_seen : (x s : Bytes) (c u d : Bool) → is_utf8 x ≡ u → is_closed s ≡ d
      → Sees scoped (cond c (cond u (Ok x) (Err NotUtf8)) (Err TextUnclosed) >>= λ code. result_map (λ t. (code, t)) (cond d (Ok s) (Err ValueUnclosed)))
      (or_broken kinds.JavaScriptCodeWithScope scoped_node (result_map (λ code. (code, s)) (cond c (Ok (borrowed x)) (Err TextUnclosed))))
  parts_seen x s false u d e g = refl
  parts_seen x s true false d e g = ap (λ z. or_else (cond z None (Some NotUtf8)) (fault (container kinds.EmbeddedDocument s))) e
  parts_seen x s true true true e g = (
    ap (λ z. opens (javascript_code_with_scope (borrowed x) (cond z (inner kinds.EmbeddedDocument s) (broken kinds.EmbeddedDocument ValueUnclosed)))) g,
    (λ i. or_else (cond (e i) None (Some NotUtf8)) (fault (cond (g i) (inner kinds.EmbeddedDocument s) (broken kinds.EmbeddedDocument ValueUnclosed)))) ∙ whole kinds.EmbeddedDocument s,
  )
  parts_seen x s true true false e g = λ i. or_else (cond (e i) None (Some NotUtf8)) (fault (cond (g i) (inner kinds.EmbeddedDocument s) (broken kinds.EmbeddedDocument ValueUnclosed)))

  scoped_seen : (n : ℤ) (b : Bytes) → Sees scoped (scoped_code n b) (or_broken kinds.JavaScriptCodeWithScope scoped_node (scoped_bytes n b))
  scoped_seen (negsuc n) b = refl
  scoped_seen (pos n) b = by_case (nat_lt n 1 || nat_lt (length b) (n + 4 + 5)) (int_eq (int32_in (drop (n + 4) b)) (pos (length (drop (n + 4) b)))) where
    text : Bytes
    text = take (n + 4) b

    scope : Bytes
    scope = drop (n + 4) b

    by_case : (p q : Bool) → Sees scoped (◌>>=◌ {A = Bytes × Bytes} (cond p (Err ScopeTotal) (cond q (Ok (text, scope)) (Err ScopeTotal))) (λ x. code_and_scope x.0 x.1))
        (or_broken kinds.JavaScriptCodeWithScope scoped_node (cond p (Err ScopeTotal) (cond q (result_map (λ code. (code, scope)) (text_bytes text)) (Err ScopeTotal))))
    by_case true q = refl
    by_case false true = parts_seen (inside text) scope (is_closed text) (is_utf8 (inside text)) (is_closed scope) refl refl
    by_case false false = refl

  node_seen : (k : ElementType) (b : Bytes) → Sees (value_node inner) (value_in k b) (node_with container k b)
  node_seen kinds.Double b = (refl, refl)
  node_seen kinds.String b = mapped raw.string (value_node inner) (text_in b) _ (text_seen kinds.String string (λ p. refl) b)
  node_seen kinds.EmbeddedDocument b = mapped raw.document (value_node inner) (closed_in b) _ (container_seen kinds.EmbeddedDocument b)
  node_seen kinds.Array b = mapped raw.array (value_node inner) (closed_in b) _ (container_seen kinds.Array b)
  node_seen kinds.Binary b = mapped (λ (x : ℕ × Bytes). raw.binary x.0 x.1) (value_node inner) (binary_in b) _ (plainly kinds.Binary (λ x. binary_node false x.0 (borrowed x.1)) (binary_in b) (λ x. binary_whole x.0 (borrowed x.1)))
  node_seen kinds.Undefined b = (refl, refl)
  node_seen kinds.ObjectId b = (refl, refl)
  node_seen kinds.Boolean b = mapped raw.boolean (value_node inner) (boolean_of (get_or b 0 0)) _ (plainly kinds.Boolean boolean (boolean_of (get_or b 0 0)) (λ x. refl))
  node_seen kinds.DateTime b = (refl, refl)
  node_seen kinds.Null b = (refl, refl)
  node_seen kinds.RegularExpression b = mapped (λ (x : Utf8 × Utf8). raw.regular_expression x.0 x.1) (value_node inner) (regex_of (two_texts_in b)) _ (regex_seen (two_texts_in b))
  node_seen kinds.DbPointer b = mapped (λ (x : Utf8 × Bytes). raw.db_pointer x.0 x.1) (value_node inner) (db_pointer_in b) _ (pointer_seen b)
  node_seen kinds.JavaScriptCode b = mapped raw.javascript_code (value_node inner) (text_in b) _ (text_seen kinds.JavaScriptCode (λ p. opens (javascript_code p)) (λ p. refl) b)
  node_seen kinds.Symbol b = mapped raw.symbol (value_node inner) (text_in b) _ (text_seen kinds.Symbol (λ p. opens (symbol p)) (λ p. refl) b)
  node_seen kinds.JavaScriptCodeWithScope b =
      mapped (λ (x : Utf8 × Bytes). raw.javascript_code_with_scope x.0 x.1) (value_node inner) (scoped_code (int32_in (drop 4 b)) (drop 4 b)) _ (scoped_seen (int32_in (drop 4 b)) (drop 4 b))
  node_seen kinds.Int32 b = (refl, refl)
  node_seen kinds.Timestamp b = (refl, refl)
  node_seen kinds.Int64 b = (refl, refl)
  node_seen kinds.Decimal128 b = (refl, refl)
  node_seen kinds.MaxKey b = (refl, refl)
  node_seen kinds.MinKey b = (refl, refl)

-- ---- elements

holding_whole : (levels : ℕ) (k : ElementType) (b : Bytes) → fault (holding k (of_bytes b) (nodes_with (node_in levels) (walk b))) ≡ None
holding_whole levels kinds.EmbeddedDocument b = refl
holding_whole levels k b = refl

-- what an element's value is, and what it is refused for
pub element_seen : (levels : ℕ) (k : ElementType) (b : Bytes) → Sees (value_node (inner_node levels)) (value_in k b) (node_in levels k b)
element_seen zero k b = node_seen (inner_node zero) (λ c x. refl) k b
element_seen (suc levels) k b = node_seen (inner_node (suc levels)) (holding_whole levels) k b
