-- What judging answers of a value whose texts are mended.
use Rattle.std.proofs.Common.{◌≡◌, ℕ, ℤ, pos, negsuc, zero, suc, ◌+◌, length, drop, Bool, true, false, cond, Option, Some, None, Result, Ok, Err, refl, ap, sym, subst, ◌∙◌}
use Rattle.std.specs.Prelude.{◌-◌, ◌||◌, nat_lt, get_or, take}
use Rattle.std.specs.Ordering.{int_eq}
use Rattle.std.specs.Result.{IsErr}
use Rattle.std.specs.Str.{is_utf8}
use Rattle.std.proofs.lemmas.Bool.{cond-true}
use Rattle.bson_kinds.specs.Outcome.{◌>>=◌, result_map, or_else}
use Rattle.bson_kinds.specs.Text.{Bytes, Utf8}
use Rattle.bson_base.specs.Tree as tree
use Rattle.bson_base.specs.Tree.{Tree, Pairs}
use Rattle.bson_kinds.specs.declared.element_type.ElementType.{ElementType}
use Rattle.bson_kinds.specs.declared.element_type.ElementType.TheVariants as kinds
use Rattle.bson_rawdoc.specs.Envelope.{is_closed, inside}
use Rattle.bson_rawdoc.specs.Extent.{two_texts_in}
use Rattle.bson_rawdoc.specs.Node.{of_tree, of_bytes, Node, string, boolean, broken, too_deep, extended, Extended, regular_expression, db_pointer, javascript_code, symbol, javascript_code_with_scope, text_fault, fault, from_memory, one_level, tree_node, pair_nodes, extended_fault, opens, binary_node, or_broken, text_bytes, two_bytes, db_pointer_bytes, scoped_bytes, node_with, nodes_with, holding, closed_node, node_in, inner_node, value_node, mended}
use Rattle.bson_rawdoc.specs.Numbers.{int32_in}
use Rattle.bson_kinds.specs.Piece.{Piece, borrowed, made}
use Rattle.bson_rawdoc.specs.RawValue as raw
use Rattle.bson_rawdoc.specs.RawValue.{RawValue, boolean_of, binary_in, scoped_parts}
use Rattle.bson_rawdoc.specs.Unjudged.{text_in, regex_of, db_pointer_in, code_and_scope, unjudged_in}
use Rattle.bson_rawdoc.specs.Walk.{walk}
use Rattle.bson_faults.specs.declared.raw.Error.{Error}
use Rattle.bson_faults.specs.declared.raw.Error.TheVariants.{NotUtf8, TextUnclosed, ScopeTotal, ValueUnclosed}
use Rattle.bson_values.specs.Cause as cause
use Rattle.bson_laws.specs.Judged.{Reading, judged, with_level, faultless, refused}
use Rattle.bson_laws.proofs.Mended.{other_fault, mended_fault}
use Rattle.bson_values.specs.declared.de.Fault.{Fault}
use Rattle.bson_values.specs.declared.stop.Stop.{Stop}
use Rattle.bson_met.specs.Gives.{Reaches}
use Rattle.bson_met.specs.ValueView.{value_view}
use Rattle.bson_met.specs.Whole.{HasTexts}
use Rattle.bson_met.specs.declared.value.Value as value
use Rattle.bson_met.proofs.Refusals.{StopsAs, stops_map}

-- ---- values that have no fault

second_none : (o p : Option Error) → or_else o p ≡ None → p ≡ None
second_none None p e = e
second_none (Some x) p e = absurd cc

mutual
  no_other : (n : Node) → fault n ≡ None → other_fault n ≡ None
  no_other (extended x ns) e = value_other x e
  no_other (broken k f) e = absurd cc
  no_other n e = refl

  value_other : (x : Extended) → extended_fault x ≡ None → other_fault (opens x) ≡ None
  value_other (javascript_code_with_scope code scope) e = no_other scope (second_none (text_fault code) (fault scope) e)
  value_other x e = refl

level_mended : (n : Node) → with_level (mended n) ≡ result_map mended (with_level n)
level_mended (too_deep k) = refl
level_mended n = refl

faultless_mended : (o : Option Error) (n : Node) → faultless o (mended n) ≡ result_map mended (faultless o n)
faultless_mended None n = level_mended n
faultless_mended (Some e) n = refl

-- a value with the same fault as before is judged as before
alike : (n : Node) → other_fault n ≡ fault n → judged (mended n) ≡ result_map mended (judged n)
alike n e = ap (λ o. faultless o (mended n)) (mended_fault n ∙ e) ∙ faultless_mended (fault n) n

pub whole_alike : (n : Node) → fault n ≡ None → judged (mended n) ≡ result_map mended (judged n)
whole_alike n e = alike n (no_other n e ∙ sym e)

-- ---- values of a tree

text_none : (t : Utf8) → is_utf8 t ≡ true → text_fault (made t) ≡ None
text_none t e = cond-true (is_utf8 t) None (Some NotUtf8) e

neither_fault : (o p : Option Error) → o ≡ None → p ≡ None → or_else o p ≡ None
neither_fault o p e f = ap (λ x. or_else x p) e ∙ f

pub pairs_whole : (ps : Pairs) (levels : ℕ) → fault (one_level kinds.EmbeddedDocument (of_tree (tree.document ps)) (pair_nodes from_memory ps) levels) ≡ None
pairs_whole ps zero = refl
pairs_whole ps (suc levels) = refl

pub tree_whole : (t : Tree) (levels : ℕ) → HasTexts t → fault (tree_node from_memory t levels) ≡ None
tree_whole (tree.string t) levels h = text_none t h
tree_whole (tree.document ps) levels h = pairs_whole ps levels
tree_whole (tree.array ts) zero h = refl
tree_whole (tree.array ts) (suc levels) h = refl
tree_whole (tree.binary zero b) levels h = refl
tree_whole (tree.binary (suc subtype) b) levels h = refl
tree_whole (tree.regular_expression p q) levels h = neither_fault (text_fault (made p)) (text_fault (made q)) (text_none p h.0) (text_none q h.1)
tree_whole (tree.db_pointer namespace id) levels h = text_none namespace h
tree_whole (tree.javascript_code t) levels h = text_none t h
tree_whole (tree.symbol t) levels h = text_none t h
tree_whole (tree.javascript_code_with_scope code scope) levels h =
    neither_fault (text_fault (made code)) (fault (one_level kinds.EmbeddedDocument (of_tree (tree.document scope)) (pair_nodes from_memory scope) levels)) (text_none code h) (pairs_whole scope levels)
tree_whole (tree.raw k b) levels h = absurd h
tree_whole t levels h = refl

-- ---- values of elements

-- What is seen is the node, which has no fault where its texts are mended; what is refused is the fault that is left then; at a kind without texts no fault goes.
abbrev SeesUnjudged : (RawValue → Node) → Result (Option RawValue) Error → Node → Type 0
SeesUnjudged see (Ok (Some v)) n = (n ≡ see v) × (other_fault n ≡ None) × (with_level n ≡ Ok n)
SeesUnjudged see (Ok None) n = other_fault n ≡ fault n
SeesUnjudged see (Err e) n = other_fault n ≡ Some e

plainly : {A : Type 0} (k : ElementType) (make : A → Node) (r : Result A Error) → ((x : A) → other_fault (make x) ≡ fault (make x)) → other_fault (or_broken k make r) ≡ fault (or_broken k make r)
plainly k make (Ok x) h = h x
plainly k make (Err e) h = refl

binary_plain : (subtype : ℕ) (b : Piece) → other_fault (binary_node false subtype b) ≡ fault (binary_node false subtype b)
binary_plain zero b = refl
binary_plain (suc subtype) b = refl

module _ (inner : ElementType → Bytes → Node) (whole : (k : ElementType) (b : Bytes) → fault (inner k b) ≡ None) where
  -- a document, an array or a scope of bytes that are closed or not
  abbrev container : ElementType → Bytes → Node
  container k b = closed_node k b (inner k b)

  -- it holds no text of its own
  container_plain : (k : ElementType) (b : Bytes) → other_fault (container k b) ≡ fault (container k b)
  container_plain k b = by_case (is_closed b) where
    by_case : (c : Bool) → other_fault (cond c (inner k b) (broken k ValueUnclosed)) ≡ fault (cond c (inner k b) (broken k ValueUnclosed))
    by_case true = no_other (inner k b) (whole k b) ∙ sym (whole k b)
    by_case false = refl

  -- a text alone
  text_seen : (k : ElementType) (make : Piece → Node) (value : Bytes → RawValue) → ((t : Bytes) → make (borrowed t) ≡ value_node inner (value t)) → ((p : Piece) → other_fault (make p) ≡ None) → ((p : Piece) → with_level (make p) ≡ Ok (make p))
      → (b : Bytes) → SeesUnjudged (value_node inner) (result_map (λ t. Some (value t)) (text_in b)) (or_broken k make (text_bytes b))
  text_seen k make value same none level b = by_case (is_closed b) where
    by_case : (c : Bool) → SeesUnjudged (value_node inner) (result_map (λ t. Some (value t)) (cond c (Ok (inside b)) (Err TextUnclosed))) (or_broken k make (cond c (Ok (borrowed (inside b))) (Err TextUnclosed)))
    by_case true = (same (inside b), none (borrowed (inside b)), level (borrowed (inside b)))
    by_case false = refl

  expression_seen : (o : Option (Bytes × Bytes)) → SeesUnjudged (value_node inner) (result_map Some (regex_of o)) (or_broken kinds.RegularExpression (λ (p : Piece × Piece). opens (regular_expression p.0 p.1)) (two_bytes o))
  expression_seen None = refl
  expression_seen (Some x) = (refl, refl, refl)

  pointer_seen : (b : Bytes) → SeesUnjudged (value_node inner) (result_map Some (db_pointer_in b)) (or_broken kinds.DbPointer (λ (p : Piece × Bytes). opens (db_pointer p.0 p.1)) (db_pointer_bytes b))
  pointer_seen b = by_case (is_closed front) where
    front : Bytes
    front = take (length b - 12) b

    by_case : (c : Bool) → SeesUnjudged (value_node inner) (result_map Some (result_map (λ n. raw.db_pointer n (drop (length b - 12) b)) (cond c (Ok (inside front)) (Err TextUnclosed))))
        (or_broken kinds.DbPointer (λ (p : Piece × Bytes). opens (db_pointer p.0 p.1)) (result_map (λ n. (n, drop (length b - 12) b)) (cond c (Ok (borrowed (inside front))) (Err TextUnclosed))))
    by_case true = (refl, refl, refl)
    by_case false = refl

  abbrev scoped_node : Piece × Bytes → Node
  scoped_node p = opens (javascript_code_with_scope p.0 (container kinds.EmbeddedDocument p.1))

  parts_seen : (x s : Bytes) (c d : Bool) → is_closed s ≡ d
      → SeesUnjudged (value_node inner) (result_map Some (cond c (Ok x) (Err TextUnclosed) >>= λ code. result_map (raw.javascript_code_with_scope code) (cond d (Ok s) (Err ValueUnclosed))))
      (or_broken kinds.JavaScriptCodeWithScope scoped_node (result_map (λ code. (code, s)) (cond c (Ok (borrowed x)) (Err TextUnclosed))))
  parts_seen x s false d e = refl
  parts_seen x s true true e = (
    ap (λ z. opens (javascript_code_with_scope (borrowed x) (cond z (inner kinds.EmbeddedDocument s) (broken kinds.EmbeddedDocument ValueUnclosed)))) e,
    ap (λ z. other_fault (cond z (inner kinds.EmbeddedDocument s) (broken kinds.EmbeddedDocument ValueUnclosed))) e ∙ no_other (inner kinds.EmbeddedDocument s) (whole kinds.EmbeddedDocument s),
    refl,
  )
  parts_seen x s true false e = ap (λ z. other_fault (cond z (inner kinds.EmbeddedDocument s) (broken kinds.EmbeddedDocument ValueUnclosed))) e

  scoped_seen : (n : ℤ) (b : Bytes) → SeesUnjudged (value_node inner) (result_map Some (scoped_parts n b >>= λ p. code_and_scope p.0 p.1)) (or_broken kinds.JavaScriptCodeWithScope scoped_node (scoped_bytes n b))
  scoped_seen (negsuc n) b = refl
  scoped_seen (pos n) b = by_case (nat_lt n 1 || nat_lt (length b) (n + 4 + 5)) (int_eq (int32_in (drop (n + 4) b)) (pos (length (drop (n + 4) b)))) where
    text : Bytes
    text = take (n + 4) b

    scope : Bytes
    scope = drop (n + 4) b

    by_case : (p q : Bool) → SeesUnjudged (value_node inner) (result_map Some (◌>>=◌ {A = Bytes × Bytes} (cond p (Err ScopeTotal) (cond q (Ok (text, scope)) (Err ScopeTotal))) (λ x. code_and_scope x.0 x.1)))
        (or_broken kinds.JavaScriptCodeWithScope scoped_node (cond p (Err ScopeTotal) (cond q (result_map (λ code. (code, scope)) (text_bytes text)) (Err ScopeTotal))))
    by_case true q = refl
    by_case false true = parts_seen (inside text) scope (is_closed text) (is_closed scope) refl
    by_case false false = refl

  unjudged_seen : (k : ElementType) (b : Bytes) → SeesUnjudged (value_node inner) (unjudged_in k b) (node_with container k b)
  unjudged_seen kinds.Double b = refl
  unjudged_seen kinds.String b = text_seen kinds.String string raw.string (λ t. refl) (λ p. refl) (λ p. refl) b
  unjudged_seen kinds.EmbeddedDocument b = container_plain kinds.EmbeddedDocument b
  unjudged_seen kinds.Array b = container_plain kinds.Array b
  unjudged_seen kinds.Binary b = plainly kinds.Binary (λ x. binary_node false x.0 (borrowed x.1)) (binary_in b) (λ x. binary_plain x.0 (borrowed x.1))
  unjudged_seen kinds.Undefined b = refl
  unjudged_seen kinds.ObjectId b = refl
  unjudged_seen kinds.Boolean b = plainly kinds.Boolean boolean (boolean_of (get_or b 0 0)) (λ x. refl)
  unjudged_seen kinds.DateTime b = refl
  unjudged_seen kinds.Null b = refl
  unjudged_seen kinds.RegularExpression b = expression_seen (two_texts_in b)
  unjudged_seen kinds.DbPointer b = pointer_seen b
  unjudged_seen kinds.JavaScriptCode b = text_seen kinds.JavaScriptCode (λ p. opens (javascript_code p)) raw.javascript_code (λ t. refl) (λ p. refl) (λ p. refl) b
  unjudged_seen kinds.Symbol b = text_seen kinds.Symbol (λ p. opens (symbol p)) raw.symbol (λ t. refl) (λ p. refl) (λ p. refl) b
  unjudged_seen kinds.JavaScriptCodeWithScope b = scoped_seen (int32_in (drop 4 b)) (drop 4 b)
  unjudged_seen kinds.Int32 b = refl
  unjudged_seen kinds.Timestamp b = refl
  unjudged_seen kinds.Int64 b = refl
  unjudged_seen kinds.Decimal128 b = refl
  unjudged_seen kinds.MaxKey b = refl
  unjudged_seen kinds.MinKey b = refl

holding_whole : (levels : ℕ) (k : ElementType) (b : Bytes) → fault (holding k (of_bytes b) (nodes_with (node_in levels) (walk b))) ≡ None
holding_whole levels kinds.EmbeddedDocument b = refl
holding_whole levels k b = refl

pub inner_whole : (levels : ℕ) (k : ElementType) (b : Bytes) → fault (inner_node levels k b) ≡ None
inner_whole zero k b = refl
inner_whole (suc levels) k b = holding_whole levels k b

element_unjudged : (levels : ℕ) (k : ElementType) (b : Bytes) → SeesUnjudged (value_node (inner_node levels)) (unjudged_in k b) (node_in levels k b)
element_unjudged zero k b = unjudged_seen (inner_node zero) (inner_whole zero) k b
element_unjudged (suc levels) k b = unjudged_seen (inner_node (suc levels)) (inner_whole (suc levels)) k b

-- what an element's value is judged as where its texts are mended: a value with texts, one without, and one that has a fault
module _ (levels : ℕ) (k : ElementType) (b : Bytes) where
  seen_as : (r : Result (Option RawValue) Error) → r ≡ unjudged_in k b → SeesUnjudged (value_node (inner_node levels)) r (node_in levels k b)
  seen_as r e = subst (λ x. SeesUnjudged (value_node (inner_node levels)) x (node_in levels k b)) (sym e) (element_unjudged levels k b)

  pub judged_texts : (v : RawValue) → Ok (Some v) ≡ unjudged_in k b → judged (mended (node_in levels k b)) ≡ Ok (mended (value_node (inner_node levels) v))
  judged_texts v e =
      let n = node_in levels k b in
      let h = seen_as (Ok (Some v)) e in
      ap (λ o. faultless o (mended n)) (mended_fault n ∙ h.1) ∙ level_mended n ∙ ap (result_map mended) h.2 ∙ ap (λ m. Ok (mended m)) h.0

  pub judged_textless : Ok None ≡ unjudged_in k b → judged (mended (node_in levels k b)) ≡ result_map mended (judged (node_in levels k b))
  judged_textless e = alike (node_in levels k b) (seen_as (Ok None) e)

  pub judged_broken : (f : Error) → Err f ≡ unjudged_in k b → judged (mended (node_in levels k b)) ≡ refused (cause.raw f)
  judged_broken f e = let n = node_in levels k b in ap (λ o. faultless o (mended n)) (mended_fault n ∙ seen_as (Err f) e)

-- ---- refusals

-- what is refused of a value is refused of the mended one
pub refused_mended : (r : Result value.Value (Stop Fault)) (x y : Reading Node) → IsErr r → y ≡ result_map mended x → Reaches value_view r x → Reaches value_view r y
refused_mended (Ok v) x y e same h = absurd cc
refused_mended (Err s) x y e same h = subst (λ (q : Reading Node). StopsAs s q) (sym same) (stops_map s mended x h)
