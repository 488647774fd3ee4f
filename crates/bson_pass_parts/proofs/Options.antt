-- Values at options that are no null.
use Rattle.std.proofs.Common.{◌≡◌, ℕ, zero, suc, [], Bool, true, false, cond, Option, Result, Ok, Err, refl, sym, subst}
use Rattle.std.specs.Prelude.{get_or, drop}
use Rattle.bson_kinds.specs.Outcome.{result_map}
use Rattle.bson_kinds.specs.Text.{Bytes}
use Rattle.bson_base.specs.Tree.{Tree}
use Rattle.bson_kinds.specs.declared.element_type.ElementType.{ElementType}
use Rattle.bson_kinds.specs.declared.element_type.ElementType.TheVariants as kinds
use Rattle.bson_rawdoc.specs.Envelope.{is_closed}
use Rattle.bson_rawdoc.specs.Extent.{two_texts_in}
use Rattle.bson_rawdoc.specs.Node.{of_bytes, Node, null, string, boolean, broken, opens, regular_expression, db_pointer, javascript_code, symbol, javascript_code_with_scope, binary_node, or_broken, text_bytes, two_bytes, db_pointer_bytes, scoped_bytes, node_with, closed_node, holding, nodes_with, too_deep, node_in}
use Rattle.bson_rawdoc.specs.Node as node
use Rattle.bson_rawdoc.specs.Numbers.{int32_in}
use Rattle.bson_kinds.specs.Piece.{Piece, borrowed}
use Rattle.bson_rawdoc.specs.RawValue.{boolean_of, binary_in}
use Rattle.bson_rawdoc.specs.Walk.{walk}
use Rattle.bson_faults.specs.declared.raw.Error.{Error}
use Rattle.bson_faults.specs.declared.raw.Error.TheVariants.{ValueUnclosed}
use Rattle.bson_shape.specs.Form.{Form, optional}
use Rattle.bson_values.specs.Marked.{Marked, contents}
use Rattle.bson_values.specs.Value as value
use Rattle.bson_laws.specs.Judged.{Reading}
use Rattle.bson_laws.specs.Spell.{spell}
use Rattle.bson_pass_parts.specs.ReadsUnrolled.{reads}
use Rattle.bson_pass_parts.specs.Put.{recast_by, recast_node, IsPut}
use Rattle.bson_pass_parts.specs.Run.{IsKept}

-- a node that is no null
abbrev IsThere : Node → Type 0
IsThere null = ⊥
IsThere n = Unit {0}

or_there : {A : Type 0} (k : ElementType) (f : A → Node) (r : Result A Error) → ((x : A) → IsThere (f x)) → IsThere (or_broken k f r)
or_there k f (Ok x) h = h x
or_there k f (Err e) h = tt

binary_there : (subtype : ℕ) (b : Piece) → IsThere (binary_node false subtype b)
binary_there zero b = tt
binary_there (suc n) b = tt

-- the containers are no null
abbrev AreThere : (ElementType → Bytes → Node) → Type 0
AreThere container = (b : Bytes) → IsThere (container kinds.EmbeddedDocument b) × IsThere (container kinds.Array b)

with_kind : (container : ElementType → Bytes → Node) → AreThere container → (k : ElementType) (b : Bytes) → (k ≡ kinds.Null → ⊥) → IsThere (node_with container k b)
with_kind container are kinds.Double b other = tt
with_kind container are kinds.String b other = or_there kinds.String string (text_bytes b) (λ x. tt)
with_kind container are kinds.EmbeddedDocument b other = (are b).0
with_kind container are kinds.Array b other = (are b).1
with_kind container are kinds.Binary b other = or_there kinds.Binary (λ p. binary_node false p.0 (borrowed p.1)) (binary_in b) (λ x. binary_there x.0 (borrowed x.1))
with_kind container are kinds.Undefined b other = tt
with_kind container are kinds.ObjectId b other = tt
with_kind container are kinds.Boolean b other = or_there kinds.Boolean boolean (boolean_of (get_or b 0 0)) (λ x. tt)
with_kind container are kinds.DateTime b other = tt
with_kind container are kinds.Null b other = absurd (other refl)
with_kind container are kinds.RegularExpression b other = or_there kinds.RegularExpression (λ p. opens (regular_expression p.0 p.1)) (two_bytes (two_texts_in b)) (λ x. tt)
with_kind container are kinds.DbPointer b other = or_there kinds.DbPointer (λ p. opens (db_pointer p.0 p.1)) (db_pointer_bytes b) (λ x. tt)
with_kind container are kinds.JavaScriptCode b other = or_there kinds.JavaScriptCode (λ t. opens (javascript_code t)) (text_bytes b) (λ x. tt)
with_kind container are kinds.Symbol b other = or_there kinds.Symbol (λ t. opens (symbol t)) (text_bytes b) (λ x. tt)
with_kind container are kinds.JavaScriptCodeWithScope b other =
    or_there kinds.JavaScriptCodeWithScope (λ p. opens (javascript_code_with_scope p.0 (container kinds.EmbeddedDocument p.1))) (scoped_bytes (int32_in (drop 4 b)) (drop 4 b)) (λ x. tt)
with_kind container are kinds.Int32 b other = tt
with_kind container are kinds.Timestamp b other = tt
with_kind container are kinds.Int64 b other = tt
with_kind container are kinds.Decimal128 b other = tt
with_kind container are kinds.MaxKey b other = tt
with_kind container are kinds.MinKey b other = tt

closed_there : (k : ElementType) (c : Bool) (n : Node) → IsThere n → IsThere (cond c n (broken k ValueUnclosed))
closed_there k true n h = h
closed_there k false n h = tt

node_there : (levels : ℕ) (k : ElementType) (b : Bytes) → (k ≡ kinds.Null → ⊥) → IsThere (node_in levels k b)
node_there zero k b other =
    with_kind (λ c x. closed_node c x (too_deep c)) (λ x. (closed_there kinds.EmbeddedDocument (is_closed x) (too_deep kinds.EmbeddedDocument) tt, closed_there kinds.Array (is_closed x) (too_deep kinds.Array) tt)) k b other
node_there (suc levels) k b other =
    with_kind (λ c x. closed_node c x (holding c (of_bytes x) (nodes_with (node_in levels) (walk x))))
    (λ x. let ns = nodes_with (node_in levels) (walk x) in (closed_there kinds.EmbeddedDocument (is_closed x) (node.document (of_bytes x) ns) tt, closed_there kinds.Array (is_closed x) (node.array (of_bytes x) ns) tt)) k b other

-- some value is written as the value
some_by : (levels : ℕ) (r : Reading Marked) → recast_by (λ v. spell (contents v) levels) (result_map value.some r) ≡ recast_by (λ v. spell (contents v) levels) r
some_by levels (Ok v) = refl
some_by levels (Err e) = refl

optional_is : (s : Form) (levels : ℕ) (n : Node) → IsThere n → recast_node (optional s) levels n ≡ recast_node s levels n
optional_is s levels null there = absurd there
optional_is s levels n there = some_by levels (reads s n)

-- a value that is kept is kept at an option
pub optional_kept : (s : Form) (levels : ℕ) (k : ElementType) (b : Bytes) → (k ≡ kinds.Null → ⊥) → IsKept s levels k b → IsKept (optional s) levels k b
optional_kept s levels k b other kept = subst (λ (o : Option Tree). IsPut o [] b k) (sym (optional_is s levels (node_in levels k b) (node_there levels k b other))) kept
