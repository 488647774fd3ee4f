-- Values that are dropped: nothing in them is at fault.
use Rattle.std.proofs.Common.{◌≡◌, ℕ, suc, true, Ok, refl, ap, ◌∙◌}
use Rattle.std.specs.Str.{is_utf8}
use Rattle.bson_kinds.specs.Outcome.{◌>>=◌}
use Rattle.bson_kinds.specs.Text.{Bytes, Utf8}
use Rattle.bson_kinds.specs.declared.element_type.ElementType.TheVariants as kinds
use Rattle.bson_rawdoc.specs.Node as node
use Rattle.bson_rawdoc.specs.Node.{ended, inner_node, node_in, nodes_with, opens}
use Rattle.bson_kinds.specs.Piece.{borrowed}
use Rattle.bson_rawdoc.specs.Walk.{Element, Walk, then_walk, walk}
use Rattle.bson_values.specs.Refusal.{inside, under}
use Rattle.bson_laws.specs.Judged.{at_its_key, at_its_index, scope_key, pass_nodes, ignores}
use Rattle.bson_pass_parts.specs.Free.{ArePassed}

pub none_left : ArePassed ended
none_left place i = refl

-- one value more
pub passed_step : (m : ℕ) (old new : Walk) (e : Element) → old ≡ then_walk e new → ignores (node_in m e.kind e.value) ≡ Ok tt → ArePassed (nodes_with (node_in m) new) → ArePassed (nodes_with (node_in m) old)
passed_step m old new e step ignored rest place i =
    ap (λ w. pass_nodes place i (nodes_with (node_in m) w)) step
    ∙ ap (λ r. inside (place i (borrowed e.key)) r >>= λ _. pass_nodes place (suc i) (nodes_with (node_in m) new)) ignored
    ∙ rest place (suc i)

-- a document, an array, and code with a scope
pub document_passed : (levels m : ℕ) (b : Bytes) → levels ≡ suc m → ArePassed (nodes_with (node_in m) (walk b)) → ignores (inner_node levels kinds.EmbeddedDocument b) ≡ Ok tt
document_passed levels m b e h = ap (λ n. ignores (inner_node n kinds.EmbeddedDocument b)) e ∙ h at_its_key 0

pub array_passed : (levels m : ℕ) (b : Bytes) → levels ≡ suc m → ArePassed (nodes_with (node_in m) (walk b)) → ignores (inner_node levels kinds.Array b) ≡ Ok tt
array_passed levels m b e h = ap (λ n. ignores (inner_node n kinds.Array b)) e ∙ h at_its_index 0

pub scoped_passed : (code : Utf8) (levels m : ℕ) (b : Bytes) → levels ≡ suc m → is_utf8 code ≡ true → ArePassed (nodes_with (node_in m) (walk b))
    → ignores (opens (node.javascript_code_with_scope (borrowed code) (inner_node levels kinds.EmbeddedDocument b))) ≡ Ok tt
scoped_passed code levels m b e text h =
    ap (λ n. ignores (opens (node.javascript_code_with_scope (borrowed code) (inner_node n kinds.EmbeddedDocument b)))) e
    ∙ rw text (ap (under scope_key) (h at_its_key 0))
