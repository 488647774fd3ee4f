use Rattle.std.proofs.Common.{◌≡◌, ◌+◌, ◌*◌}
use Rattle.bson_shape.specs.ShapeView.{fields_of, parts_of, variants_of, content_of, nodes, fields_nodes, parts_nodes, variants_nodes, content_nodes}
use Rattle.bson_shape.proofs.Sames.{same_from, same_parts_from, same_variants_from}
use Rattle.bson_shape.proofs.equality.+same.Given as goal

-- a list counts twice, and what a variant has once more than the list in it
abbrev pub decreases-is_same : goal.decreases-is_same
decreases-is_same l = 2 * nodes l.a.now

abbrev pub decreases-are_same : goal.decreases-are_same
decreases-are_same l = 2 * fields_nodes (fields_of l.a.now)

abbrev pub decreases-are_same_parts : goal.decreases-are_same_parts
decreases-are_same_parts l = 2 * parts_nodes (parts_of l.a.now)

abbrev pub decreases-are_same_variants : goal.decreases-are_same_variants
decreases-are_same_variants l = 2 * variants_nodes (variants_of l.a.now)

abbrev pub decreases-is_same_content : goal.decreases-is_same_content
decreases-is_same_content l = 2 * content_nodes (content_of l.a.now) + 1

abbrev pub invariant-are_same-loop-i : goal.invariant-are_same-loop-i
invariant-are_same-loop-i l = same_from l.i l.a l.b ≡ same_from 0 l.a l.b

abbrev pub invariant-are_same_parts-loop-i : goal.invariant-are_same_parts-loop-i
invariant-are_same_parts-loop-i l = same_parts_from l.i l.a l.b ≡ same_parts_from 0 l.a l.b

abbrev pub invariant-are_same_variants-loop-i : goal.invariant-are_same_variants-loop-i
invariant-are_same_variants-loop-i l = same_variants_from l.i l.a l.b ≡ same_variants_from 0 l.a l.b
