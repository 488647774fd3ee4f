use Rattle.std.proofs.Common.{◌≡◌, ◌+◌, ◌*◌, drop}
use Rattle.bson_shape.specs.ShapeView.{fields_of, parts_of, variants_of, content_of, nodes, fields_nodes, parts_nodes, variants_nodes, content_nodes}
use Rattle.bson_evolve_laws.specs.PlainTest.{are_parts_plain_in, are_fields_plain_in, are_definitions_plain_in, are_variants_plain_in}
use Rattle.bson_evolve_check.proofs.plain.+plain.Given as goal

-- a list counts twice, and what a variant has once more than the list in it
abbrev pub decreases-is_plain_in : goal.decreases-is_plain_in
decreases-is_plain_in l = 2 * nodes l.shape.now

abbrev pub decreases-are_plain_items : goal.decreases-are_plain_items
decreases-are_plain_items l = 2 * parts_nodes (parts_of l.items.now)

abbrev pub decreases-are_plain_fields : goal.decreases-are_plain_fields
decreases-are_plain_fields l = 2 * fields_nodes (fields_of l.fields.now)

abbrev pub decreases-are_plain_definitions : goal.decreases-are_plain_definitions
decreases-are_plain_definitions l = 2 * fields_nodes (fields_of l.definitions.now)

abbrev pub decreases-are_plain_variants : goal.decreases-are_plain_variants
decreases-are_plain_variants l = 2 * variants_nodes (variants_of l.variants.now)

abbrev pub decreases-is_plain_content : goal.decreases-is_plain_content
decreases-is_plain_content l = 2 * content_nodes (content_of l.content.now) + 1

abbrev pub invariant-are_plain_items-loop-item : goal.invariant-are_plain_items-loop-item
invariant-are_plain_items-loop-item l = are_parts_plain_in (fields_of l.around.definitions.now) (parts_of (drop l.item-index l.items)) ≡ are_parts_plain_in (fields_of l.around.definitions.now) (parts_of (drop 0 l.items))

abbrev pub invariant-are_plain_fields-loop-field : goal.invariant-are_plain_fields-loop-field
invariant-are_plain_fields-loop-field l = are_fields_plain_in (fields_of l.around.definitions.now) (fields_of (drop l.field-index l.fields)) ≡ are_fields_plain_in (fields_of l.around.definitions.now) (fields_of (drop 0 l.fields))

abbrev pub invariant-are_plain_definitions-loop-definition : goal.invariant-are_plain_definitions-loop-definition
invariant-are_plain_definitions-loop-definition l = are_definitions_plain_in (fields_of l.around.definitions.now) (fields_of (drop l.definition-index l.definitions)) ≡ are_definitions_plain_in (fields_of l.around.definitions.now) (fields_of (drop 0 l.definitions))

abbrev pub invariant-are_plain_variants-loop-variant : goal.invariant-are_plain_variants-loop-variant
invariant-are_plain_variants-loop-variant l = are_variants_plain_in (fields_of l.around.definitions.now) (variants_of (drop l.variant-index l.variants)) ≡ are_variants_plain_in (fields_of l.around.definitions.now) (variants_of (drop 0 l.variants))
