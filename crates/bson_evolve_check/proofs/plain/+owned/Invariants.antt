use Rattle.std.proofs.Common.{◌≡◌, ◌+◌, ◌*◌, drop}
use Rattle.bson_shape.specs.ShapeView.{fields_of, parts_of, variants_of, content_of, nodes, fields_nodes, parts_nodes, variants_nodes, content_nodes}
use Rattle.bson_evolve_laws.specs.PlainTest.{parts_own_texts, fields_own_texts, variants_own_texts}
use Rattle.bson_evolve_check.proofs.plain.+owned.Given as goal

-- a list counts twice, and what a variant has once more than the list in it
abbrev pub decreases-owns_texts : goal.decreases-owns_texts
decreases-owns_texts l = 2 * nodes l.shape.now

abbrev pub decreases-items_own_texts : goal.decreases-items_own_texts
decreases-items_own_texts l = 2 * parts_nodes (parts_of l.items.now)

abbrev pub decreases-fields_own_texts : goal.decreases-fields_own_texts
decreases-fields_own_texts l = 2 * fields_nodes (fields_of l.fields.now)

abbrev pub decreases-variants_own_texts : goal.decreases-variants_own_texts
decreases-variants_own_texts l = 2 * variants_nodes (variants_of l.variants.now)

abbrev pub decreases-content_owns_texts : goal.decreases-content_owns_texts
decreases-content_owns_texts l = 2 * content_nodes (content_of l.content.now) + 1

abbrev pub invariant-items_own_texts-loop-item : goal.invariant-items_own_texts-loop-item
invariant-items_own_texts-loop-item l = parts_own_texts l.around (parts_of (drop l.item-index l.items)) ≡ parts_own_texts l.around (parts_of (drop 0 l.items))

abbrev pub invariant-fields_own_texts-loop-field : goal.invariant-fields_own_texts-loop-field
invariant-fields_own_texts-loop-field l = fields_own_texts l.around (fields_of (drop l.field-index l.fields)) ≡ fields_own_texts l.around (fields_of (drop 0 l.fields))

abbrev pub invariant-variants_own_texts-loop-variant : goal.invariant-variants_own_texts-loop-variant
invariant-variants_own_texts-loop-variant l = variants_own_texts l.around (variants_of (drop l.variant-index l.variants)) ≡ variants_own_texts l.around (variants_of (drop 0 l.variants))
