use Rattle.std.proofs.Common.{◌+◌, ◌*◌, drop}
use Rattle.bson_shape.specs.ShapeView.{fields_of, parts_of, variants_of, content_of, nodes, fields_nodes, parts_nodes, variants_nodes, content_nodes}
use Rattle.bson_laws.specs.Owned.{AreFieldsOwned, ArePartsOwned, AreVariantsOwned}
use Rattle.bson_pass_parts.proofs.owned.+owned.Given as goal

abbrev pub decreases-borrows_nothing : goal.decreases-borrows_nothing
decreases-borrows_nothing l = 2 * nodes l.shape.now

abbrev pub decreases-parts_borrow_nothing : goal.decreases-parts_borrow_nothing
decreases-parts_borrow_nothing l = 2 * parts_nodes (parts_of l.parts.now)

abbrev pub decreases-fields_borrow_nothing : goal.decreases-fields_borrow_nothing
decreases-fields_borrow_nothing l = 2 * fields_nodes (fields_of l.fields.now)

abbrev pub decreases-variants_borrow_nothing : goal.decreases-variants_borrow_nothing
decreases-variants_borrow_nothing l = 2 * variants_nodes (variants_of l.variants.now)

abbrev pub decreases-content_borrows_nothing : goal.decreases-content_borrows_nothing
decreases-content_borrows_nothing l = 2 * content_nodes (content_of l.content.now) + 1

abbrev pub invariant-parts_borrow_nothing-loop-part : goal.invariant-parts_borrow_nothing-loop-part
invariant-parts_borrow_nothing-loop-part l = ArePartsOwned (parts_of (drop l.part-index l.parts)) → ArePartsOwned (parts_of l.parts)

abbrev pub invariant-fields_borrow_nothing-loop-field : goal.invariant-fields_borrow_nothing-loop-field
invariant-fields_borrow_nothing-loop-field l = AreFieldsOwned (fields_of (drop l.field-index l.fields)) → AreFieldsOwned (fields_of l.fields)

abbrev pub invariant-variants_borrow_nothing-loop-variant : goal.invariant-variants_borrow_nothing-loop-variant
invariant-variants_borrow_nothing-loop-variant l = AreVariantsOwned (variants_of (drop l.variant-index l.variants)) → AreVariantsOwned (variants_of l.variants)
