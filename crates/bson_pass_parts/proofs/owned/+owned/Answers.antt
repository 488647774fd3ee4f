use Rattle.std.proofs.Common.{ap, refl, arith}
use Rattle.bson_shape.specs.ShapeView.{content_of, nodes, content_nodes}
use Rattle.bson_shape.specs.declared.shape.FieldShape.{FieldShape}
use Rattle.bson_shape.specs.declared.shape.VariantShape.{VariantShape}
use Rattle.bson_shape.proofs.Shapes.{field_smaller, part_smaller, variant_smaller}
use Rattle.bson_pass_parts.proofs.PartsOwned.{part_owned, parts_owned, field_owned, fields_owned, variant_owned, variants_owned}
use Rattle.bson_pass_parts.proofs.owned.+owned.Goals as goal

pub parts_borrow_nothing-borrows_nothing-requires : goal.parts_borrow_nothing-borrows_nothing-requires
parts_borrow_nothing-borrows_nothing-requires t c =
    omega (arith, part_smaller c.args.parts.now c.loop-part.part-index c.part-item.result c.loop-part-test.true, ap nodes c.part-item.is)

pub parts_borrow_nothing-loop-part-preserved : goal.parts_borrow_nothing-loop-part-preserved
parts_borrow_nothing-loop-part-preserved t c = λ rest.
    c.loop-part.invariant (part_owned c.args.parts.now c.part-item.result c.loop-part.part-index c.loop-part-test.true c.part-item.is (c.if-not-borrows_nothing.ensures refl) rest)

pub parts_borrow_nothing-returns : goal.parts_borrow_nothing-returns
parts_borrow_nothing-returns t c = λ h. c.loop-part.invariant (parts_owned c.args.parts.now c.loop-part.part-index c.loop-part-test.false)

pub fields_borrow_nothing-borrows_nothing-requires : goal.fields_borrow_nothing-borrows_nothing-requires
fields_borrow_nothing-borrows_nothing-requires t c =
    omega (arith, field_smaller c.args.fields.now c.loop-field.field-index c.field-item.result c.loop-field-test.true, ap (λ (f : FieldShape). nodes f.shape) c.field-item.is)

pub fields_borrow_nothing-loop-field-preserved : goal.fields_borrow_nothing-loop-field-preserved
fields_borrow_nothing-loop-field-preserved t c = λ rest.
    c.loop-field.invariant (field_owned c.args.fields.now c.field-item.result c.loop-field.field-index c.loop-field-test.true c.field-item.is (c.if-not-borrows_nothing.ensures refl) rest)

pub fields_borrow_nothing-returns : goal.fields_borrow_nothing-returns
fields_borrow_nothing-returns t c = λ h. c.loop-field.invariant (fields_owned c.args.fields.now c.loop-field.field-index c.loop-field-test.false)

pub variants_borrow_nothing-content_borrows_nothing-requires : goal.variants_borrow_nothing-content_borrows_nothing-requires
variants_borrow_nothing-content_borrows_nothing-requires t c =
    omega (arith, variant_smaller c.args.variants.now c.loop-variant.variant-index c.variant-item.result c.loop-variant-test.true, ap (λ (v : VariantShape). content_nodes (content_of v.content)) c.variant-item.is)

pub variants_borrow_nothing-loop-variant-preserved : goal.variants_borrow_nothing-loop-variant-preserved
variants_borrow_nothing-loop-variant-preserved t c = λ rest.
    c.loop-variant.invariant (variant_owned c.args.variants.now c.variant-item.result c.loop-variant.variant-index c.loop-variant-test.true c.variant-item.is (c.if-not-content_borrows_nothing.ensures refl) rest)

pub variants_borrow_nothing-returns : goal.variants_borrow_nothing-returns
variants_borrow_nothing-returns t c = λ h. c.loop-variant.invariant (variants_owned c.args.variants.now c.loop-variant.variant-index c.loop-variant-test.false)
