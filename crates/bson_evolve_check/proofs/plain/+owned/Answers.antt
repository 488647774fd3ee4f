use Rattle.std.proofs.Common.{◌<◌, sym, subst, arith}
use Rattle.bson_shape.specs.ShapeView.{content_of, content_nodes, fields_nodes, fields_of, nodes, parts_nodes, parts_of, variants_nodes, variants_of}
use Rattle.bson_shape.specs.declared.shape.FieldShape.{FieldShape}
use Rattle.bson_shape.specs.declared.shape.VariantShape.{VariantShape}
use Rattle.bson_shape.proofs.Shapes.{field_smaller, part_smaller, variant_smaller}
use Rattle.bson_evolve_check.proofs.plain.+owned.Goals as goal

pub items_own_texts-owns_texts-requires : goal.items_own_texts-owns_texts-requires
items_own_texts-owns_texts-requires t c =
    let xs = c.args.items.now in
    let x = c.item-item.result in
    let smaller : nodes x < parts_nodes (parts_of xs) = subst (λ y. nodes y < parts_nodes (parts_of xs)) (sym c.item-item.is) (part_smaller xs c.loop-item.item-index x (omega arith)) in
    (omega (arith, smaller, c.decreases), tt)

pub fields_own_texts-owns_texts-requires : goal.fields_own_texts-owns_texts-requires
fields_own_texts-owns_texts-requires t c =
    let xs = c.args.fields.now in
    let x = c.field-item.result in
    let smaller : nodes x.shape < fields_nodes (fields_of xs) = subst (λ (y : FieldShape). nodes y.shape < fields_nodes (fields_of xs)) (sym c.field-item.is) (field_smaller xs c.loop-field.field-index x (omega arith)) in
    (omega (arith, smaller, c.decreases), tt)

pub variants_own_texts-content_owns_texts-requires : goal.variants_own_texts-content_owns_texts-requires
variants_own_texts-content_owns_texts-requires t c =
    let xs = c.args.variants.now in
    let x = c.variant-item.result in
    let smaller : content_nodes (content_of x.content) < variants_nodes (variants_of xs) = subst (λ (y : VariantShape). content_nodes (content_of y.content) < variants_nodes (variants_of xs)) (sym c.variant-item.is) (variant_smaller xs c.loop-variant.variant-index x (omega arith)) in
    (omega (arith, smaller, c.decreases), tt)
