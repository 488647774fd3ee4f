use Rattle.std.proofs.Common.{◌≡◌, ◌<◌, ap, sym, subst, ◌∙◌, arith}
use Rattle.std.specs.Prelude.{is_some}
use Rattle.bson_shape.specs.Form.{reference}
use Rattle.bson_shape.specs.ShapeView.{content_of, content_nodes, fields_nodes, fields_of, form_view, nodes, parts_nodes, parts_of, variants_nodes, variants_of}
use Rattle.bson_shape.specs.declared.shape.FieldShape.{FieldShape}
use Rattle.bson_shape.specs.declared.shape.VariantShape.{VariantShape}
use Rattle.bson_shape.proofs.Shapes.{field_smaller, part_smaller, variant_smaller}
use Rattle.bson_evolve_laws.specs.PlainTest.{is_plain_in}
use Rattle.bson_evolve_check.proofs.Found.{has_definition, some_copied}
use Rattle.bson_evolve_check.proofs.plain.+plain.Goals as goal

pub is_plain_in-returns-in-Reference : goal.is_plain_in-returns-in-Reference
is_plain_in-returns-in-Reference t c =
    let h = fields_of c.args.around.definitions.now in
    let is : c.args.shape.now ≡ reference c.in-Reference.name.now = sym c.form.ensures.form ∙ ap form_view c.in-Reference.is in
    c.is_some.ensures ∙ some_copied c.definition.result ∙ ap is_some c.definition.ensures ∙ sym (has_definition h c.in-Reference.name.now) ∙ ap (is_plain_in h) (sym is)

pub are_plain_items-is_plain_in-requires : goal.are_plain_items-is_plain_in-requires
are_plain_items-is_plain_in-requires t c =
    let xs = c.args.items.now in
    let x = c.item-item.result in
    let smaller : nodes x < parts_nodes (parts_of xs) = subst (λ y. nodes y < parts_nodes (parts_of xs)) (sym c.item-item.is) (part_smaller xs c.loop-item.item-index x (omega arith)) in
    (omega (arith, smaller, c.decreases), c.requires)

pub are_plain_fields-is_plain_in-requires : goal.are_plain_fields-is_plain_in-requires
are_plain_fields-is_plain_in-requires t c =
    let xs = c.args.fields.now in
    let x = c.field-item.result in
    let smaller : nodes x.shape < fields_nodes (fields_of xs) = subst (λ (y : FieldShape). nodes y.shape < fields_nodes (fields_of xs)) (sym c.field-item.is) (field_smaller xs c.loop-field.field-index x (omega arith)) in
    (omega (arith, smaller, c.decreases), c.requires)

pub are_plain_definitions-is_plain_in-requires : goal.are_plain_definitions-is_plain_in-requires
are_plain_definitions-is_plain_in-requires t c =
    let xs = c.args.definitions.now in
    let x = c.definition-item.result in
    let smaller : nodes x.shape < fields_nodes (fields_of xs) = subst (λ (y : FieldShape). nodes y.shape < fields_nodes (fields_of xs)) (sym c.definition-item.is) (field_smaller xs c.loop-definition.definition-index x (omega arith)) in
    (omega (arith, smaller, c.decreases), c.requires)

pub are_plain_variants-is_plain_content-requires : goal.are_plain_variants-is_plain_content-requires
are_plain_variants-is_plain_content-requires t c =
    let xs = c.args.variants.now in
    let x = c.variant-item.result in
    let smaller : content_nodes (content_of x.content) < variants_nodes (variants_of xs) = subst (λ (y : VariantShape). content_nodes (content_of y.content) < variants_nodes (variants_of xs)) (sym c.variant-item.is) (variant_smaller xs c.loop-variant.variant-index x (omega arith)) in
    (omega (arith, smaller, c.decreases), c.requires)
