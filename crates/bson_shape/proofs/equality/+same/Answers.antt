use Rattle.std.proofs.Common.{◌<◌, sym, subst, arith}
use Rattle.bson_shape.specs.ShapeView.{fields_of, parts_of, variants_of, content_of, nodes, fields_nodes, parts_nodes, variants_nodes, content_nodes}
use Rattle.bson_shape.specs.declared.shape.VariantShape.{VariantShape}
use Rattle.bson_shape.proofs.Sames.{same_fields-lengths, same_parts-lengths, same_variants-lengths}
use Rattle.bson_shape.proofs.Shapes.{field_smaller, part_smaller, variant_smaller}
use Rattle.bson_shape.proofs.equality.+same.Goals as goal

pub are_same-returns-then-a-b : goal.are_same-returns-then-a-b
are_same-returns-then-a-b t c = sym (same_fields-lengths c.args.a.now c.args.b.now c.if-a-b.true)

pub are_same-is_same-requires : goal.are_same-is_same-requires
are_same-is_same-requires t c =
    let fs = c.args.a.now in
    let f = c.index-a-i.result in
    let smaller : nodes f.shape < fields_nodes (fields_of fs) = subst (λ g. nodes g.shape < fields_nodes (fields_of fs)) (sym c.index-a-i.is) (field_smaller fs c.loop-i.i f (omega arith)) in
    (omega (arith, smaller, c.decreases), tt)

pub are_same_parts-returns-then-a-b : goal.are_same_parts-returns-then-a-b
are_same_parts-returns-then-a-b t c = sym (same_parts-lengths c.args.a.now c.args.b.now c.if-a-b.true)

pub are_same_parts-is_same-requires : goal.are_same_parts-is_same-requires
are_same_parts-is_same-requires t c =
    let fs = c.args.a.now in
    let f = c.index-a-i.result in
    let smaller : nodes f < parts_nodes (parts_of fs) = subst (λ g. nodes g < parts_nodes (parts_of fs)) (sym c.index-a-i.is) (part_smaller fs c.loop-i.i f (omega arith)) in
    (omega (arith, smaller, c.decreases), tt)

pub are_same_variants-returns-then-a-b : goal.are_same_variants-returns-then-a-b
are_same_variants-returns-then-a-b t c = sym (same_variants-lengths c.args.a.now c.args.b.now c.if-a-b.true)

pub are_same_variants-is_same_content-requires : goal.are_same_variants-is_same_content-requires
are_same_variants-is_same_content-requires t c =
    let vs = c.args.a.now in
    let v = c.index-a-i.result in
    let smaller : content_nodes (content_of v.content) < variants_nodes (variants_of vs) = subst (λ (w : VariantShape). content_nodes (content_of w.content) < variants_nodes (variants_of vs)) (sym c.index-a-i.is) (variant_smaller vs c.loop-i.i v (omega arith)) in
    (omega (arith, smaller, c.decreases), tt)
