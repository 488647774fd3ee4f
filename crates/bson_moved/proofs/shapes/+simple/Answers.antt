use Rattle.std.proofs.Common.{◌<◌, sym, subst, arith}
use Rattle.bson_shape.specs.ShapeView.{fields_nodes, fields_of, nodes}
use Rattle.bson_shape.specs.declared.shape.FieldShape.{FieldShape}
use Rattle.bson_shape.proofs.Shapes.{field_smaller}
use Rattle.bson_moved.proofs.shapes.+simple.Goals as goal

pub are_simple-is_simple-requires : goal.are_simple-is_simple-requires
are_simple-is_simple-requires t c =
    let xs = c.args.fields.now in
    let x = c.field-item.result in
    let smaller : nodes x.shape < fields_nodes (fields_of xs) = subst (λ (y : FieldShape). nodes y.shape < fields_nodes (fields_of xs)) (sym c.field-item.is) (field_smaller xs c.loop-field.field-index x (omega arith)) in
    (omega (arith, smaller, c.decreases), tt)
