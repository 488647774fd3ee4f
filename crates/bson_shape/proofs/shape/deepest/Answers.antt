use Rattle.std.proofs.Common.{◌∙◌, subst, ap, arith}
use Rattle.bson_shape.specs.Levels.{levels}
use Rattle.bson_shape.specs.Makers.{IsShape}
use Rattle.bson_shape.proofs.Shapes.{deepest_more, AreShapes_more}
use Rattle.bson_shape.proofs.shape.deepest.Goals as goal

pub loop-field-preserved : goal.loop-field-preserved
loop-field-preserved c =
    let fs = c.args.fields.now in
    let i = c.loop-field.field-index in
    let f = c.field-item.result in
    record {
      levels = c.max-levels.ensures ∙ omega (arith, deepest_more fs i f (omega arith), c.levels.ensures.levels, ap (λ g. levels g.shape) c.field-item.is, c.loop-field.invariant.levels);
      few = omega arith;
      shapes = AreShapes_more fs i f (omega arith) c.loop-field.invariant.shapes (subst (λ g. IsShape g.shape) c.field-item.is c.levels.ensures.shape);
    }
