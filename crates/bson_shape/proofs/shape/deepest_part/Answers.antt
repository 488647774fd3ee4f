use Rattle.std.proofs.Common.{◌∙◌, subst, ap, arith}
use Rattle.bson_shape.specs.Levels.{levels}
use Rattle.bson_shape.specs.Makers.{IsShape}
use Rattle.bson_shape.proofs.Shapes.{deepest_part_more, AreParts_more}
use Rattle.bson_shape.proofs.shape.deepest_part.Goals as goal

pub loop-part-preserved : goal.loop-part-preserved
loop-part-preserved c =
    let fs = c.args.parts.now in
    let i = c.loop-part.part-index in
    let f = c.part-item.result in
    record {
      levels = c.max-levels.ensures ∙ omega (arith, deepest_part_more fs i f (omega arith), c.levels.ensures.levels, ap levels c.part-item.is, c.loop-part.invariant.levels);
      few = omega arith;
      shapes = AreParts_more fs i f (omega arith) c.loop-part.invariant.shapes (subst IsShape c.part-item.is c.levels.ensures.shape);
    }
