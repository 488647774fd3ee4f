use Rattle.std.proofs.Common.{◌∙◌, sym, arith}
use Rattle.bson_shape.proofs.Shapes.{contents_repeat_found, contents_repeat_missed}
use Rattle.bson_shape.proofs.distinct.has_repeat_inside.Goals as goal

pub returns-then-repeats_inside : goal.returns-then-repeats_inside
returns-then-repeats_inside c = sym (contents_repeat_found _ c.loop-variant.variant-index _ (omega arith) c.variant-item.is (sym c.repeats_inside.ensures ∙ c.if-repeats_inside.true))

pub loop-variant-preserved : goal.loop-variant-preserved
loop-variant-preserved c = contents_repeat_missed _ c.loop-variant.variant-index _ (omega arith) c.variant-item.is c.loop-variant.invariant (sym c.repeats_inside.ensures ∙ c.if-repeats_inside.false)
