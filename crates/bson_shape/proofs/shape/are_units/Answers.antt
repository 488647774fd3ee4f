use Rattle.std.proofs.Common.{◌∙◌, sym, arith}
use Rattle.bson_shape.proofs.Shapes.{are_units_missed, are_units_more}
use Rattle.bson_shape.proofs.shape.are_units.Goals as goal

pub returns-then-not-is_unit : goal.returns-then-not-is_unit
returns-then-not-is_unit c = sym (are_units_missed _ c.loop-variant.variant-index _ (omega arith) c.variant-item.is (sym c.is_unit.ensures ∙ c.if-not-is_unit.true))

pub loop-variant-preserved : goal.loop-variant-preserved
loop-variant-preserved c = are_units_more _ c.loop-variant.variant-index _ (omega arith) c.variant-item.is c.loop-variant.invariant (sym c.is_unit.ensures ∙ c.if-not-is_unit.false)
