use Rattle.std.proofs.Common.{arith}
use Rattle.bson_met.specs.OpenedView.{extended_view}
use Rattle.bson_met.specs.declared.opened.Place.TheVariants.{Start}
use Rattle.bson_met.proofs.Counts.{count_left}
use Rattle.bson_met.proofs.elements.Elements.of_extended.Goals as goal

pub invariant_of-result : goal.invariant_of-result
invariant_of-result c = omega (arith, count_left Start (extended_view c.args.value))
