use Rattle.std.proofs.Common.{ap, arith}
use Rattle.bson_met.specs.ItemsView.{array_nodes}
use Rattle.bson_met.specs.Seen.{seen_nodes}
use Rattle.bson_met.proofs.SeenAlike.{seen_count}
use Rattle.bson_met.proofs.items.Items.of_array.Goals as goal

pub invariant_of-result : goal.invariant_of-result
invariant_of-result c =
    let a = c.args.array in
    omega (arith, seen_count a.mends (array_nodes a.levels c.source_of.result), c.source_of.ensures.few a.levels)

pub returns : goal.returns
returns c = let a = c.args.array in record { elements = ap (seen_nodes a.mends) (c.source_of.ensures.elements a.levels) }
