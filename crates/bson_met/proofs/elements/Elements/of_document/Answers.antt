use Rattle.std.proofs.Common.{ap, arith}
use Rattle.bson_met.specs.ElementsView.{source_nodes}
use Rattle.bson_met.specs.Seen.{seen_nodes}
use Rattle.bson_met.proofs.SeenAlike.{seen_count}
use Rattle.bson_met.proofs.elements.Elements.of_document.Goals as goal

pub invariant_of-result : goal.invariant_of-result
invariant_of-result c =
    let d = c.args.document in
    omega (arith, seen_count d.mends (source_nodes d.levels c.source_of.result), c.source_of.ensures.few d.levels)

pub returns : goal.returns
returns c = let d = c.args.document in record { elements = ap (seen_nodes d.mends) (c.source_of.ensures.elements d.levels) }
