use Rattle.std.proofs.Common.{Some, ap, sym, subst, ◌∙◌}
use Rattle.bson_base.specs.BsonView.{trees_of}
use Rattle.bson_base.specs.Tree.{Tree, array}
use Rattle.bson_values.specs.Cause.{not_borrowed}
use Rattle.bson_laws.specs.Judged.{Reading}
use Rattle.bson_laws.specs.TreeRaw.{built_of}
use Rattle.bson_met.proofs.Refusals.{StopsAs, refused_stops}
use Rattle.bson_raw_builder.specs.RawTreeView.{IsBuilt}
use Rattle.bson_raw_builder.proofs.reading.build_array.Goals as goal

pub returns-in-Some : goal.returns-in-Some
returns-in-Some c =
    let t = array (trees_of c.as_slice.result.now) in
    let whole = ap built_of (sym c.in-Some.ensures.tree) ∙ ap (λ vs. built_of (Some (array (trees_of vs)))) (sym c.as_slice.ensures.value) in
    record { built = subst (λ (r : Reading Tree). IsBuilt c.reading.result r) (sym whole) (c.reading.ensures.read t tt c.raw_of_values.ensures.assembled) }

pub returns-in-None : goal.returns-in-None
returns-in-None c =
    let stop = c.refused.result in
    record { built = subst (λ (r : Reading Tree). StopsAs stop r) (ap built_of c.in-None.ensures.tree) (refused_stops Tree not_borrowed stop c.refused.ensures.here) }
