use Rattle.std.proofs.Common.{◌++◌, ap, sym, ◌∙◌}
use Rattle.bson_tree_recast.specs.Recast.{writes}
use Rattle.bson_recasting.proofs.AtOnce.{at_once}
use Rattle.bson_recasting.proofs.recasting.through.Goals as goal

pub returns : goal.returns
returns c =
    let a = c.in_ok-recast_in_two.ensures.exact in
    a.1 ∙ ap writes (ap (λ old. old ++ a.0) (sym c.new-out.ensures) ∙ sym a.2 ∙ sym c.into_vec.ensures)

pub returns-in-Some : goal.returns-in-Some
returns-in-Some c = at_once c.args.shape.now c.args.bytes.now c.in-Some.made.items c.in-Some.ensures.recast
