use Rattle.std.proofs.Common.{ap, sym, subst, ◌∙◌}
use Rattle.bson_tree_recast.specs.Recast.{Recast, writes}
use Rattle.bson_recasting.specs.Recasting.{IsAppended}
use Rattle.bson_recasting.proofs.AtOnce.{at_once}
use Rattle.bson_recasting.proofs.recasting.recast_to_buf.Goals as goal

pub returns-in-Some : goal.returns-in-Some
returns-in-Some c =
    let given = ap writes c.deref.ensures.value ∙ sym (at_once c.args.shape.now c.args.bytes.now c.in-Some.made.items c.in-Some.ensures.recast) in
    record { exact = subst (λ (r : Recast). IsAppended r c.args.out.now.bytes c.append.new.out.bytes c.append.result) given c.append.ensures }
