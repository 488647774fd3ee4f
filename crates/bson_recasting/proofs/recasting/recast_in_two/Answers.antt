use Rattle.std.proofs.Common.{sym, subst}
use Rattle.bson_tree_recast.specs.Recast.{recast_read}
use Rattle.bson_recasting.specs.Recasting.{IsAppended}
use Rattle.bson_recasting.proofs.recasting.recast_in_two.Goals as goal

pub returns : goal.returns
returns c = record { exact = subst (λ a. IsAppended (recast_read a) c.args.out.now.bytes c.write-written.new.out.bytes c.write-written.result) (sym c.in_ok-datum.ensures.exact) c.write-written.ensures.exact }
