use Rattle.std.proofs.Common.{rules}
use Rattle.bson_tree_recast.specs.Recast.{recast_of}
use Rattle.bson_migrate_run.proofs.Listing.{one_refused}
use Rattle.bson_migrate_run.proofs.migrating.migrate_one.Goals as goal

pub returns-in_ok-push-in-Err : goal.returns-in_ok-push-in-Err
returns-in_ok-push-in-Err c =
    one_refused (recast_of c.args.shape.now c.args.bytes.now) _ c.args.out.now.bytes c.recast_to_buf.new.out.bytes c.args.refused.now.items c.push.new.self.items
    c.in-Err.ensures.exact.0 (search rules) c.in-Err.ensures.exact.1 c.in_ok-push-in-Err.ensures.items
