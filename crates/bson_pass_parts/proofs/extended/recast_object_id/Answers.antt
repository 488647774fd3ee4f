use Rattle.bson_pass_parts.proofs.Leaves.{id_put}
use Rattle.bson_pass_parts.proofs.extended.recast_object_id.Goals as goal

pub returns-in_ok-put-in-ObjectId : goal.returns-in_ok-put-in-ObjectId
returns-in_ok-put-in-ObjectId c = rw c.in-ObjectId.is (id_put c.args.id.0 c.args.made.now.items c.put.new.made.items c.args.levels c.known.ensures c.in_ok-put-in-ObjectId.ensures)
