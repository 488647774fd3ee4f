use Rattle.bson_base.specs.Tree.{binary}
use Rattle.bson_pass_parts.proofs.Leaves.{if_put, binary_read}
use Rattle.bson_pass_parts.proofs.binary.recast_binary.Goals as goal

pub returns-in-Binary-default : goal.returns-in-Binary-default
returns-in-Binary-default c =
    rw c.in-Binary-default.is-0 (if_put c.put_binary.result _ (binary c.args.subtype.0 c.args.bytes.now) c.args.made.now.items c.put_binary.new.made.items (binary_read c.args.subtype.0 c.args.bytes.now c.args.levels) c.put_binary.ensures.put c.put_binary.ensures.clean)
