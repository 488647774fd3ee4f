use Rattle.std.proofs.Common.{rules}
use Rattle.bson_pass_parts.proofs.Leaves.{int32_node}
use Rattle.bson_pass_parts.proofs.leaf.recast_int32.Goals as goal

pub returns : goal.returns
returns c = rw (int32_node c.args.levels c.args.bytes.now) (search rules)
