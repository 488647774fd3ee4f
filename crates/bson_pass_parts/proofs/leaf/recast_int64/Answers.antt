use Rattle.std.proofs.Common.{rules}
use Rattle.bson_pass_parts.proofs.Leaves.{int64_node}
use Rattle.bson_pass_parts.proofs.leaf.recast_int64.Goals as goal

pub returns : goal.returns
returns c = rw (int64_node c.args.levels c.args.bytes.now) (search rules)
