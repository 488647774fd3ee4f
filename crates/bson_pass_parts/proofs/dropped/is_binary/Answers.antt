use Rattle.bson_pass_parts.proofs.Leaves.{binary_passed}
use Rattle.bson_pass_parts.proofs.dropped.is_binary.Goals as goal

pub returns : goal.returns
returns c = binary_passed c.args.subtype.0 c.args.bytes.now
