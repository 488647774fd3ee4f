use Rattle.bson_pass_parts.proofs.PartsOwned.{leaf_owned}
use Rattle.bson_pass_parts.proofs.owned.is_owned.Goals as goal

pub returns-in_default : goal.returns-in_default
returns-in_default c = λ h. leaf_owned c.args.leaf c.in_default.not-Str c.in_default.not-Bytes
