use Rattle.std.proofs.Common.{rules}
use Rattle.bson_keys.proofs.More.{none_met}
use Rattle.bson_keys.proofs.met.MetKeys.new.Goals as goal

pub returns : goal.returns
returns c = record { none = none_met _ (search rules) (search rules) }
