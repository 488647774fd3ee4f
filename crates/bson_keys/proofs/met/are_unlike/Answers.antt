use Rattle.bson_keys.proofs.Distinct.{different}
use Rattle.bson_keys.proofs.met.are_unlike.Goals as goal

pub returns : goal.returns
returns c = λ h. different c.args.numbers.now c.sort_unstable.new.self c.sort_unstable.ensures.permutation (c.are_ascending.ensures h)
