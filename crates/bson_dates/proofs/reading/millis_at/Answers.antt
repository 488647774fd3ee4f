use Rattle.std.proofs.Common.{arith}
use Rattle.std.proofs.lemmas.Int.{ints}
use Rattle.bson_dates.proofs.reading.millis_at.Goals as goal

pub returns : goal.returns
returns c = omega (arith, ints)
