use Rattle.bson_ways_laws.proofs.TwoWays.{made_alike}
use Rattle.bson_ways_laws.proofs.law_two_ways_writing.Goals as goal

pub returns : goal.returns
returns c = record { writes = made_alike }
