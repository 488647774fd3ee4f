use Rattle.bson_ways_laws.proofs.TwoWays.{ways_agree}
use Rattle.bson_ways_laws.proofs.law_two_ways.Goals as goal

pub returns : goal.returns
returns c = record { agree = ways_agree }
