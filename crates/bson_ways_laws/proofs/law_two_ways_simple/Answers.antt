use Rattle.bson_ways_laws.proofs.Simple.{taken_forth, taken_back}
use Rattle.bson_ways_laws.proofs.law_two_ways_simple.Goals as goal

pub returns : goal.returns
returns c = record { forth = taken_forth; back = taken_back }
