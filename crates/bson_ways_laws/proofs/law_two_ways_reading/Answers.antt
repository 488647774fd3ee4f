use Rattle.bson_ways_laws.proofs.TwoWays.{read_alike, spelled_alike}
use Rattle.bson_ways_laws.proofs.law_two_ways_reading.Goals as goal

pub returns : goal.returns
returns c = record { same = read_alike; spells = spelled_alike }
