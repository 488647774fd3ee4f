use Rattle.std.proofs.Common.{Some}
use Rattle.bson_keys.proofs.KeyPlaces.{tree_updates}
use Rattle.bson_keys.proofs.places.insert.Goals as goal

pub returns : goal.returns
returns c = λ text. tree_updates c.args.key c.second_hash_of.result c.args.places.now c.insert.new.self (Some c.args.place) c.second_hash_of.ensures c.in_ok-insert.ensures.updates text
