use Rattle.std.proofs.Common.{Some}
use Rattle.bson_infer_run.proofs.NamePlaces.{tree_updates}
use Rattle.bson_infer_run.proofs.names.put.Goals as goal

pub returns : goal.returns
returns c = λ text. tree_updates c.args.name c.args.places.now c.insert.new.self (Some c.args.place) c.in_ok-insert.ensures.updates text
