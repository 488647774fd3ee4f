use Rattle.bson_laws.proofs.Unmarked.{tree_unmarked, opened_alike}
use Rattle.bson_laws.proofs.law_opened_agrees.Goals as goal

pub returns : goal.returns
returns c = record { opened = opened_alike; trees = tree_unmarked }
