use Rattle.bson_tree_laws.proofs.Writers.{writers}
use Rattle.bson_tree_laws.proofs.law_writers.Goals as goal

pub returns : goal.returns
returns c = record { writes = writers }
