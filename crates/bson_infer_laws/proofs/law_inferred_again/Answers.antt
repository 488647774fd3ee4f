use Rattle.bson_infer_laws.proofs.Shapes.{each_again}
use Rattle.bson_infer_laws.proofs.law_inferred_again.Goals as goal

pub returns : goal.returns
returns c = record { again = each_again }
