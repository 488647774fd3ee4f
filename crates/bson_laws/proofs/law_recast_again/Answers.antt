use Rattle.bson_laws.proofs.AtShapes.{document_again}
use Rattle.bson_laws.proofs.law_recast_again.Goals as goal

pub returns : goal.returns
returns c = record { again = document_again }
