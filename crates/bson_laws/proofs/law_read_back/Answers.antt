use Rattle.bson_laws.proofs.AtShapes.{means_read}
use Rattle.bson_laws.proofs.law_read_back.Goals as goal

pub returns : goal.returns
returns c = record { reads = means_read }
