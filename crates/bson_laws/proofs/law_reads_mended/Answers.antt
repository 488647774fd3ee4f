use Rattle.bson_laws.proofs.AtShapes.{document_marked}
use Rattle.bson_laws.proofs.law_reads_mended.Goals as goal

pub returns : goal.returns
returns c = record { same = document_marked }
