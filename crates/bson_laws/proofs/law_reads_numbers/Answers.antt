use Rattle.bson_laws.proofs.AtShapes.{document_numbers}
use Rattle.bson_laws.proofs.law_reads_numbers.Goals as goal

pub returns : goal.returns
returns c = record { numbers = document_numbers }
