use Rattle.bson_number_laws.proofs.Documents.{document_numbers}
use Rattle.bson_number_laws.proofs.law_tree_numbers.Goals as goal

pub returns : goal.returns
returns c = record { numbers = document_numbers }
