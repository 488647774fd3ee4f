use Rattle.bson_infer_laws.proofs.DocumentsBack.{read_back, file_back}
use Rattle.bson_infer_laws.proofs.SortedOptions.{sorted_sound, document_shape}
use Rattle.bson_infer_laws.proofs.law_encoded_documents.Goals as goal

pub returns : goal.returns
returns c = record { document = read_back; sound = sorted_sound; shape = document_shape; file = file_back }
