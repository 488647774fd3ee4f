use Rattle.bson_infer_run.proofs.EncodedFiles.{encoded_file}
use Rattle.bson_infer_run.proofs.laws.law_infer_files.Goals as goal

pub returns : goal.returns
returns c = record { infers = encoded_file }
