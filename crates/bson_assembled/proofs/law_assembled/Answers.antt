use Rattle.bson_assembled.proofs.Itself.{assembled_itself}
use Rattle.bson_assembled.proofs.law_assembled.Goals as goal

pub returns : goal.returns
returns c = record { itself = assembled_itself }
