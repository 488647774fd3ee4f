use Rattle.bson_parts.proofs.Parts.{cut_in_parts}
use Rattle.bson_parts.proofs.law_cut_in_parts.Goals as goal

pub returns : goal.returns
returns c = record { parts = cut_in_parts }
