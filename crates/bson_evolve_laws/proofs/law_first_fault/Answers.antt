use Rattle.bson_evolve_laws.proofs.Searched.{search_no}
use Rattle.bson_evolve_laws.proofs.law_first_fault.Goals as goal

pub returns : goal.returns
returns c = record { excludes = λ old new path fault compatible. search_no old new path fault compatible }
