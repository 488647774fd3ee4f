use Rattle.bson_evolve_laws.proofs.Reflexive.{reflexive}
use Rattle.bson_evolve_laws.proofs.law_reflexive.Goals as goal

pub returns : goal.returns
returns c = record { itself = λ s shape plain. reflexive s shape plain }
