use Rattle.bson_evolve_laws.proofs.PlainTests.{plain_found, plain_passes}
use Rattle.bson_evolve_laws.proofs.law_plain.Goals as goal

pub returns : goal.returns
returns c = record { found = λ s e. plain_found s e; passes = λ s p. plain_passes s p }
