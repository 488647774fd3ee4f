use Rattle.bson_evolve_differences.proofs.Sure.{are_of_reached, tell_each}
use Rattle.bson_evolve_differences.proofs.Walks.{begins_with_fault}
use Rattle.bson_evolve_differences.proofs.law_differences.Goals as goal

pub returns : goal.returns
returns c = record {
  begins = λ old new ds f. begins_with_fault old new ds f;
  reached = λ old new ds f. are_of_reached old new ds f;
  each = λ old new ds f. tell_each old new ds f;
}
