use Rattle.bson_shape.proofs.Chains.{guarded_if, guarded_never, unguarded_back}
use Rattle.bson_shape.proofs.guarded.law_guarded.Goals as goal

pub returns-clause-guarded : goal.returns-clause-guarded
returns-clause-guarded c = guarded_never

pub returns-clause-unguarded : goal.returns-clause-unguarded
returns-clause-unguarded c = unguarded_back

pub returns-clause-ends : goal.returns-clause-ends
returns-clause-ends c = guarded_if
