use Rattle.bson_values.specs.Value as value
use Rattle.bson_laws.specs.Judged.{judged}
use Rattle.bson_laws.specs.Taken.{null_of}
use Rattle.bson_texts.proofs.Mapped.{taken, not_taken}
use Rattle.bson_leaves.proofs.leaf.unit.Goals as goal

pub returns-in-Ok : goal.returns-in-Ok
returns-in-Ok c = record { exact = taken (λ _. value.unit) (judged c.args.value.now) (null_of) _ c.in-Ok.ensures }

pub returns-in-Err : goal.returns-in-Err
returns-in-Err c = record { exact = not_taken (λ _. value.unit) (judged c.args.value.now) (null_of) c.in-Err.stop c.in-Err.ensures }
