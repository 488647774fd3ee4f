use Rattle.bson_values.specs.Value as value
use Rattle.bson_laws.specs.Judged.{judged, passes}
use Rattle.bson_texts.proofs.Mapped.{taken, not_taken}
use Rattle.bson_leaves.proofs.leaf.ignored.Goals as goal

pub returns-in-Ok : goal.returns-in-Ok
returns-in-Ok c = record { exact = taken (λ _. value.unit) (judged c.args.value.now) (passes) _ c.in-Ok.ensures.exact }

pub returns-in-Err : goal.returns-in-Err
returns-in-Err c = record { exact = not_taken (λ _. value.unit) (judged c.args.value.now) (passes) c.in-Err.stop c.in-Err.ensures.exact }
