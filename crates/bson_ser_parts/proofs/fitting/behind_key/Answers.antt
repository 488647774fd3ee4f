use Rattle.bson_laws.specs.Unwrap.{a_key}
use Rattle.bson_ser_parts.proofs.Behind.{behind_none, behind_test}
use Rattle.bson_ser_parts.proofs.fitting.behind_key.Goals as goal

pub returns-in_err-place : goal.returns-in_err-place
returns-in_err-place c = rw c.from_residual.ensures (behind_none c.args.places.now (a_key c.args.key.now) c.in_err-place.ensures.cases)

pub returns : goal.returns
returns c = behind_test c.in_ok-place.rest (λ left. left.now) c.in_ok-place.place.now c.args.places.now (a_key c.args.key.now) c.takes_key.result _ c.in_ok-place.ensures.cases.0 c.takes_key.ensures c.then_some.ensures
