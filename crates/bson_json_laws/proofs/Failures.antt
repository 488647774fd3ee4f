-- A failure is the refusal that its stop was.
use Rattle.std.proofs.Common.{◌≡◌, Some, ap}
use Rattle.bson_values.specs.Stop.{stop_view}
use Rattle.bson_values.specs.declared.stop.Stop.{Stop}
use Rattle.bson_values.specs.declared.stop.Stop.TheVariants.{Refused, NoMemory}
use Rattle.bson_json_laws.specs.FailureView.{failure_view, IsFailureOf}
use Rattle.bson_json_laws.specs.declared.failure.Failure.{Failure}
use Rattle.bson_json_laws.specs.declared.failure.Failure.TheVariants as failures

pub same_refusal : {E F : Type 0} (tell : E → F) (s : Stop E) (f : Failure E) → IsFailureOf s f → failure_view tell f ≡ stop_view tell s
same_refusal tell NoMemory f h = ap (failure_view tell) h
same_refusal tell (Refused r) failures.NoMemory h = absurd h
same_refusal tell (Refused r) (failures.At path fault) h = λ i. Some (record { path = h.0 i; fault = tell (h.1 i) })
