-- What contracts see of failures and of faults. Source: this library's own errors.
use Rattle.std.specs.Prelude.{◌≡◌, reverse, Option, Some, None}
use Rattle.bson_values.specs.PathView.{path_view}
use Rattle.bson_values.specs.Refusal.{Refusal}
use Rattle.bson_values.specs.Stop.{segments_out}
use Rattle.bson_values.specs.declared.stop.Stop.{Stop}
use Rattle.bson_values.specs.declared.stop.Stop.TheVariants as stops
use Rattle.bson_json_laws.specs.Unread.{Unread, not_json, bad_wrapper, key_twice, too_large, no_document, too_deep}
use Rattle.bson_json_laws.specs.declared.failure.Failure.{Failure}
use Rattle.bson_json_laws.specs.declared.failure.Failure.TheVariants.{At, NoMemory}
use Rattle.bson_json_laws.specs.declared.json_fault.JsonFault.{JsonFault}
use Rattle.bson_json_laws.specs.declared.json_fault.JsonFault.TheVariants as faults

-- the fault, without the place in a text that is not JSON
abbrev pub unread : JsonFault → Unread
unread (faults.NotJson place) = not_json
unread (faults.BadWrapper w) = bad_wrapper w
unread faults.KeyTwice = key_twice
unread faults.NumberTooLarge = too_large
unread faults.NotDocument = no_document
unread faults.TooDeep = too_deep

-- the refusal, where memory did not run out
abbrev pub failure_view : {E F : Type 0} → (E → F) → Failure E → Option (Refusal F)
failure_view tell NoMemory = None
failure_view tell (At path fault) = Some (record { path = path_view path; fault = tell fault })

abbrev pub IsOutOfMemory : {E : Type 0} → Failure E → Type 0
IsOutOfMemory NoMemory = Unit {0}
IsOutOfMemory (At path fault) = ⊥

-- the same fault at the same path, or out of memory
abbrev pub IsFailureOf : {E : Type 0} → Stop E → Failure E → Type 0
IsFailureOf stops.NoMemory f = f ≡ NoMemory
IsFailureOf (stops.Refused r) NoMemory = ⊥
IsFailureOf (stops.Refused r) (At path fault) = (path_view path ≡ reverse (segments_out r.value)) × (fault ≡ r.value.fault)
