-- What contracts see of a refusal without its path. Source: this library's own errors.
use Rattle.std.specs.Prelude.{◌≡◌, Option, Some, None}
use Rattle.bson_values.specs.Refusal.{ReadFault, Refusal, Failure, no_memory, bare}

-- the failure is the fault of the refusal alone; or memory ran out
abbrev pub IsBare : Option (Refusal ReadFault) → Failure ReadFault → Type 0
IsBare None f = f ≡ no_memory
IsBare (Some r) f = f ≡ bare r.fault
