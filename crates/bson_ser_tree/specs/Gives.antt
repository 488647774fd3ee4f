-- What a writer of values gives: what the definition of writing gives, or out of memory. Source: this library's own errors.
use Rattle.std.specs.Prelude.{◌≡◌, Option, Some, None, Result, Ok, Err}
use Rattle.bson_faults.specs.declared.raw.Error.{Error}
use Rattle.bson_faults.specs.declared.raw.Error.TheVariants.{NoMemory}
use Rattle.bson_values.specs.Cause.{raw}
use Rattle.bson_values.specs.Refusal.{WriteFault, unwritable, Refusal, here, Failure, no_memory, bare}
use Rattle.bson_values.specs.Stop.{stop_view}
use Rattle.bson_values.specs.ErrorView.{write_fault}
use Rattle.bson_values.specs.declared.ser.Fault.{Fault}
use Rattle.bson_values.specs.declared.stop.Stop.{Stop}
use Rattle.bson_laws.specs.Spell.{Writing}

-- what the definition gives is this refusal; nothing is said where memory ran out
abbrev pub RefusesAs : {Y : Type 0} → Option (Refusal WriteFault) → Writing Y → Type 0
RefusesAs None expected = Unit {0}
RefusesAs (Some r) expected = expected ≡ Err r

-- a fault of the value itself, or out of memory
abbrev pub IsHereOrMemory : WriteFault → Option (Refusal WriteFault) → Type 0
IsHereOrMemory f None = Unit {0}
IsHereOrMemory f (Some r) = r ≡ here f

-- the refusal for a fault in the bytes of the value, or out of memory
abbrev pub IsFaultOrMemory : Error → Option (Refusal WriteFault) → Type 0
IsFaultOrMemory e None = Unit {0}
IsFaultOrMemory NoMemory (Some r) = ⊥
IsFaultOrMemory e (Some r) = r ≡ here (unwritable (raw e))

-- A writer inside a value gives what the definition gives, seen so, or its refusal with the path so far; or memory ran out.
abbrev pub Reaches : {X Y : Type 0} → (X → Y) → Result X (Stop Fault) → Writing Y → Type 0
Reaches see (Ok x) expected = expected ≡ Ok (see x)
Reaches see (Err s) expected = RefusesAs (stop_view write_fault s) expected

-- the failure is the refusal without its path, or out of memory
abbrev pub IsBare : Option (Refusal WriteFault) → Failure WriteFault → Type 0
IsBare None f = f ≡ no_memory
IsBare (Some r) f = f ≡ bare r.fault
