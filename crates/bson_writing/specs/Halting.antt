-- Why a writer stops before its end. Source: this library's own errors.
use Rattle.std.specs.Prelude.{◌≡◌, ℕ, ◌<◌, reverse, Option, Some, Result, Ok, Err, IsOk}
use Rattle.bson_base.specs.Sound.{max_bytes}
use Rattle.bson_values.specs.Cause.{too_long}
use Rattle.bson_values.specs.Refusal.{WriteFault, unwritable, Refusal, here, Segment}
use Rattle.bson_values.specs.Stop as stops
use Rattle.bson_values.specs.Stop.{segments_out, stop_view}
use Rattle.bson_values.specs.ErrorView.{write_fault}
use Rattle.bson_values.specs.declared.stop.Refused as code
use Rattle.bson_values.specs.declared.stop.Stop.TheVariants.{Refused, NoMemory}
use Rattle.bson_values.specs.declared.ser.Fault.{Fault}
use Rattle.bson_laws.specs.Spell.{Writing}
use Rattle.bson_writing.specs.declared.halt.Halt.{Halt}
use Rattle.bson_writing.specs.declared.halt.Halt.TheVariants.{Stopped, TooLong}

-- a refusal as it was met: a fault, and the segments from the innermost outwards
abbrev pub refusal : code.Refused Fault → Refusal WriteFault
refusal r = record { path = reverse (segments_out r); fault = write_fault r.fault }

-- the refusal, where memory did not run out
abbrev pub halt_view : Halt → Option (Refusal WriteFault)
halt_view (Stopped s) = stop_view write_fault s
halt_view TooLong = Some (here (unwritable too_long))

-- memory ran out
abbrev pub IsOutOfMemory : Halt → Type 0
IsOutOfMemory (Stopped s) = stops.IsOutOfMemory s
IsOutOfMemory TooLong = ⊥

-- a fault of the value itself, or memory ran out
abbrev pub IsHereOrMemory : WriteFault → Halt → Type 0
IsHereOrMemory f (Stopped (Refused r)) = refusal r.value ≡ here f
IsHereOrMemory f (Stopped NoMemory) = Unit {0}
IsHereOrMemory f TooLong = ⊥

-- the same, seen from the value that has the value at this segment, or memory ran out
abbrev pub IsUnder : Segment → Halt → Halt → Type 0
IsUnder segment TooLong h = h ≡ TooLong
IsUnder segment (Stopped s) (Stopped t) = stops.IsUnder segment s t
IsUnder segment (Stopped s) TooLong = ⊥

-- Why something of a size is not written into so much spare room: a refusal is the one of the definition, memory runs out only where
-- the definition gives another refusal or the room is too small, and only what has more bytes than a document may is too long.
abbrev pub Halts : {A : Type 0} → ℕ → ℕ → Writing A → Halt → Type 0
Halts size spare expected (Stopped (Refused r)) = expected ≡ Err (refusal r.value)
Halts size spare expected (Stopped NoMemory) = IsOk expected → spare < size
Halts size spare expected TooLong = max_bytes < size

-- what the definition gives is given, or there is a reason not to
abbrev pub Gives : {X Y : Type 0} → ℕ → ℕ → (X → Y) → Result X Halt → Writing Y → Type 0
Gives size spare view (Ok x) expected = expected ≡ Ok (view x)
Gives size spare view (Err h) expected = Halts size spare expected h
