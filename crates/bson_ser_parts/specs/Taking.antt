-- What the calls of a writer answer that takes a value part by part, by what the whole value is written as. Source: this library's own readers and writers.
use Rattle.std.specs.Prelude.{◌≡◌, ℕ, ◌<◌, ◌≤◌, Bool, true, Some, Result, Ok, Err, IsErrAnd}
use Rattle.bson_base.specs.Sound.{max_bytes}
use Rattle.bson_kinds.specs.Text.{Bytes}
use Rattle.bson_base.specs.Tree.{Tree}
use Rattle.bson_values.specs.Cause as cause
use Rattle.bson_values.specs.Cause.{Cause}
use Rattle.bson_values.specs.Refusal.{WriteFault, Failure, unwritable, here}
use Rattle.bson_values.specs.Stop.{IsPlaced}
use Rattle.bson_values.specs.ErrorView.{write_failure}
use Rattle.bson_values.specs.declared.ser.Error.{Error}
use Rattle.bson_laws.specs.Spell.{Writing}
use Rattle.bson_ser_stream.specs.Writing.{with_tree, Fails, too_long_failure}

-- the writer has failed, and its output holds what it held when the writer began
abbrev pub HasFailed : (begun : Bytes) → (failed : Bool) → (left : Bytes) → Type 0
HasFailed begun failed left = (failed ≡ true) × (left ≡ begun)

-- the call answers that the whole value itself is refused for this cause, or that memory ran out
abbrev pub RefusesFor : {X : Type 0} → Cause → Result X Error → Type 0
RefusesFor why result = IsErrAnd result (λ e. IsPlaced (Some (here (unwritable why))) (write_failure e))

-- it answers that a call before it was refused
abbrev pub AnswersFailed : {X : Type 0} → Result X Error → Type 0
AnswersFailed result = RefusesFor cause.failed result

-- it answers that no such step may come now
abbrev pub AnswersBadStep : {X : Type 0} → Result X Error → Type 0
AnswersBadStep result = RefusesFor cause.bad_step result

-- Why it fails, as of something of a size; and it answers `TooLong` only where that is more than a document may have.
abbrev pub Refuses : {Y : Type 0} → (size : ℕ) → Writing Y → Failure WriteFault → Type 0
Refuses size expected f = Fails size expected f × (f ≡ too_long_failure → max_bytes < size)

-- The part was taken. Or the writer has failed: for the refusal of the definition with the whole value, for memory, or since all that it was given has more bytes than a
-- document may.
abbrev pub Takes : {Y : Type 0} → (taken fails : Type 0) → (size : ℕ) → Writing Y → Result (Unit {0}) Error → Type 0
Takes taken fails size expected (Ok x) = taken
Takes taken fails size expected (Err e) = fails × Refuses size expected (write_failure e)

-- The whole value is behind what the output held when the writer began. Or the output holds that alone again, and the call answers why.
abbrev pub Ends : (begun : Bytes) → (size : ℕ) → Writing Tree → (left : Bytes) → Result (Unit {0}) Error → Type 0
Ends begun size expected left (Ok x) = (with_tree begun expected ≡ Ok left) × (size ≤ max_bytes)
Ends begun size expected left (Err e) = (left ≡ begun) × Refuses size expected (write_failure e)
