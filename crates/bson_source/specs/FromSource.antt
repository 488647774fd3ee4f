-- What is read of a source: the first document of what it has left, and nothing behind it. Source: MongoDB's crate bson, version 2, `from_reader`.
use Rattle.std.specs.Prelude.{◌≡◌, ℕ, ◌≤◌, ◌⊎◌, length, Option, Result, Ok, Err}
use Rattle.std.specs.Io.KnownBytes.{Consumes, IsAtEnd}
use Rattle.bson_kinds.specs.Outcome.{◌>>=◌}
use Rattle.bson_kinds.specs.Text.{Bytes}
use Rattle.bson_values.specs.ErrorView.{read_failure}
use Rattle.bson_values.specs.Refusal.{ReadFault, Failure, no_memory, bare, placed, io}
use Rattle.bson_values.specs.declared.de.Error.{Error}
use Rattle.bson_io.specs.Ends.{Rose}
use Rattle.bson_source.specs.FirstDocument.{bytes_needed, first_document}

-- All that was to be taken came, or the source has no more.
abbrev pub IsAll : (left : Option Bytes) → (came : Bytes) → Type 0
IsAll left came = (length came ≡ bytes_needed came) ⊎ IsAtEnd left

-- bytes are not taken: a call on the source failed, or memory ran out
abbrev pub IsTakeError : (failed : Type 0) → Failure ReadFault → Type 0
IsTakeError failed no_memory = Unit {0}
IsTakeError failed (bare io) = failed
IsTakeError failed f = ⊥

-- A failure, where all came that was to be taken and it is what is answered; or, as `Io`, where a call on the source failed; or memory ran out.
abbrev pub Stops : {Y : Type 0} → (all failed : Type 0) → Failure ReadFault → Result Y (Failure ReadFault) → Type 0
Stops all failed no_memory answer = Unit {0}
Stops all failed (bare io) answer = failed ⊎ (all × (answer ≡ Err (bare io)))
Stops all failed (bare f) answer = all × (answer ≡ Err (bare f))
Stops all failed (placed path f) answer = all × (answer ≡ Err (placed path f))

-- the value that is answered, where all came that was to be taken; or a failure
abbrev pub Ends : {X Y : Type 0} → (X → Y) → (all failed : Type 0) → Result X Error → Result Y (Failure ReadFault) → Type 0
Ends see all failed (Ok x) answer = all × (answer ≡ Ok (see x))
Ends see all failed (Err e) answer = Stops all failed (read_failure e) answer

-- Bytes were taken off the front of what the source had left, no more than are to be taken for the first document. The result is what they are answered with, where all
-- of them came.
pub record ReadsOne {X Y : Type 0} (see : X → Y) (answer : Bytes → Result Y (Failure ReadFault)) (old new : Option Bytes) (before now : ℕ) (result : Result X Error) : Type 0 where
  pub came : Bytes
  pub taken : Consumes old new came
  pub within : length came ≤ bytes_needed came
  pub exact : Ends see (IsAll new came) (Rose before now) result (answer came)

-- what the first document is read as
abbrev pub read_first : {Y : Type 0} → (Bytes → Result Y (Failure ReadFault)) → Bytes → Result Y (Failure ReadFault)
read_first read came = first_document came >>= read
