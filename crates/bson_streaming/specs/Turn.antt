-- One document of a stream. For the contracts of functions inside this crate and their proofs. Source: this library's own programs.
use Rattle.std.specs.Prelude.{◌≡◌, ◌⊎◌, ◌++◌, ℕ, Bool, [], Result, Ok, Err}
use Rattle.std.specs.Io.KnownBytes.{Appends, Keeps}
use Rattle.bson_kinds.specs.Text.{Bytes, Utf8}
use Rattle.bson_io.specs.Ends.{RoseOrLast, AppendsPrefix}
use Rattle.bson_program.specs.Ends.{SinkChange}
use Rattle.bson_streaming.specs.Answers.{Answer, bytes_of, lines_of, is_refused}
use Rattle.bson_streaming.specs.Due.{Moves}
use Rattle.bson_streaming.specs.declared.answering.Stop.{Stop}
use Rattle.bson_streaming.specs.declared.answering.Stop.TheVariants.{SinkFault, NoMemory}

-- These lines were written, and no call on the sink failed.
pub record Tells (err : SinkChange) (lines : Utf8) : Type 0 where
  pub grown : Appends err.before err.after lines
  pub quiet : err.faults_after ≡ err.faults_before

-- A call on a sink failed: a first part of what was due was written, and of these lines, which come behind it.
pub record Breaks (out err : SinkChange) (due : Bytes) (lines : Utf8) : Type 0 where
  pub cause : RoseOrLast out.faults_before out.faults_after ⊎ RoseOrLast err.faults_before err.faults_after
  pub part : AppendsPrefix out.before out.after due
  pub told : AppendsPrefix err.before err.after lines
  pub in_order : Appends out.before out.after due ⊎ Keeps err.before err.after

-- Nothing was written.
pub record Stays (out err : SinkChange) (old new : Bytes) : Type 0 where
  pub due : Moves out old new
  pub told : Tells err []

abbrev pub IsTold : (line : Utf8) → (out err : SinkChange) → (old new : Bytes) → Result (Unit {0}) Stop → Type 0
IsTold line out err old new (Ok u) = Moves out old new × Tells err line
IsTold line out err old new (Err SinkFault) = Breaks out err old line
IsTold line out err old new (Err NoMemory) = Stays out err old new

-- The answer was written, or is due.
pub record IsWritten (gives : Answer → Type 0) (number : ℕ) (out err : SinkChange) (old new : Bytes) (refused : Bool) : Type 0 where
  pub answer : Answer
  pub given : gives answer
  pub is : refused ≡ is_refused answer
  pub due : Moves out (old ++ bytes_of answer) new
  pub told : Tells err (lines_of number answer)

-- A call on a sink failed.
pub record IsBroken (gives : Answer → Type 0) (number : ℕ) (out err : SinkChange) (old : Bytes) : Type 0 where
  pub answer : Answer
  pub given : gives answer
  pub breaks : Breaks out err (old ++ bytes_of answer) (lines_of number answer)

abbrev pub IsTurn : (gives : Answer → Type 0) → (number : ℕ) → (out err : SinkChange) → (old new : Bytes) → Result Bool Stop → Type 0
IsTurn gives number out err old new (Ok refused) = IsWritten gives number out err old new refused
IsTurn gives number out err old new (Err SinkFault) = IsBroken gives number out err old
IsTurn gives number out err old new (Err NoMemory) = Stays out err old new
