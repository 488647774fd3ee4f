-- A salvage before its last line. For the contracts of functions inside this crate and their proofs. Source: this library's own programs.
use Rattle.std.specs.Prelude.{◌≡◌, ◌⊎◌, ℕ, Bool, true, false, if◌then◌else◌, [], ◌++◌, take, List, Result, Ok, Err}
use Rattle.std.specs.Io.KnownBytes.{Consumes, Appends}
use Rattle.bson_kinds.specs.Text.{Bytes, Utf8}
use Rattle.bson_io.specs.Ends.{RoseOrLast, AppendsPrefix}
use Rattle.bson_io.specs.declared.ends.Failed.{Failed}
use Rattle.bson_program.specs.Ends.{SourceChange, SinkChange}
use Rattle.bson_streaming.specs.Streamed.{last_line, Faults}
use Rattle.bson_streaming.specs.declared.closing.Ending.{Ending}
use Rattle.bson_streaming.specs.declared.closing.Ending.TheVariants as endings
use Rattle.bson_salvaging.specs.Salvage.{Stretch}
use Rattle.bson_salvaging.specs.Salvaged.{joined, saved, lines, line_for, AreWalked, Stops, CutOff}
use Rattle.bson_salvaging.specs.Searches.{Passes}
use Rattle.bson_salvaging.specs.Window.{Held}
use Rattle.bson_salvaging.specs.declared.salvaging.Halt.{Halt}
use Rattle.bson_salvaging.specs.declared.salvaging.Halt.TheVariants as halts
use Rattle.bson_salvaging.specs.declared.salvaging.Unwritten.{Unwritten}
use Rattle.bson_salvaging.specs.declared.salvaging.Unwritten.TheVariants as unwritten

abbrev pub ending_of : Halt → Ending
ending_of (halts.End false) = endings.Done
ending_of (halts.End true) = endings.SomeRefused
ending_of halts.TooLong = endings.TooLong
ending_of halts.SourceFault = endings.SourceFault
ending_of halts.NoMemory = endings.NoMemory

-- These bytes were written to a sink, and no call on it failed.
pub record Tells (sink : SinkChange) (bytes : Bytes) : Type 0 where
  pub grown : Appends sink.before sink.after bytes
  pub quiet : sink.faults_after ≡ sink.faults_before

-- A first part of these bytes was, and a call failed.
pub record Fails (sink : SinkChange) (bytes : Bytes) : Type 0 where
  pub part : AppendsPrefix sink.before sink.after bytes
  pub cause : RoseOrLast sink.faults_before sink.faults_after

-- what is written to the output of the next bytes that are held, and to the output for lines
abbrev pub kept_bytes : Bool → (count : ℕ) → Held → Bytes
kept_bytes keeps count held = if keeps then take count held.bytes else []

abbrev pub told_line : Bool → (from to : ℕ) → Utf8
told_line keeps from to = if keeps then [] else line_for from to

abbrev pub Moves : Bool → (count : ℕ) → (old new : Held) → Type 0
Moves true count old new = Passes count old new
Moves false count old new = new ≡ old

-- The stretch was written or told, and is passed; or a call on a sink failed, or memory ran out.
pub record IsWritten (keeps : Bool) (count from to : ℕ) (old new : Held) (out err : SinkChange) : Type 0 where
  pub written : Tells out (kept_bytes keeps count old)
  pub told : Tells err (told_line keeps from to)
  pub moves : Moves keeps count old new

abbrev pub IsUnwritten : Bool → (count from to : ℕ) → Held → (out err : SinkChange) → Unwritten → Type 0
IsUnwritten keeps count from to old out err unwritten.SinkFault =
    (Fails out (kept_bytes keeps count old) × Tells err [] × (keeps ≡ true)) ⊎ (Tells out [] × Fails err (told_line keeps from to) × (keeps ≡ false))
IsUnwritten keeps count from to old out err unwritten.NoMemory = Tells out [] × Tells err []

abbrev pub WritesStretch : Bool → (count from to : ℕ) → (old new : Held) → (out err : SinkChange) → Result (Unit {0}) Unwritten → Type 0
WritesStretch keeps count from to old new out err (Ok u) = IsWritten keeps count from to old new out err
WritesStretch keeps count from to old new out err (Err e) = IsUnwritten keeps count from to old out err e

-- Stretches came of the source, and then bytes that are not told. The stretches were written and told.
pub record Halted (input : SourceChange) (out err : SinkChange) (halt : Halt) : Type 0 where
  pub stretches : List Stretch
  pub rest : Bytes
  pub taken : Consumes input.before input.after (joined stretches ++ rest)
  pub walked : AreWalked stretches
  pub stops : Stops (ending_of halt) input stretches rest
  pub faults : Faults (ending_of halt) input
  pub written : Tells out (saved stretches)
  pub told : Tells err (lines 0 stretches)

abbrev pub IsHalted : (input : SourceChange) → (out err : SinkChange) → Result Halt Failed → Type 0
IsHalted input out err (Ok halt) = Halted input out err halt
IsHalted input out err (Err e) = CutOff input out err

-- The last line was written; or a call on the sink failed.
abbrev pub IsClosed : Halt → (err : SinkChange) → Ending → Type 0
IsClosed halt err endings.SinkFault = Fails err (last_line (ending_of halt) 0)
IsClosed halt err e = (e ≡ ending_of halt) × Tells err (last_line (ending_of halt) 0)
