-- A stream before its last line. For the contracts of functions inside this crate and their proofs. Source: this library's own programs.
use Rattle.std.specs.Prelude.{◌≡◌, ◌++◌, List, length, Result, Ok, Err}
use Rattle.std.specs.Io.KnownBytes.{Consumes}
use Rattle.bson_kinds.specs.Text.{Bytes}
use Rattle.bson_io.specs.declared.ends.Failed.{Failed}
use Rattle.bson_program.specs.Ends.{SourceChange, SinkChange}
use Rattle.bson_streaming.specs.Answers.{Answer, outputs, lines}
use Rattle.bson_streaming.specs.Closing.{ending_of, place_of}
use Rattle.bson_streaming.specs.Due.{IsDue}
use Rattle.bson_streaming.specs.Streamed.{IsLast, Documents, Stops, Faults, CutOff}
use Rattle.bson_streaming.specs.Turn.{Tells}
use Rattle.bson_streaming.specs.declared.closing.Halt.{Halt}

-- Documents came of the source, and then bytes that are not answered. The answers were written, or are due.
pub record Halted {S : Type 0} (gives : S → Bytes → Answer → S → Type 0) (first last : S) (input : SourceChange) (out err : SinkChange) (due : Bytes) (halt : Halt) : Type 0 where
  pub came : Bytes
  pub rest : Bytes
  pub answers : List Answer
  pub so_far : S
  pub state : IsLast (ending_of halt) so_far last
  pub documents : Documents gives first so_far came answers
  pub taken : Consumes input.before input.after (came ++ rest)
  pub stops : Stops (ending_of halt) input came rest answers
  pub faults : Faults (ending_of halt) input
  pub placed : place_of halt (length came) ≡ length came
  pub parts : IsDue out.before out.after due (outputs answers)
  pub quiet : out.faults_after ≡ out.faults_before
  pub told : Tells err (lines 0 answers)

abbrev pub IsHalted : {S : Type 0} → (gives : S → Bytes → Answer → S → Type 0) → (first last : S) → (input : SourceChange) → (out err : SinkChange) → (due : Bytes) → Result Halt Failed → Type 0
IsHalted gives first last input out err due (Ok halt) = Halted gives first last input out err due halt
IsHalted gives first last input out err due (Err e) = CutOff gives first input out err
