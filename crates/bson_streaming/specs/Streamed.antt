-- What a stream of documents has done when it ends. Source: this library's own programs.
use Rattle.std.specs.Prelude.{◌≡◌, ◌≤◌, ◌+◌, ◌^◌, ◌⊎◌, ℕ, true, false, List, [], ◌++◌, length, Option, None}
use Rattle.std.specs.Io.KnownBytes.{Consumes, Appends, IsAtEnd}
use Rattle.bson_kinds.specs.Text.{Bytes, Utf8}
use Rattle.bson_io.specs.Ends.{Rose, RoseOrLast, AppendsPrefix}
use Rattle.bson_rawdoc.specs.Cut.{cut}
use Rattle.bson_program.specs.Ends.{SourceChange, SinkChange}
use Rattle.bson_program.specs.FileLines.{too_long_line, broken_line}
use Rattle.bson_program.specs.Input.{source_fault_line}
use Rattle.bson_program.specs.Run.{AreWritten}
use Rattle.bson_streaming.specs.Answers.{Answer, outputs, lines, has_refused, AreGiven}
use Rattle.bson_streaming.specs.Next.{IsBreak}
use Rattle.bson_streaming.specs.declared.closing.Ending.{Ending}
use Rattle.bson_streaming.specs.declared.closing.Ending.TheVariants as endings

-- the last line, if there is one, where the documents that were answered have so many bytes
abbrev pub last_line : Ending → (place : ℕ) → Utf8
last_line endings.Broken place = broken_line place
last_line endings.TooLong place = too_long_line
last_line endings.SourceFault place = source_fault_line
last_line e place = []

-- No more documents are taken for this: of the source these bytes came, of which the first are those of the documents that were answered so.
abbrev pub Stops : Ending → SourceChange → (came rest : Bytes) → List Answer → Type 0
Stops endings.Done input came rest answers = (rest ≡ []) × IsAtEnd input.after × (has_refused answers ≡ false)
Stops endings.SomeRefused input came rest answers = (rest ≡ []) × IsAtEnd input.after × (has_refused answers ≡ true)
Stops endings.Broken input came rest answers = IsBreak rest input.after
Stops endings.TooLong input came rest answers = 2 ^ 64 ≤ length came + length rest
Stops e input came rest answers = Unit {0}

-- How often calls on the source failed: nothing is said where memory ran out or a sink failed.
abbrev pub Faults : Ending → SourceChange → Type 0
Faults endings.SourceFault input = Rose input.faults_before input.faults_after
Faults endings.SinkFault input = Unit {0}
Faults endings.NoMemory input = Unit {0}
Faults e input = input.faults_after ≡ input.faults_before

-- The state after the documents that were answered is the last one: nothing is said where memory ran out.
abbrev pub IsLast : {S : Type 0} → Ending → (so_far last : S) → Type 0
IsLast endings.NoMemory so_far last = Unit {0}
IsLast e so_far last = last ≡ so_far

-- Documents, one behind another, were answered so, from the first state to the last.
pub record Documents {S : Type 0} (gives : S → Bytes → Answer → S → Type 0) (first last : S) (came : Bytes) (answers : List Answer) : Type 0 where
  pub whole : (cut came).broken ≡ None
  pub given : AreGiven gives first (cut came).pieces answers last

-- Documents came of the source, and then bytes that are not answered. The answers were written, and then the last line.
pub record Answered {S : Type 0} (gives : S → Bytes → Answer → S → Type 0) (first last : S) (input : SourceChange) (out err : SinkChange) (ending : Ending) : Type 0 where
  pub came : Bytes
  pub rest : Bytes
  pub answers : List Answer
  pub so_far : S
  pub state : IsLast ending so_far last
  pub documents : Documents gives first so_far came answers
  pub taken : Consumes input.before input.after (came ++ rest)
  pub stops : Stops ending input came rest answers
  pub faults : Faults ending input
  pub written : AreWritten (outputs answers) (lines 0 answers ++ last_line ending (length came)) out err

-- The lines of all documents but the last were written, or of all.
pub record AreToldBefore (old new : Option Bytes) (answers : List Answer) : Type 0 where
  pub before : List Answer
  pub last : List Answer
  pub parts : answers ≡ before ++ last
  pub one : length last ≤ 1
  pub told : Appends old new (lines 0 before)

-- The same, where a call on a sink failed: each has got a first part.
pub record CutOff {S : Type 0} (gives : S → Bytes → Answer → S → Type 0) (first : S) (input : SourceChange) (out err : SinkChange) : Type 0 where
  pub came : Bytes
  pub rest : Bytes
  pub answers : List Answer
  pub line : Utf8
  pub so_far : S
  pub documents : Documents gives first so_far came answers
  pub taken : Consumes input.before input.after (came ++ rest)
  pub cause : RoseOrLast out.faults_before out.faults_after ⊎ RoseOrLast err.faults_before err.faults_after
  pub out_grew : AppendsPrefix out.before out.after (outputs answers)
  pub err_grew : AppendsPrefix err.before err.after (lines 0 answers ++ line)
  -- where it is the output that has not got all, only the line of the last document is not told
  pub in_order : Appends out.before out.after (outputs answers) ⊎ AreToldBefore err.before err.after answers

-- what a stream has done, by how it ended
abbrev pub IsStreamed : {S : Type 0} → (gives : S → Bytes → Answer → S → Type 0) → (first last : S) → (input : SourceChange) → (out err : SinkChange) → Ending → Type 0
IsStreamed gives first last input out err endings.SinkFault = CutOff gives first input out err
IsStreamed gives first last input out err e = Answered gives first last input out err e
