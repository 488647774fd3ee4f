-- What must be written for an input, of a program that reads one to its end. Source: this library's own programs.
use Rattle.std.specs.Prelude.{◌≡◌, ◌+◌, ◌⊎◌, nat_lt, if◌then◌else◌, [], length, codes}
use Rattle.bson_base.specs.Sound.{max_bytes}
use Rattle.bson_kinds.specs.Text.{Bytes, Utf8}
use Rattle.bson_io.specs.Ends.{Rose, TakesAtMost, TakesExactly}
use Rattle.bson_program.specs.Ends.{SourceChange, ReadAs}
use Rattle.bson_program.specs.Run.{Expected}
use Rattle.bson_program.specs.declared.endings.InputEndings.{InputEndings}

-- how the program ends where its input failed, and where it is too long, with the line for that
pub record InputEnds (Status : Type 0) : Type 0 where
  pub source_fault : Status
  pub too_long : Status
  pub too_long_line : Utf8

abbrev pub input_ends : {Status : Type 0} → InputEndings Status → InputEnds Status
input_ends e = record { source_fault = e.source_fault; too_long = e.too_long; too_long_line = e.too_long_line.now }

abbrev pub source_fault_line : Utf8
source_fault_line = codes "source fault\n"

-- These bytes were the whole input, and this must be written for them.
pub record WholeRow {Status : Type 0} (Answers : Bytes → Expected Status) (input : SourceChange) (status : Status) (out lines : Bytes) : Type 0 where
  pub bytes : Bytes
  pub read : ReadAs input bytes
  pub answer : Answers bytes status out lines

-- One byte more was taken than an input may have.
pub record TooLongRow {Status : Type 0} (ends : InputEnds Status) (input : SourceChange) (status : Status) (out line : Bytes) : Type 0 where
  pub ended : status ≡ ends.too_long
  pub taken : TakesExactly (max_bytes + 1) input.before input.after
  pub says : line ≡ ends.too_long_line
  pub nothing : out ≡ []

-- The count of the input's faults rose, and no more bytes were taken than an input may have.
pub record SourceFaultRow {Status : Type 0} (ends : InputEnds Status) (input : SourceChange) (status : Status) (out line : Bytes) : Type 0 where
  pub ended : status ≡ ends.source_fault
  pub rose : Rose input.faults_before input.faults_after
  pub within : TakesAtMost max_bytes input.before input.after
  pub says : line ≡ source_fault_line
  pub nothing : out ≡ []

-- The input was not read to its end, as this line tells.
abbrev pub IsUnread : {Status : Type 0} → InputEnds Status → SourceChange → Expected Status
IsUnread ends input status out line = TooLongRow ends input status out line ⊎ SourceFaultRow ends input status out line

-- what must be written for an input, by what must be written for the bytes of a whole one
abbrev pub OnInput : {Status : Type 0} → InputEnds Status → (Answers : Bytes → Expected Status) → SourceChange → Expected Status
OnInput ends Answers input status out lines = WholeRow Answers input status out lines ⊎ IsUnread ends input status out lines

-- the status for an input of these bytes, by that for the bytes of a whole one
abbrev pub input_status : {Status : Type 0} → InputEnds Status → (of_whole : Bytes → Status) → Bytes → Status
input_status ends of_whole bytes = if nat_lt max_bytes (length bytes) then ends.too_long else of_whole bytes
