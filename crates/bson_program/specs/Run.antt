-- A run of a program: what it was given, what became of its ends, and how it ended. Source: this library's own programs.
use Rattle.std.specs.Prelude.{◌≡◌, ◌<◌, ◌⊎◌, List}
use Rattle.std.specs.Io.KnownBytes.{Keeps, Appends}
use Rattle.bson_kinds.specs.Text.{Bytes, Utf8}
use Rattle.bson_io.specs.Ends.{last_count, RoseOrLast, AppendsPrefix, FitsIn}
use Rattle.bson_program.specs.Ends.{SourceChange, SinkChange}

-- A run: its words; its input, `out` and `err`, before and after; and the status that it ended with.
pub record Run (Status : Type 0) : Type 0 where
  pub words : List Utf8
  pub input : SourceChange
  pub out : SinkChange
  pub err : SinkChange
  pub status : Status

abbrev pub run_of : {Status : Type 0} → List Utf8 → SourceChange → SinkChange → SinkChange → Status → Run Status
run_of words input out err status = record { words = words; input = input; out = out; err = err; status = status }

-- No count rose, and no sink's count is at its last value.
pub record AllQuiet {Status : Type 0} (r : Run Status) : Type 0 where
  pub source : r.input.faults_after ≡ r.input.faults_before
  pub out : r.out.faults_after ≡ r.out.faults_before
  pub out_below : r.out.faults_after < last_count
  pub err : r.err.faults_after ≡ r.err.faults_before
  pub err_below : r.err.faults_after < last_count

-- what must be written with a status: these bytes to the output, and these lines to the output for lines
abbrev pub Expected : Type 0 → Type 1
Expected Status = Status → (out lines : Bytes) → Type 0

-- Nothing was written.
pub record AreKept (out err : SinkChange) : Type 0 where
  pub out_kept : Keeps out.before out.after
  pub err_kept : Keeps err.before err.after

-- All of it was written, and nothing else; no call on a sink failed.
pub record AreWritten (bytes lines : Bytes) (out err : SinkChange) : Type 0 where
  pub out_grew : Appends out.before out.after bytes
  pub err_grew : Appends err.before err.after lines
  pub out_quiet : out.faults_after ≡ out.faults_before
  pub err_quiet : err.faults_after ≡ err.faults_before

-- A sink's count rose or is at its last value; each sink grew by a first part of what had to be written; and at least one of the two had not told of room for all
-- that was to go to it.
pub record AreCut (bytes lines : Bytes) (out err : SinkChange) : Type 0 where
  pub cause : RoseOrLast out.faults_before out.faults_after ⊎ RoseOrLast err.faults_before err.faults_after
  pub out_grew : AppendsPrefix out.before out.after bytes
  pub err_grew : AppendsPrefix err.before err.after lines
  -- the second sink gets nothing before the first has got all
  pub in_order : Appends out.before out.after bytes ⊎ Keeps err.before err.after
  pub no_room : FitsIn out.room bytes → FitsIn err.room lines → ⊥

-- What had to be written with the status was written.
pub record Told {Status : Type 0} (IsExpected : Expected Status) (r : Run Status) : Type 0 where
  pub bytes : Bytes
  pub lines : Bytes
  pub expected : IsExpected r.status bytes lines
  pub written : AreWritten bytes lines r.out r.err

-- What had to be written with some status was cut short.
pub record CutShort {Status : Type 0} (IsExpected : Expected Status) (r : Run Status) : Type 0 where
  pub status : Status
  pub bytes : Bytes
  pub lines : Bytes
  pub expected : IsExpected status bytes lines
  pub cut : AreCut bytes lines r.out r.err
