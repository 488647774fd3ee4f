-- A program of a command line: what must be written for its words and its input, and the table of answers that each run meets.
-- Source: this library's own programs.
use Rattle.std.specs.Prelude.{◌≡◌, ◌≤◌, ◌⊎◌, List, [], Result, Ok, Err, IfSome}
use Rattle.std.specs.Io.KnownBytes.{Keeps}
use Rattle.bson_kinds.specs.Text.{Bytes, Utf8}
use Rattle.bson_program.specs.Command.{Command, IsAskedFor, IsRefused}
use Rattle.bson_program.specs.Ends.{SourceChange}
use Rattle.bson_program.specs.Run.{Run, Expected, AllQuiet, AreKept, Told, CutShort}
use Rattle.bson_program.specs.declared.endings.Endings.{Endings}

-- what a program does
pub record Program (Job Status : Type 0) : Type 1 where
  -- the job that its words ask for
  pub command : Command Job
  -- what must be written for a job on an input
  pub Answers : Job → SourceChange → Expected Status
  -- the status for a job on an input of these bytes
  pub status : Job → Bytes → Status
  -- the status for words that ask for no job
  pub usage : Status
  -- how it ends where the answer is not written
  pub endings : Endings Status

-- The words ask for a job, and this must be written for it.
pub record JobRow {Job Status : Type 0} (p : Program Job Status) (words : List Utf8) (input : SourceChange) (status : Status) (out lines : Bytes) : Type 0 where
  pub job : Job
  pub asked : IsAskedFor p.command words job
  pub answer : p.Answers job input status out lines

-- The words ask for no job, as this line tells; the input was not touched.
pub record UsageRow {Job Status : Type 0} (p : Program Job Status) (words : List Utf8) (input : SourceChange) (status : Status) (out line : Bytes) : Type 0 where
  pub ended : status ≡ p.usage
  pub refused : IsRefused p.command words line
  pub unread : Keeps input.before input.after
  pub nothing : out ≡ []

-- what must be written for these words on this input
abbrev pub IsExpected : {Job Status : Type 0} → Program Job Status → List Utf8 → SourceChange → Expected Status
IsExpected p words input status out lines = JobRow p words input status out lines ⊎ UsageRow p words input status out lines

-- the status for what the words ask for
abbrev pub requested_status : {Job Status : Type 0} → Program Job Status → Result Job Utf8 → Bytes → Status
requested_status p (Ok job) bytes = p.status job bytes
requested_status p (Err line) bytes = p.usage

-- the status that must be returned for these words on an input of these bytes
abbrev pub status_expected : {Job Status : Type 0} → Program Job Status → List Utf8 → Bytes → Status
status_expected p words bytes = requested_status p (p.command.request words) bytes

-- The table of answers.
pub record IsAnswered {Job Status : Type 0} (p : Program Job Status) (r : Run Status) : Type 0 where
  -- each status comes only with exactly what must be written with it on the two sinks; but a sink failed, or memory ran out and nothing was written
  pub ended : Told (IsExpected p r.words r.input) r
      ⊎ ((r.status ≡ p.endings.sink_fault) × CutShort (IsExpected p r.words r.input) r)
      ⊎ ((r.status ≡ p.endings.no_memory) × AreKept r.out r.err)
  -- where the input tells its bytes, no count rose and no sink's count is at its last value, the status is the one that must be returned, or out of memory
  pub complete : AllQuiet r → IfSome r.input.before (λ bytes. (r.status ≡ status_expected p r.words bytes) ⊎ (r.status ≡ p.endings.no_memory))
  -- no count falls
  pub input_later : r.input.faults_before ≤ r.input.faults_after
  pub out_later : r.out.faults_before ≤ r.out.faults_after
  pub err_later : r.err.faults_before ≤ r.err.faults_after
