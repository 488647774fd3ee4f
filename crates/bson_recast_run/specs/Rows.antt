-- The program: the rows of its table of answers for an input that was read whole, and what it shares with every other. Source: this library's own programs.
use Rattle.std.specs.Prelude.{◌≡◌, ◌⊎◌, ℕ, [], Bool, Option, Some, None}
use Rattle.std.specs.Io.KnownBytes.{Appends, Keeps}
use Rattle.bson_kinds.specs.Text.{Bytes, AreBytes}
use Rattle.bson_values.specs.Refusal.{ReadFault, WriteFault, Failure}
use Rattle.bson_program.specs.Ends.{SourceChange}
use Rattle.bson_program.specs.Input.{InputEnds, OnInput, input_status}
use Rattle.bson_program.specs.Program.{Program}
use Rattle.bson_program.specs.Run.{Run, Expected, AreKept}
use Rattle.bson_recast_run.specs.declared.options.Job.{Job}
use Rattle.bson_recast_run.specs.declared.options.Request.{Request}
use Rattle.bson_recast_run.specs.declared.options.Request.TheVariants as requests
use Rattle.bson_recast_run.specs.declared.status.Status.{Status}
use Rattle.bson_recast_run.specs.declared.status.Status.TheVariants as statuses
use Rattle.bson_recast_run.specs.Digits.{document_in, shown}
use Rattle.bson_recast_run.specs.PrintedLines.{too_long_line, not_digits_line}
use Rattle.bson_recasting.specs.RefusedLines.{read_refused_line, write_refused_line}
use Rattle.bson_recast_run.specs.Making.{IsMadeLine}
use Rattle.bson_recast_run.specs.Options.{recast_command, recast_with}
use Rattle.bson_tree_recast.specs.Recast.{Recast, writes, unread, unwritten, Unwritten}

-- The recast writes a document, which is shown in its bytes or in digits, and nothing is told.
pub record DoneRow (hex : Bool) (recast : Recast) (out line : Bytes) : Type 0 where
  pub document : Bytes
  pub answer : recast ≡ writes document
  pub are_bytes : AreBytes document
  pub shows : out ≡ shown hex document
  pub no_line : line ≡ []

-- The document is not read at the shape, as this line tells.
pub record ReadRefusedRow (recast : Recast) (out line : Bytes) : Type 0 where
  pub failure : Failure ReadFault
  pub answer : recast ≡ unread failure
  pub says : line ≡ read_refused_line failure
  pub nothing : out ≡ []

-- The document was read, and its value is not written, as this line tells.
pub record WriteRefusedRow (recast : Recast) (out line : Bytes) : Type 0 where
  pub failure : Failure WriteFault
  pub answer : Unwritten recast failure
  pub says : line ≡ write_refused_line failure
  pub nothing : out ≡ []

-- The input is to be digits and is not, as this line tells.
pub record NotDigitsRow (out line : Bytes) : Type 0 where
  pub says : line ≡ not_digits_line
  pub nothing : out ≡ []

-- what must be written for what the recast of a whole document comes to
abbrev pub AnswersRecast : (hex : Bool) → Recast → Expected Status
AnswersRecast hex recast statuses.Done out line = DoneRow hex recast out line
AnswersRecast hex recast statuses.ReadRefused out line = ReadRefusedRow recast out line
AnswersRecast hex recast statuses.WriteRefused out line = WriteRefusedRow recast out line
AnswersRecast hex recast status out line = ⊥

-- what must be written where an input is to be digits and is not
abbrev pub AnswersNotDigits : Expected Status
AnswersNotDigits statuses.ReadRefused out line = NotDigitsRow out line
AnswersNotDigits status out line = ⊥

-- what must be written for a job on the document that an input holds
abbrev pub AnswersDocument : Job → Option Bytes → Expected Status
AnswersDocument job (Some document) = AnswersRecast job.options.hex (recast_with job.options.way job.shape document)
AnswersDocument job None = AnswersNotDigits

-- what must be written for a job on a whole input
abbrev pub AnswersJob : Job → Bytes → Expected Status
AnswersJob job bytes = AnswersDocument job (document_in job.options.hex bytes)

-- the status for what a recast comes to
abbrev pub recast_status : Recast → Status
recast_status (writes bytes) = statuses.Done
recast_status (unread f) = statuses.ReadRefused
recast_status (unwritten expected too_long) = statuses.WriteRefused

-- the status for a job on the document that an input holds
abbrev pub document_status : Job → Option Bytes → Status
document_status job (Some document) = recast_status (recast_with job.options.way job.shape document)
document_status job None = statuses.ReadRefused

-- The document of so many rows is recast, as the output tells.
pub record MadeRow (rows : ℕ) (out line : Bytes) : Type 0 where
  pub tells : IsMadeLine rows out
  pub no_line : line ≡ []

-- what must be written for so many rows
abbrev pub AnswersRows : (rows : ℕ) → Expected Status
AnswersRows rows statuses.Done out line = MadeRow rows out line
AnswersRows rows status out line = ⊥

-- an input that failed, and one that is too long
abbrev pub recast_input : InputEnds Status
recast_input = record { source_fault = statuses.SourceFault; too_long = statuses.ReadRefused; too_long_line = too_long_line }

-- what must be written for what is asked for; for rows the input is not touched
abbrev pub AnswersRequest : Request → SourceChange → Expected Status
AnswersRequest (requests.Recast job) input status out line = OnInput recast_input (AnswersJob job) input status out line
AnswersRequest (requests.Make rows) input status out line = Keeps input.before input.after × AnswersRows rows status out line

-- the status for what is asked for, on an input of these bytes
abbrev pub request_status : Request → Bytes → Status
request_status (requests.Recast job) bytes = input_status recast_input (λ whole. document_status job (document_in job.options.hex whole)) bytes
request_status (requests.Make rows) bytes = statuses.Done

-- The program takes options and one shape, and reads an input to its end; or it takes a number of rows. The input may have as many bytes as a document may, digits or not.
abbrev pub recast_program : Program Request Status
recast_program = record {
  command = recast_command;
  Answers = AnswersRequest;
  status = request_status;
  usage = statuses.Usage;
  endings = record { sink_fault = statuses.SinkFault; no_memory = statuses.NoMemory };
}

-- Exactly these bytes were written and nothing else; or out of memory is reported, and nothing was written.
abbrev pub WritesExactly : Run Status → Bytes → Type 0
WritesExactly r bytes =
    ((r.status ≡ statuses.Done) × Appends r.out.before r.out.after bytes × Keeps r.err.before r.err.after)
    ⊎ ((r.status ≡ statuses.NoMemory) × AreKept r.out r.err)
