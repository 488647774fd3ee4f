-- The program: the rows of its table of answers for a file that was read whole, and what it shares with every other. Source: this library's own programs.
use Rattle.std.specs.Prelude.{◌≡◌, ℕ, List, [], ◌∷◌, ◌++◌}
use Rattle.std.specs.Io.KnownBytes.{Appends}
use Rattle.bson_program.specs.FileLines.{too_long_line, broken_line}
use Rattle.bson_kinds.specs.Text.{Bytes, Utf8}
use Rattle.bson_program.specs.Input.{InputEnds, OnInput, input_status}
use Rattle.bson_program.specs.Program.{Program}
use Rattle.bson_program.specs.Run.{Run, Expected}
use Rattle.bson_program.specs.ShapeWord.{newline}
use Rattle.bson_shape.specs.Form.{Form}
use Rattle.bson_shape.specs.Notation.{text}
use Rattle.bson_infer_run.specs.Files.{Fault, Inferring, broken, faulty, unsound, found, inferring_of}
use Rattle.bson_infer_run.specs.Lines.{usage_line, faulty_line, unsound_line}
use Rattle.bson_infer_run.specs.NoWords.{no_words}
use Rattle.bson_infer_run.specs.declared.status.InferStatus.{InferStatus}
use Rattle.bson_infer_run.specs.declared.status.InferStatus.TheVariants as statuses

-- the status for what an inference comes to
abbrev pub inferring_status : Inferring → InferStatus
inferring_status (broken place) = statuses.Broken
inferring_status (faulty f) = statuses.DocumentRefused
inferring_status (unsound n) = statuses.DocumentRefused
inferring_status (found s) = statuses.Done

-- the notation of the form, and a line feed
abbrev pub output_of : Inferring → Bytes
output_of (found s) = text s ++ newline
output_of r = []

-- the line on `err`, if there is one
abbrev pub lines_of : Inferring → Utf8
lines_of (broken place) = broken_line place
lines_of (faulty f) = faulty_line f.number f.error
lines_of (unsound n) = unsound_line n
lines_of (found s) = []

-- What must be written for what the inference from a file comes to.
pub record Answers (r : Inferring) (status : InferStatus) (out lines : Bytes) : Type 0 where
  pub ended : status ≡ inferring_status r
  pub writes : out ≡ output_of r
  pub says : lines ≡ lines_of r

-- an input that failed, and one that is too long
abbrev pub infer_input : InputEnds InferStatus
infer_input = record { source_fault = statuses.SourceFault; too_long = statuses.Broken; too_long_line = too_long_line }

-- The program takes no word and reads an input to its end.
abbrev pub infer_program : Program (Unit {0}) InferStatus
infer_program = record {
  command = no_words usage_line;
  Answers = λ job. OnInput infer_input (λ file. Answers (inferring_of file));
  status = λ job. input_status infer_input (λ file. inferring_status (inferring_of file));
  usage = statuses.Usage;
  endings = record { sink_fault = statuses.SinkFault; no_memory = statuses.NoMemory };
}

-- A shape was written: its notation and a line feed, and no line.
pub record WritesShape (r : Run InferStatus) (s : Form) : Type 0 where
  pub status : r.status ≡ statuses.Done
  pub out_grew : Appends r.out.before r.out.after (text s ++ newline)
  pub err_grew : Appends r.err.before r.err.after []
