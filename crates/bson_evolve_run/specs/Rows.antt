-- The program: the rows of its table of answers, and what it shares with every other. Source: this library's own programs.
use Rattle.std.specs.Prelude.{◌≡◌, ◌⊎◌, [], Option, Some, None}
use Rattle.std.specs.Io.KnownBytes.{Appends}
use Rattle.bson_kinds.specs.Text.{Bytes, Utf8}
use Rattle.bson_shape.specs.Form.{Form}
use Rattle.bson_values.specs.Refusal.{Path}
use Rattle.bson_laws.specs.Plain.{IsPlain}
use Rattle.bson_program.specs.Ends.{SourceChange}
use Rattle.bson_program.specs.Program.{Program}
use Rattle.bson_program.specs.Run.{Expected, Run}
use Rattle.bson_evolve_laws.specs.Compatible.{IsCompatible}
use Rattle.bson_evolve_laws.specs.First.{first_fault, IsFirstFault}
use Rattle.bson_evolve_run.specs.Lines.{new_word, not_plain_line, old_word, verdict_line}
use Rattle.bson_evolve_run.specs.TwoShapes.{shapes_of, two_shapes, AreGood, Shapes}
use Rattle.bson_evolve_run.specs.declared.status.CheckStatus.{CheckStatus}
use Rattle.bson_evolve_run.specs.declared.status.CheckStatus.TheVariants as statuses

-- an input of no bytes, which the program does not touch
abbrev pub no_input : SourceChange
no_input = record { before = Some []; after = Some []; faults_before = 0; faults_after = 0 }

-- the status for a verdict
abbrev pub verdict_status : Option Path → CheckStatus
verdict_status None = statuses.Yes
verdict_status (Some path) = statuses.No

-- The shapes are compatible.
pub record IsYes (shapes : Shapes) (status : CheckStatus) (out lines : Bytes) : Type 0 where
  pub compatible : IsCompatible shapes.old shapes.new
  pub ended : status ≡ statuses.Yes
  pub writes : out ≡ verdict_line None
  pub nothing : lines ≡ []

-- They are not: the first pair of parts that does not pass is at this path.
pub record IsNo (shapes : Shapes) (status : CheckStatus) (out lines : Bytes) : Type 0 where
  pub path : Path
  pub first : IsFirstFault shapes.old shapes.new path
  pub ended : status ≡ statuses.No
  pub writes : out ≡ verdict_line (Some path)
  pub nothing : lines ≡ []

-- what must be written for two plain shapes
abbrev pub Answers : Shapes → CheckStatus → (out lines : Bytes) → Type 0
Answers shapes status out lines = AreGood shapes × (IsYes shapes status out lines ⊎ IsNo shapes status out lines)

-- a line alone, which tells why the words are not two plain shapes
abbrev pub IsRefusal : Utf8 → Expected CheckStatus
IsRefusal says status out line = (status ≡ statuses.Usage) × (out ≡ []) × (line ≡ says)

-- what must be written for two shapes: the verdict where both are plain, and else a line that tells which is not
abbrev pub IsExpectedFor : (old new : Form) → Expected CheckStatus
IsExpectedFor old new status out lines =
    Answers (shapes_of old new) status out lines
    ⊎ ((IsPlain old → ⊥) × IsRefusal (not_plain_line old_word) status out lines)
    ⊎ (IsPlain old × (IsPlain new → ⊥) × IsRefusal (not_plain_line new_word) status out lines)

-- The program takes two plain shapes and reads no input.
abbrev pub check_program : Program Shapes CheckStatus
check_program = record {
  command = two_shapes;
  Answers = λ shapes input. Answers shapes;
  status = λ shapes bytes. verdict_status (first_fault shapes.old shapes.new);
  usage = statuses.Usage;
  endings = record { sink_fault = statuses.SinkFault; no_memory = statuses.NoMemory };
}

-- The line `yes` was written, and the shapes are compatible.
pub record WritesYes (r : Run CheckStatus) (old new : Form) : Type 0 where
  pub compatible : IsCompatible old new
  pub status : r.status ≡ statuses.Yes
  pub out_grew : Appends r.out.before r.out.after (verdict_line None)
  pub err_grew : Appends r.err.before r.err.after []

-- The line `no at PATH` was written, with the path to the first pair of parts that does not pass.
pub record WritesNo (r : Run CheckStatus) (old new : Form) : Type 0 where
  pub path : Path
  pub first : IsFirstFault old new path
  pub status : r.status ≡ statuses.No
  pub out_grew : Appends r.out.before r.out.after (verdict_line (Some path))
  pub err_grew : Appends r.err.before r.err.after []

abbrev pub WritesVerdict : Run CheckStatus → (old new : Form) → Type 0
WritesVerdict r old new = WritesYes r old new ⊎ WritesNo r old new
