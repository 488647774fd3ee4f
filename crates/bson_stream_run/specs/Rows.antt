-- What a run of the program has done. Source: this library's own programs.
use Rattle.std.specs.Prelude.{◌≡◌, ◌⊎◌, []}
use Rattle.std.specs.Io.KnownBytes.{Keeps}
use Rattle.bson_kinds.specs.Text.{Utf8}
use Rattle.bson_shape.specs.Form.{Form}
use Rattle.bson_program.specs.Command.{IsAskedFor, IsRefused}
use Rattle.bson_program.specs.Ends.{SourceChange, SinkChange}
use Rattle.bson_program.specs.Run.{Run, AreKept, AreWritten, AreCut}
use Rattle.bson_streaming.specs.Streamed.{IsStreamed}
use Rattle.bson_streaming.specs.declared.closing.Ending.{Ending}
use Rattle.bson_streaming.specs.declared.closing.Ending.TheVariants as endings
use Rattle.bson_migrate_run.specs.declared.status.MigrateStatus.{MigrateStatus}
use Rattle.bson_migrate_run.specs.declared.status.MigrateStatus.TheVariants as statuses
use Rattle.bson_stream_run.specs.Recasts.{recasts}
use Rattle.bson_salvaging.specs.Salvaged.{IsSalvaged}
use Rattle.bson_stream_run.specs.Words.{salvage_words, stream_command}

-- the status for how a stream ended
abbrev pub status_of : Ending → MigrateStatus
status_of endings.Done = statuses.Done
status_of endings.SomeRefused = statuses.SomeRefused
status_of endings.Broken = statuses.Broken
status_of endings.TooLong = statuses.Broken
status_of endings.SourceFault = statuses.SourceFault
status_of endings.SinkFault = statuses.SinkFault
status_of endings.NoMemory = statuses.NoMemory

-- The words ask for the recast of each document at a shape, and this is what became of the stream.
pub record RecastRow (r : Run MigrateStatus) : Type 0 where
  pub shape : Form
  pub asked : IsAskedFor stream_command r.words shape
  pub ending : Ending
  pub ended : r.status ≡ status_of ending
  pub streamed : IsStreamed recasts shape shape r.input r.out r.err ending

-- The words ask for nothing, as this line tells, and the input was not touched.
pub record UsageRow (r : Run MigrateStatus) : Type 0 where
  pub line : Utf8
  pub refused : IsRefused stream_command r.words line
  pub unread : Keeps r.input.before r.input.after
  pub told : ((r.status ≡ statuses.Usage) × AreWritten [] line r.out r.err) ⊎ ((r.status ≡ statuses.SinkFault) × AreCut [] line r.out r.err)

-- Memory ran out before the words were judged.
pub record UnjudgedRow (r : Run MigrateStatus) : Type 0 where
  pub status : r.status ≡ statuses.NoMemory
  pub unread : Keeps r.input.before r.input.after
  pub nothing : AreKept r.out r.err

-- what a run does whose words do not ask for the documents of a file with damage
abbrev pub IsShapeRun : Run MigrateStatus → Type 0
IsShapeRun r = RecastRow r ⊎ UsageRow r ⊎ UnjudgedRow r

-- The documents of a file with damage were written, and each stretch of bytes that is left out was told.
pub record SalvageRow (input : SourceChange) (out err : SinkChange) (status : MigrateStatus) : Type 0 where
  pub ending : Ending
  pub ended : status ≡ status_of ending
  pub salvaged : IsSalvaged input out err ending

-- what a run does, by its words
pub data IsRun (r : Run MigrateStatus) : Type 0 where
  salvages : r.words ≡ salvage_words → SalvageRow r.input r.out r.err r.status → IsRun r
  streams : (r.words ≡ salvage_words → ⊥) → IsShapeRun r → IsRun r
