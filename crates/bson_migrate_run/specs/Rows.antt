-- The program: the rows of its table of answers for a file that was read whole, and what it shares with every other. Source: this library's own programs.
use Rattle.std.specs.Prelude.{◌≡◌, ℕ, List, [], ◌∷◌}
use Rattle.std.specs.Io.KnownBytes.{Appends}
use Rattle.bson_program.specs.FileLines.{too_long_line, broken_line}
use Rattle.bson_kinds.specs.Text.{Bytes, Utf8}
use Rattle.bson_shape.specs.Form.{Form}
use Rattle.bson_program.specs.Input.{InputEnds, OnInput, input_status}
use Rattle.bson_program.specs.OneShape.{one_shape}
use Rattle.bson_program.specs.Program.{Program}
use Rattle.bson_program.specs.Run.{Run, Expected}
use Rattle.bson_migrate_run.specs.declared.migrating.Refused.{Refused}
use Rattle.bson_migrate_run.specs.declared.status.MigrateStatus.{MigrateStatus}
use Rattle.bson_migrate_run.specs.declared.status.MigrateStatus.TheVariants as statuses
use Rattle.bson_migrate_run.specs.Lines.{migrate_usage, AreLines}
use Rattle.bson_migrate_run.specs.Migrating.{NotRecast, Migrating, broken, migrated, migration_of}

-- Every document is recast, and nothing is told.
pub record DoneRow (migration : Migrating) (out lines : Bytes) : Type 0 where
  pub answer : migration ≡ migrated out []
  pub no_line : lines ≡ []

-- Some documents are not recast, as a line for each tells; the others are written.
pub record SomeRefusedRow (migration : Migrating) (out lines : Bytes) : Type 0 where
  pub first : NotRecast
  pub others : List NotRecast
  pub answer : migration ≡ migrated out (first ∷ others)
  pub say : AreLines (first ∷ others) lines

-- The file is broken, as this line tells.
pub record BrokenRow (migration : Migrating) (out line : Bytes) : Type 0 where
  pub place : ℕ
  pub answer : migration ≡ broken place
  pub says : line ≡ broken_line place
  pub nothing : out ≡ []

-- what must be written for what the migration of a file comes to
abbrev pub AnswersMigration : Migrating → Expected MigrateStatus
AnswersMigration migration statuses.Done out lines = DoneRow migration out lines
AnswersMigration migration statuses.SomeRefused out lines = SomeRefusedRow migration out lines
AnswersMigration migration statuses.Broken out lines = BrokenRow migration out lines
AnswersMigration migration status out lines = ⊥

-- the status for what it comes to
abbrev pub migration_status : Migrating → MigrateStatus
migration_status (broken place) = statuses.Broken
migration_status (migrated output []) = statuses.Done
migration_status (migrated output (d ∷ ds)) = statuses.SomeRefused

-- the status where these documents are refused
abbrev pub listed_status : List Refused → MigrateStatus
listed_status [] = statuses.Done
listed_status (x ∷ xs) = statuses.SomeRefused

-- an input that failed, and one that is too long
abbrev pub migrate_input : InputEnds MigrateStatus
migrate_input = record { source_fault = statuses.SourceFault; too_long = statuses.Broken; too_long_line = too_long_line }

-- The program takes one shape and reads an input to its end.
abbrev pub migrate_program : Program Form MigrateStatus
migrate_program = record {
  command = one_shape migrate_usage;
  Answers = λ s. OnInput migrate_input (λ file. AnswersMigration (migration_of s file));
  status = λ s. input_status migrate_input (λ file. migration_status (migration_of s file));
  usage = statuses.Usage;
  endings = record { sink_fault = statuses.SinkFault; no_memory = statuses.NoMemory };
}

-- What a migration of a whole file comes to was written: the output, and a line for each document that is not recast.
pub record WritesMigrated (r : Run MigrateStatus) (output : Bytes) (refused : List NotRecast) : Type 0 where
  pub status : r.status ≡ migration_status (migrated output refused)
  pub lines : Utf8
  pub are_lines : AreLines refused lines
  pub out_grew : Appends r.out.before r.out.after output
  pub err_grew : Appends r.err.before r.err.after lines
