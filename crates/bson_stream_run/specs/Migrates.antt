-- A run that recasts the documents of a whole file, beside its migration. Source: this library's own programs.
use Rattle.std.specs.Prelude.{◌≡◌, ◌++◌, ◌⊎◌, ℕ}
use Rattle.std.specs.Io.KnownBytes.{Appends}
use Rattle.bson_kinds.specs.Text.{Bytes, Utf8}
use Rattle.bson_rawdoc.specs.Cut.{cut}
use Rattle.bson_shape.specs.Form.{Form}
use Rattle.bson_program.specs.FileLines.{broken_line}
use Rattle.bson_program.specs.Run.{Run}
use Rattle.bson_migrate_run.specs.Lines.{AreLines}
use Rattle.bson_migrate_run.specs.Migrating.{Migrating, migrated, broken, outputs, not_recast, migration_of}
use Rattle.bson_migrate_run.specs.Rows.{WritesMigrated}
use Rattle.bson_migrate_run.specs.declared.status.MigrateStatus.{MigrateStatus}
use Rattle.bson_migrate_run.specs.declared.status.MigrateStatus.TheVariants as statuses

-- What the documents in front of the place come to was written: those that are recast, and a line for each other one; and then the line for the place.
pub record WritesFront (s : Form) (file : Bytes) (place : ℕ) (r : Run MigrateStatus) : Type 0 where
  pub status : r.status ≡ statuses.Broken
  pub lines : Utf8
  pub are_lines : AreLines (not_recast s 0 (cut file).pieces) lines
  pub out_grew : Appends r.out.before r.out.after (outputs s (cut file).pieces)
  pub err_grew : Appends r.err.before r.err.after (lines ++ broken_line place)

-- A run wrote what the migration comes to; of a file that is broken, also what is in front of the place.
abbrev pub Writes : Form → (file : Bytes) → Migrating → Run MigrateStatus → Type 0
Writes s file (migrated output refused) r = WritesMigrated r output refused
Writes s file (broken place) r = WritesFront s file place r

-- A run wrote what the migration of the file comes to, or memory ran out.
abbrev pub Migrates : Form → (file : Bytes) → Run MigrateStatus → Type 0
Migrates s file r = Writes s file (migration_of s file) r ⊎ (r.status ≡ statuses.NoMemory)
