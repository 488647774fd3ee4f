-- What must be written for a file settles the status.
use Rattle.std.proofs.Common.{◌≡◌, ap, sym}
use Rattle.bson_kinds.specs.Text.{Bytes}
use Rattle.bson_program.proofs.Answered.{Settles}
use Rattle.bson_program.proofs.Inputs.{input_settles}
use Rattle.bson_migrate_run.specs.declared.status.MigrateStatus.{MigrateStatus}
use Rattle.bson_migrate_run.specs.declared.status.MigrateStatus.TheVariants as statuses
use Rattle.bson_migrate_run.specs.Migrating.{Migrating, migration_of}
use Rattle.bson_migrate_run.specs.Rows.{AnswersMigration, migration_status, migrate_input, migrate_program}

pub status_is : (m : Migrating) (status : MigrateStatus) (out lines : Bytes) → AnswersMigration m status out lines → status ≡ migration_status m
status_is m statuses.Done out lines h = sym (ap migration_status h.answer)
status_is m statuses.SomeRefused out lines h = sym (ap migration_status h.answer)
status_is m statuses.Broken out lines h = sym (ap migration_status h.answer)
status_is m status out lines h = absurd h

pub settled : Settles migrate_program
settled = record {
  settles = λ s input file told quiet.
      input_settles migrate_input (λ bytes. AnswersMigration (migration_of s bytes)) input file told quiet (λ bytes. migration_status (migration_of s bytes)) (λ bytes. status_is (migration_of s bytes));
}
