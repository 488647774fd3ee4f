-- What is written of a whole file.
use Rattle.std.proofs.Common.{◌≡◌, ◌≤◌, List, [], ◌∷◌, length, Some, refl, subst, inl, inr}
use Rattle.std.specs.Prelude.{◌⊎◌}
use Rattle.std.specs.Io.KnownBytes.{Appends}
use Rattle.bson_base.specs.Sound.{max_bytes}
use Rattle.bson_kinds.specs.Text.{Bytes}
use Rattle.bson_shape.specs.Form.{Form}
use Rattle.bson_shape.specs.Makers.{IsShape}
use Rattle.bson_shape.specs.Notation.{text}
use Rattle.bson_program.proofs.Answered.{quiet_read}
use Rattle.bson_program.proofs.OneShape.{requested}
use Rattle.bson_program.specs.Program.{IsAnswered}
use Rattle.bson_program.specs.Run.{Run, AllQuiet, AreKept, Told}
use Rattle.bson_migrate_run.specs.declared.status.MigrateStatus.{MigrateStatus}
use Rattle.bson_migrate_run.specs.declared.status.MigrateStatus.TheVariants as statuses
use Rattle.bson_migrate_run.specs.Lines.{migrate_usage, AreLines}
use Rattle.bson_migrate_run.specs.Migrating.{NotRecast, migrated, migration_of}
use Rattle.bson_migrate_run.specs.Rows.{AnswersMigration, migrate_input, migrate_program, WritesMigrated}
use Rattle.bson_migrate_run.proofs.Settled.{status_is}

-- what must be written where the migration comes to these bytes and these documents
migrated_expected : (output : Bytes) (refused : List NotRecast) (status : MigrateStatus) (bytes lines : Bytes) → AnswersMigration (migrated output refused) status bytes lines → (bytes ≡ output) × AreLines refused lines
migrated_expected output refused statuses.Done bytes lines h =
    let none : [] ≡ refused = (let e = h.answer in cc) in
    ((let e = h.answer in cc), subst (λ ds. AreLines ds lines) none h.no_line)
migrated_expected output refused statuses.SomeRefused bytes lines h =
    let some : h.first ∷ h.others ≡ refused = (let e = h.answer in cc) in
    ((let e = h.answer in cc), subst (λ ds. AreLines ds lines) some h.say)
migrated_expected output refused statuses.Broken bytes lines h = absurd (let e = h.answer in cc)
migrated_expected output refused status bytes lines h = absurd h

pub writes_migrated : (s : Form) (file output : Bytes) (refused : List NotRecast) (r : Run MigrateStatus) → IsAnswered migrate_program r → IsShape s → r.words ≡ text s ∷ [] → r.input.before ≡ Some file → length file ≤ max_bytes → migration_of s file ≡ migrated output refused → AllQuiet r
    → WritesMigrated r output refused ⊎ ((r.status ≡ statuses.NoMemory) × AreKept r.out r.err)
writes_migrated s file output refused r answers shape words told small is quiet =
    by_end (quiet_read migrate_program migrate_input (λ bytes. AnswersMigration (migration_of s bytes)) r s file quiet (requested migrate_usage s r.words refl shape words) (λ status bytes lines h. h) told small answers) where
      by_end : Told (AnswersMigration (migration_of s file)) r ⊎ ((r.status ≡ statuses.NoMemory) × AreKept r.out r.err) → WritesMigrated r output refused ⊎ ((r.status ≡ statuses.NoMemory) × AreKept r.out r.err)
      by_end (inl h) =
          let answer : AnswersMigration (migrated output refused) r.status h.bytes h.lines = subst (λ m. AnswersMigration m r.status h.bytes h.lines) is h.expected in
          let expected = migrated_expected output refused r.status h.bytes h.lines answer in
          inl (record {
            status = status_is (migrated output refused) r.status h.bytes h.lines answer;
            lines = h.lines;
            are_lines = expected.1;
            out_grew = subst (Appends r.out.before r.out.after) expected.0 h.written.out_grew;
            err_grew = h.written.err_grew;
          })
      by_end (inr h) = inr h
