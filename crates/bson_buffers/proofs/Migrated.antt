-- From what must be written for a file and what was delivered to the table of statuses.
use Rattle.std.proofs.Common.{◌≡◌, ◌≤◌, ◌<◌, ℕ, List, [], ◌∷◌, length, string_bytes, Result, Ok, Err, refl, ap, subst, sym, ◌∙◌, inl, inr}
use Rattle.std.specs.Prelude.{◌⊎◌, IfOk}
use Rattle.std.specs.declared.alloc.AllocError.{AllocError}
use Rattle.bson_kinds.specs.Text.{Bytes, Utf8}
use Rattle.bson_shape.specs.Form.{Form}
use Rattle.bson_laws.specs.Settled.{IsSettled}
use Rattle.bson_migrate_run.specs.declared.migrating.Migration.{Migration}
use Rattle.bson_migrate_run.specs.declared.migrating.Refused.{Refused}
use Rattle.bson_migrate_run.specs.Lines.{refused_lines}
use Rattle.bson_migrate_run.specs.Migrating.{Migrating, broken, migrated, migration_of, IsMigration}
use Rattle.bson_migrate_run.specs.Rows as rows
use Rattle.bson_migrate_run.proofs.LinesExpected.{answers_of}
use Rattle.bson_buffers.specs.Asked.{shape_of_bytes, DenotesShape}
use Rattle.bson_buffers.specs.Expected.{IsDelivered, IsForMigration, IsMigrationRow, IsOfMigration, listed_status}
use Rattle.bson_buffers.specs.Migrates.{migration_status, migration_status_at, IsMigrated}
use Rattle.bson_buffers.specs.Buffers.{Call, Tells}
use Rattle.bson_buffers.specs.declared.expected.Expected.{Expected}
use Rattle.bson_buffers.specs.declared.status.Status.{Status}
use Rattle.bson_buffers.specs.declared.status.Status.TheVariants as statuses
use Rattle.bson_buffers.proofs.Checked.{nothing_written, no_shape_row}
use Rattle.bson_buffers.proofs.Delivery.{within_or_above, fits, lacks}

-- ---- what must be written for a migration that was done

by_list : (shape file output : Bytes) (s : Form) (xs : List Refused) → DenotesShape shape s → rows.AnswersMigration (migration_of s file) (rows.listed_status xs) output (refused_lines xs) → (IsSettled s → migration_of s output ≡ migrated output [])
    → IsForMigration shape file (listed_status xs) 0 output (refused_lines xs)
by_list shape file output s [] n h again = (s, n, h.answer, again, refl, h.no_line)
by_list shape file output s (x ∷ xs) n h again = (s, h.first, h.others, n, h.answer, again, h.say, refl)

expected_for_migrated : (shape file : Bytes) (s : Form) (m : Migration) → DenotesShape shape s → IsMigration (migration_of s file) (Ok m) → (IsSettled s → migration_of s m.output.items ≡ migrated m.output.items [])
    → IsForMigration shape file (listed_status m.refused.items) 0 m.output.items (refused_lines m.refused.items)
expected_for_migrated shape file s m n h again = by_list shape file m.output.items s m.refused.items n (answers_of s file m h) again

-- the same of what is in hand
pub expected_for_file : (shape file : Bytes) (s : Form) (m : Migration) (r : Result Expected AllocError) → DenotesShape shape s → IsMigration (migration_of s file) (Ok m) → (IsSettled s → migration_of s m.output.items ≡ migrated m.output.items [])
    → IfOk r (λ d. IsOfMigration m d) → IfOk r (λ d. IsForMigration shape file d.status d.place d.output.items (string_bytes d.text))
expected_for_file shape file s m (Err e) n h again is = tt
expected_for_file shape file s m (Ok d) n h again is =
    subst (λ x. IsForMigration shape file x d.place d.output.items (string_bytes d.text)) (sym is.status)
    (subst (λ x. IsForMigration shape file (listed_status m.refused.items) x d.output.items (string_bytes d.text)) (sym is.place)
    (subst (λ x. IsForMigration shape file (listed_status m.refused.items) 0 x (string_bytes d.text)) (sym is.output)
    (subst (λ x. IsForMigration shape file (listed_status m.refused.items) 0 m.output.items x) (sym is.lines) (expected_for_migrated shape file s m n h again))))

-- ---- the table of statuses

status_named : (shape file : Bytes) (places : ℕ) (s : Form) (m : Migrating) → DenotesShape shape s → migration_of s file ≡ m → migration_status_at places file (shape_of_bytes shape) ≡ migration_status places m
status_named shape file places s m n is = ap (migration_status_at places file) n.asked ∙ ap (migration_status places) is

abbrev IsInTable : (shape file : Bytes) → Status → Call → Type 0
IsInTable shape file status c = IsMigrationRow shape file status c × (status ≡ migration_status_at (length c.buffer.before) file (shape_of_bytes shape))

done_row : (shape file : Bytes) (place : ℕ) (output : Bytes) (said : Utf8) (status : Status) (c : Call) → IsForMigration shape file statuses.Done place output said → IsDelivered statuses.Done place output said status c
    → (length output ≤ length c.buffer.before) ⊎ (length c.buffer.before < length output) → IsInTable shape file status c
done_row shape file place output said status c h d (inl within) =
    let w = d.written within in (
      subst (λ s. IsMigrationRow shape file s c) (sym w.0) (record {
        form = h.0;
        notation = h.1;
        output = output;
        migration = h.2;
        again = h.3;
        put = w.1;
        no_text = subst (Tells c) h.5 d.told;
        no_place = d.at ∙ h.4;
      }),
      w.0 ∙ sym (status_named shape file (length c.buffer.before) h.0 (migrated output []) h.1 h.2 ∙ fits (length c.buffer.before) output statuses.Done within),
    )
done_row shape file place output said status c h d (inr above) =
    let w = d.lacking above in (
      subst (λ s. IsMigrationRow shape file s c) (sym w.0) (record {
        form = h.0;
        notation = h.1;
        output = output;
        refused = [];
        migration = h.2;
        said = said;
        tells = h.5;
        larger = w.1;
        says = d.told;
        no_place = d.at ∙ h.4;
      }),
      w.0 ∙ sym (status_named shape file (length c.buffer.before) h.0 (migrated output []) h.1 h.2 ∙ lacks (length c.buffer.before) output statuses.Done above),
    )

some_row : (shape file : Bytes) (place : ℕ) (output : Bytes) (said : Utf8) (status : Status) (c : Call) → IsForMigration shape file statuses.SomeRefused place output said → IsDelivered statuses.SomeRefused place output said status c
    → (length output ≤ length c.buffer.before) ⊎ (length c.buffer.before < length output) → IsInTable shape file status c
some_row shape file place output said status c h d (inl within) =
    let w = d.written within in (
      subst (λ s. IsMigrationRow shape file s c) (sym w.0) (record {
        form = h.0;
        notation = h.3;
        output = output;
        first = h.1;
        others = h.2;
        migration = h.4;
        again = h.5;
        said = said;
        tells = h.6;
        put = w.1;
        says = d.told;
        no_place = d.at ∙ h.7;
      }),
      w.0 ∙ sym (status_named shape file (length c.buffer.before) h.0 (migrated output (h.1 ∷ h.2)) h.3 h.4 ∙ fits (length c.buffer.before) output statuses.SomeRefused within),
    )
some_row shape file place output said status c h d (inr above) =
    let w = d.lacking above in (
      subst (λ s. IsMigrationRow shape file s c) (sym w.0) (record {
        form = h.0;
        notation = h.3;
        output = output;
        refused = h.1 ∷ h.2;
        migration = h.4;
        said = said;
        tells = h.6;
        larger = w.1;
        says = d.told;
        no_place = d.at ∙ h.7;
      }),
      w.0 ∙ sym (status_named shape file (length c.buffer.before) h.0 (migrated output (h.1 ∷ h.2)) h.3 h.4 ∙ lacks (length c.buffer.before) output statuses.SomeRefused above),
    )

migration_row : (shape file : Bytes) (expected : Status) (place : ℕ) (output : Bytes) (said : Utf8) (status : Status) (c : Call) → IsForMigration shape file expected place output said → IsDelivered expected place output said status c
    → IsInTable shape file status c
migration_row shape file statuses.Done place output said status c h d = done_row shape file place output said status c h d (within_or_above (length output) (length c.buffer.before))
migration_row shape file statuses.SomeRefused place output said status c h d = some_row shape file place output said status c h d (within_or_above (length output) (length c.buffer.before))
migration_row shape file statuses.ShapeRefused place output said status c h d =
    let w = nothing_written statuses.ShapeRefused place output said status c h.1 d in (
      subst (λ s. IsMigrationRow shape file s c) (sym w.0) (no_shape_row shape statuses.ShapeRefused place output said status c h.0 h.1 d),
      w.0 ∙ sym (ap (migration_status_at (length c.buffer.before) file) h.0.asked),
    )
migration_row shape file statuses.Broken place output said status c h d =
    let w = nothing_written statuses.Broken place output said status c h.3 d in (
      subst (λ s. IsMigrationRow shape file s c) (sym w.0) (record {
        form = h.0;
        notation = h.1;
        migration = h.2 ∙ ap broken (sym d.at);
        no_output = w.1;
        no_text = subst (Tells c) h.4 d.told;
      }),
      w.0 ∙ sym (status_named shape file (length c.buffer.before) h.0 (broken place) h.1 h.2),
    )
migration_row shape file expected place output said status c h d = absurd h

by_row : (shape file : Bytes) (status : Status) (c : Call) → IsMigrationRow shape file status c → (status ≡ migration_status_at (length c.buffer.before) file (shape_of_bytes shape)) ⊎ (status ≡ statuses.NoMemory)
    → IsMigrated shape file status c
by_row shape file status c row complete = record {
  done = λ is. subst (λ s. IsMigrationRow shape file s c) is row;
  some_refused = λ is. subst (λ s. IsMigrationRow shape file s c) is row;
  buffer_too_small = λ is. subst (λ s. IsMigrationRow shape file s c) is row;
  shape_refused = λ is. subst (λ s. IsMigrationRow shape file s c) is row;
  broken = λ is. subst (λ s. IsMigrationRow shape file s c) is row;
  no_memory = λ is. subst (λ s. IsMigrationRow shape file s c) is row;
  complete = complete;
}

pub is_migrated : (shape file : Bytes) (expected : Status) (place : ℕ) (output : Bytes) (said : Utf8) (status : Status) (c : Call) → IsForMigration shape file expected place output said → IsDelivered expected place output said status c
    → IsMigrated shape file status c
is_migrated shape file expected place output said status c h d = let r = migration_row shape file expected place output said status c h d in by_row shape file status c r.0 (inl r.1)
