-- From what must be written for a file whose refused documents are listed, and what was delivered, to the table of statuses.
use Rattle.std.proofs.Common.{◌≡◌, ◌≤◌, ◌<◌, ℕ, List, [], ◌∷◌, length, string_bytes, Result, Ok, Err, refl, ap, subst, sym, ◌∙◌, inl, inr}
use Rattle.std.specs.Prelude.{◌⊎◌, IfOk}
use Rattle.std.specs.declared.alloc.AllocError.{AllocError}
use Rattle.bson_kinds.specs.Text.{Bytes, Utf8}
use Rattle.bson_shape.specs.Form.{Form}
use Rattle.bson_laws.specs.Settled.{IsSettled}
use Rattle.bson_migrate_run.specs.declared.migrating.Migration.{Migration}
use Rattle.bson_migrate_run.specs.declared.migrating.Refused.{Refused}
use Rattle.bson_migrate_run.specs.Migrating.{NotRecast, Migrating, broken, migrated, migration_of, AreListed, IsMigration}
use Rattle.bson_buffers.specs.Asked.{shape_of_bytes, DenotesShape}
use Rattle.bson_buffers.specs.Buffers.{Call, Tells}
use Rattle.bson_buffers.specs.Expected.{IsDelivered, listed_status}
use Rattle.bson_buffers.specs.Lists.{Records, ListsRecords, IsListedMigration}
use Rattle.bson_buffers.specs.Migrates.{migration_status, migration_status_at}
use Rattle.bson_buffers.specs.Prover.Listed.{texts_of, records_from, IsListingOf, IsForListing, IsListingRow}
use Rattle.bson_buffers.specs.declared.listed.ExpectedList.{ExpectedList}
use Rattle.bson_buffers.specs.declared.refusal.Refusal.{Refusal}
use Rattle.bson_buffers.specs.declared.status.Status.{Status}
use Rattle.bson_buffers.specs.declared.status.Status.TheVariants as statuses
use Rattle.bson_buffers.proofs.Checked.{nothing_written, no_shape_row}
use Rattle.bson_buffers.proofs.Delivery.{within_or_above, fits, lacks}
use Rattle.bson_buffers.proofs.Records.{are_records}

-- ---- what must be written for a migration that was done

by_list : (shape file output : Bytes) (s : Form) (ds : List NotRecast) (xs : List Refused) → DenotesShape shape s → migration_of s file ≡ migrated output ds → (IsSettled s → migration_of s output ≡ migrated output []) → AreListed ds xs
    → IsForListing shape file (listed_status xs) 0 output (texts_of xs) (records_from file 0 xs)
by_list shape file output s [] [] n is again h = (s, n, is, again, refl, refl, refl)
by_list shape file output s [] (x ∷ xs) n is again h = absurd h
by_list shape file output s (d ∷ ds) [] n is again h = absurd h
by_list shape file output s (d ∷ ds) (x ∷ xs) n is again h = (s, d, ds, n, is, again, are_records file 0 (d ∷ ds) (x ∷ xs) h, refl)

by_answer : (shape file : Bytes) (s : Form) (m : Migration) (r : Migrating) → DenotesShape shape s → migration_of s file ≡ r → IsMigration r (Ok m) → (IsSettled s → migration_of s m.output.items ≡ migrated m.output.items [])
    → IsForListing shape file (listed_status m.refused.items) 0 m.output.items (texts_of m.refused.items) (records_from file 0 m.refused.items)
by_answer shape file s m (broken place) n is h again = absurd h
by_answer shape file s m (migrated out ds) n is h again = by_list shape file m.output.items s ds m.refused.items n (is ∙ ap (λ o. migrated o ds) (sym h.0)) again h.1

-- the same of what is in hand
pub expected_for_file : (shape file : Bytes) (s : Form) (m : Migration) (r : Result ExpectedList AllocError) → DenotesShape shape s → IsMigration (migration_of s file) (Ok m) → (IsSettled s → migration_of s m.output.items ≡ migrated m.output.items [])
    → IfOk r (λ d. IsListingOf file m d) → IfOk r (λ d. IsForListing shape file d.expected.status d.expected.place d.expected.output.items (string_bytes d.expected.text) d.refusals.items)
expected_for_file shape file s m (Err e) n h again is = tt
expected_for_file shape file s m (Ok d) n h again is =
    subst (λ x. IsForListing shape file x d.expected.place d.expected.output.items (string_bytes d.expected.text) d.refusals.items) (sym is.status)
    (subst (λ x. IsForListing shape file (listed_status m.refused.items) x d.expected.output.items (string_bytes d.expected.text) d.refusals.items) (sym is.place)
    (subst (λ x. IsForListing shape file (listed_status m.refused.items) 0 x (string_bytes d.expected.text) d.refusals.items) (sym is.output)
    (subst (λ x. IsForListing shape file (listed_status m.refused.items) 0 m.output.items x d.refusals.items) (sym is.texts)
    (subst (λ x. IsForListing shape file (listed_status m.refused.items) 0 m.output.items (texts_of m.refused.items) x) (sym is.records)
    (by_answer shape file s m (migration_of s file) n refl h again)))))

-- ---- the table of statuses

status_named : (shape file : Bytes) (places : ℕ) (s : Form) (m : Migrating) → DenotesShape shape s → migration_of s file ≡ m → migration_status_at places file (shape_of_bytes shape) ≡ migration_status places m
status_named shape file places s m n is = ap (migration_status_at places file) n.asked ∙ ap (migration_status places) is

abbrev IsInTable : (shape file : Bytes) → Status → Call → Records → Type 0
IsInTable shape file status c a = IsListingRow shape file status c a × (status ≡ migration_status_at (length c.buffer.before) file (shape_of_bytes shape))

module _ (shape file : Bytes) (place : ℕ) (output : Bytes) (said : Utf8) (records : List Refusal) (status : Status) (c : Call) (a : Records) (listed : ListsRecords a records) where
  done_row : IsForListing shape file statuses.Done place output said records → IsDelivered statuses.Done place output said status c → (length output ≤ length c.buffer.before) ⊎ (length c.buffer.before < length output)
      → IsInTable shape file status c a
  done_row h d (inl within) =
      let w = d.written within in (
        subst (λ s. IsListingRow shape file s c a) (sym w.0) (
          record {
            form = h.0;
            notation = h.1;
            output = output;
            migration = h.2;
            again = h.3;
            put = w.1;
            no_text = subst (Tells c) h.5 d.told;
            no_place = d.at ∙ h.4;
          },
          subst (ListsRecords a) h.6 listed,
        ),
        w.0 ∙ sym (status_named shape file (length c.buffer.before) h.0 (migrated output []) h.1 h.2 ∙ fits (length c.buffer.before) output statuses.Done within),
      )
  done_row h d (inr above) =
      let w = d.lacking above in (
        subst (λ s. IsListingRow shape file s c a) (sym w.0) (record {
          form = h.0;
          notation = h.1;
          output = output;
          refused = [];
          migration = h.2;
          said = said;
          tells = record { records = records; are_records = (h.6, h.5); lists = listed };
          larger = w.1;
          says = d.told;
          no_place = d.at ∙ h.4;
        }),
        w.0 ∙ sym (status_named shape file (length c.buffer.before) h.0 (migrated output []) h.1 h.2 ∙ lacks (length c.buffer.before) output statuses.Done above),
      )

  some_row : IsForListing shape file statuses.SomeRefused place output said records → IsDelivered statuses.SomeRefused place output said status c → (length output ≤ length c.buffer.before) ⊎ (length c.buffer.before < length output)
      → IsInTable shape file status c a
  some_row h d (inl within) =
      let w = d.written within in (
        subst (λ s. IsListingRow shape file s c a) (sym w.0) (record {
          form = h.0;
          notation = h.3;
          output = output;
          first = h.1;
          others = h.2;
          migration = h.4;
          again = h.5;
          said = said;
          tells = record { records = records; are_records = h.6; lists = listed };
          put = w.1;
          says = d.told;
          no_place = d.at ∙ h.7;
        }),
        w.0 ∙ sym (status_named shape file (length c.buffer.before) h.0 (migrated output (h.1 ∷ h.2)) h.3 h.4 ∙ fits (length c.buffer.before) output statuses.SomeRefused within),
      )
  some_row h d (inr above) =
      let w = d.lacking above in (
        subst (λ s. IsListingRow shape file s c a) (sym w.0) (record {
          form = h.0;
          notation = h.3;
          output = output;
          refused = h.1 ∷ h.2;
          migration = h.4;
          said = said;
          tells = record { records = records; are_records = h.6; lists = listed };
          larger = w.1;
          says = d.told;
          no_place = d.at ∙ h.7;
        }),
        w.0 ∙ sym (status_named shape file (length c.buffer.before) h.0 (migrated output (h.1 ∷ h.2)) h.3 h.4 ∙ lacks (length c.buffer.before) output statuses.SomeRefused above),
      )

  listing_row : (expected : Status) → IsForListing shape file expected place output said records → IsDelivered expected place output said status c → IsInTable shape file status c a
  listing_row statuses.Done h d = done_row h d (within_or_above (length output) (length c.buffer.before))
  listing_row statuses.SomeRefused h d = some_row h d (within_or_above (length output) (length c.buffer.before))
  listing_row statuses.ShapeRefused h d =
      let w = nothing_written statuses.ShapeRefused place output said status c h.1 d in (
        subst (λ s. IsListingRow shape file s c a) (sym w.0) (no_shape_row shape statuses.ShapeRefused place output said status c h.0 h.1 d, subst (ListsRecords a) h.2 listed),
        w.0 ∙ sym (ap (migration_status_at (length c.buffer.before) file) h.0.asked),
      )
  listing_row statuses.Broken h d =
      let w = nothing_written statuses.Broken place output said status c h.3 d in (
        subst (λ s. IsListingRow shape file s c a) (sym w.0) (
          record { form = h.0; notation = h.1; migration = h.2 ∙ ap broken (sym d.at); no_output = w.1; no_text = subst (Tells c) h.4 d.told },
          subst (ListsRecords a) h.5 listed,
        ),
        w.0 ∙ sym (status_named shape file (length c.buffer.before) h.0 (broken place) h.1 h.2),
      )
  listing_row expected h d = absurd h

by_row : (shape file : Bytes) (status : Status) (c : Call) (a : Records) → IsListingRow shape file status c a → (status ≡ migration_status_at (length c.buffer.before) file (shape_of_bytes shape)) ⊎ (status ≡ statuses.NoMemory)
    → IsListedMigration shape file status c a
by_row shape file status c a row complete = record {
  done = λ is. subst (λ s. IsListingRow shape file s c a) is row;
  some_refused = λ is. subst (λ s. IsListingRow shape file s c a) is row;
  buffer_too_small = λ is. subst (λ s. IsListingRow shape file s c a) is row;
  shape_refused = λ is. subst (λ s. IsListingRow shape file s c a) is row;
  broken = λ is. subst (λ s. IsListingRow shape file s c a) is row;
  no_memory = λ is. subst (λ s. IsListingRow shape file s c a) is row;
  complete = complete;
}

pub is_listed : (shape file : Bytes) (expected : Status) (place : ℕ) (output : Bytes) (said : Utf8) (records : List Refusal) (status : Status) (c : Call) (a : Records) → IsForListing shape file expected place output said records
    → IsDelivered expected place output said status c → ListsRecords a records → IsListedMigration shape file status c a
is_listed shape file expected place output said records status c a h d listed = let r = listing_row shape file place output said records status c a listed expected h d in by_row shape file status c a r.0 (inl r.1)
