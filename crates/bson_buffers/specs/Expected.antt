-- What must be written for a call before its buffers are looked at. For the contracts of functions inside this crate and their proofs; no public contract cites it.
-- Source: this library's own calls with buffers.
use Rattle.std.specs.Prelude.{◌≡◌, ◌<◌, ◌≤◌, ◌⊎◌, ℕ, List, [], ◌∷◌, length, string_bytes}
use Rattle.bson_kinds.specs.Text.{Bytes, Utf8}
use Rattle.bson_values.specs.Printed.{printed_failure, printed_read_fault, printed_write_fault}
use Rattle.bson_values.specs.Refusal as refusal
use Rattle.bson_shape.specs.Form.{Form}
use Rattle.bson_laws.specs.Settled.{IsSettled}
use Rattle.bson_evolve_check.specs.Checks.{ArePlain}
use Rattle.bson_evolve_check.specs.Printed.{check_error_text}
use Rattle.bson_evolve_check.specs.declared.checking.CheckError.TheVariants.{OldNotPlain, NewNotPlain}
use Rattle.bson_evolve_differences.specs.Differences.{AreDifferences, Difference}
use Rattle.bson_laws.specs.Plain.{IsPlain}
use Rattle.bson_tree_recast.specs.Recast.{recast_of, writes, unread, Unwritten}
use Rattle.bson_migrate_run.specs.declared.migrating.Migration.{Migration}
use Rattle.bson_migrate_run.specs.declared.migrating.Refused.{Refused}
use Rattle.bson_migrate_run.specs.Lines.{refused_lines, AreLines}
use Rattle.bson_migrate_run.specs.Migrating.{NotRecast, broken, migrated, migration_of}
use Rattle.bson_buffers.specs.Asked.{DenotesShape, DenotesNone}
use Rattle.bson_buffers.specs.Checks.{NoShapeRow}
use Rattle.bson_buffers.specs.Compares.{difference_texts, differing_status, CompatibleRow, DenoteShapes, DifferentRow, NewRefusedRow, OldRefusedRow}
use Rattle.bson_buffers.specs.Migrates as migrates
use Rattle.bson_buffers.specs.Recasts.{RecastRow, LargerRow, UnreadRow, UnwrittenRow}
use Rattle.bson_buffers.specs.Buffers.{Call, Writes, LacksSpace, Tells, IsSilent}
use Rattle.bson_buffers.specs.declared.expected.Expected as expected
use Rattle.bson_buffers.specs.declared.status.Status.{Status}
use Rattle.bson_buffers.specs.declared.status.Status.TheVariants as statuses

-- What had to be written was put into the buffers; where the output does not fit, the status tells it.
pub record IsDelivered (expected : Status) (place : ℕ) (output : Bytes) (said : Utf8) (status : Status) (c : Call) : Type 0 where
  pub at : c.place ≡ place
  pub told : Tells c said
  pub written : length output ≤ length c.buffer.before → (status ≡ expected) × Writes c output
  pub lacking : length c.buffer.before < length output → (status ≡ statuses.BufferTooSmall) × LacksSpace c output

-- The bytes are a shape's notation, or a text tells why they are none.
abbrev pub IsForCheck : (shape : Bytes) → Status → (place : ℕ) → (output : Bytes) → (said : Utf8) → Type 0
IsForCheck shape statuses.Done place output said = (s : Form) × DenotesShape shape s × (place ≡ 0) × (output ≡ []) × (said ≡ [])
IsForCheck shape statuses.ShapeRefused place output said = DenotesNone shape (record { place = place; said = said }) × (output ≡ [])
IsForCheck shape status place output said = ⊥

-- the same for a document and its recast
abbrev pub IsForRecast : (shape bytes : Bytes) → Status → (place : ℕ) → (output : Bytes) → (said : Utf8) → Type 0
IsForRecast shape bytes statuses.Done place output said = (s : Form) × DenotesShape shape s × (recast_of s bytes ≡ writes output) × (IsSettled s → recast_of s output ≡ writes output) × (place ≡ 0) × (said ≡ [])
IsForRecast shape bytes statuses.ShapeRefused place output said = DenotesNone shape (record { place = place; said = said }) × (output ≡ [])
IsForRecast shape bytes statuses.ReadRefused place output said =
    (s : Form) × (f : refusal.Failure refusal.ReadFault) × DenotesShape shape s × (recast_of s bytes ≡ unread f) × (said ≡ printed_failure printed_read_fault f) × (place ≡ 0) × (output ≡ [])
IsForRecast shape bytes statuses.WriteRefused place output said =
    (s : Form) × (f : refusal.Failure refusal.WriteFault) × DenotesShape shape s × Unwritten (recast_of s bytes) f × (said ≡ printed_failure printed_write_fault f) × (place ≡ 0) × (output ≡ [])
IsForRecast shape bytes status place output said = ⊥

-- the same for a file and its migration
abbrev pub IsForMigration : (shape file : Bytes) → Status → (place : ℕ) → (output : Bytes) → (said : Utf8) → Type 0
IsForMigration shape file statuses.Done place output said =
    (s : Form) × DenotesShape shape s × (migration_of s file ≡ migrated output []) × (IsSettled s → migration_of s output ≡ migrated output []) × (place ≡ 0) × (said ≡ [])
IsForMigration shape file statuses.SomeRefused place output said =
    (s : Form) × (first : NotRecast) × (others : List NotRecast) × DenotesShape shape s × (migration_of s file ≡ migrated output (first ∷ others)) × (IsSettled s → migration_of s output ≡ migrated output []) × AreLines (first ∷ others) said × (place ≡ 0)
IsForMigration shape file statuses.ShapeRefused place output said = DenotesNone shape (record { place = place; said = said }) × (output ≡ [])
IsForMigration shape file statuses.Broken place output said = (s : Form) × DenotesShape shape s × (migration_of s file ≡ broken place) × (output ≡ []) × (said ≡ [])
IsForMigration shape file status place output said = ⊥

-- the status where these documents are refused
abbrev pub listed_status : List Refused → Status
listed_status [] = statuses.Done
listed_status (x ∷ xs) = statuses.SomeRefused

-- The output of a migration, and the lines of its refused documents.
pub record IsOfMigration (m : Migration) (d : expected.Expected) : Type 0 where
  pub status : d.status ≡ listed_status m.refused.items
  pub place : d.place ≡ 0
  pub output : d.output.items ≡ m.output.items
  pub lines : string_bytes d.text ≡ refused_lines m.refused.items

abbrev pub IsRecastRow : (shape bytes : Bytes) → Status → Call → Type 0
IsRecastRow shape bytes statuses.Done c = RecastRow shape bytes c
IsRecastRow shape bytes statuses.BufferTooSmall c = LargerRow shape bytes c
IsRecastRow shape bytes statuses.ShapeRefused c = NoShapeRow shape c
IsRecastRow shape bytes statuses.ReadRefused c = UnreadRow shape bytes c
IsRecastRow shape bytes statuses.WriteRefused c = UnwrittenRow shape bytes c
IsRecastRow shape bytes statuses.NoMemory c = IsSilent c
IsRecastRow shape bytes status c = ⊥

abbrev pub IsMigrationRow : (shape file : Bytes) → Status → Call → Type 0
IsMigrationRow shape file statuses.Done c = migrates.MigratedRow shape file c
IsMigrationRow shape file statuses.SomeRefused c = migrates.SomeRefusedRow shape file c
IsMigrationRow shape file statuses.BufferTooSmall c = migrates.LargerRow shape file c
IsMigrationRow shape file statuses.ShapeRefused c = NoShapeRow shape c
IsMigrationRow shape file statuses.Broken c = migrates.BrokenRow shape file c
IsMigrationRow shape file statuses.NoMemory c = IsSilent c
IsMigrationRow shape file status c = ⊥

-- the same for two shapes
abbrev pub IsForShapes : (old new : Form) → Status → (place : ℕ) → (output : Bytes) → (said : Utf8) → Type 0
IsForShapes old new statuses.Done place output said = ArePlain old new × AreDifferences old new [] × (place ≡ 0) × (output ≡ []) × (said ≡ [])
IsForShapes old new statuses.Different place output said =
    (first : Difference) × (others : List Difference) × ArePlain old new × AreDifferences old new (first ∷ others) × (place ≡ 0) × (output ≡ []) × (said ≡ difference_texts (first ∷ others))
IsForShapes old new statuses.OldRefused place output said = (IsPlain old → ⊥) × (place ≡ 0) × (output ≡ []) × (said ≡ check_error_text OldNotPlain)
IsForShapes old new statuses.NewRefused place output said = IsPlain old × (IsPlain new → ⊥) × (place ≡ 0) × (output ≡ []) × (said ≡ check_error_text NewNotPlain)
IsForShapes old new status place output said = ⊥

-- The texts of differences.
pub record IsOfDifferences (ds : List Difference) (d : expected.Expected) : Type 0 where
  pub status : d.status ≡ differing_status ds
  pub place : d.place ≡ 0
  pub output : d.output.items ≡ []
  pub texts : string_bytes d.text ≡ difference_texts ds

-- the same for bytes that may be two shapes
abbrev pub IsForComparison : (old new : Bytes) → Status → (place : ℕ) → (output : Bytes) → (said : Utf8) → Type 0
IsForComparison old new status place output said =
    ((status ≡ statuses.OldRefused) × DenotesNone old (record { place = place; said = said }) × (output ≡ []))
    ⊎ ((a : Form) × DenotesShape old a × (status ≡ statuses.NewRefused) × DenotesNone new (record { place = place; said = said }) × (output ≡ []))
    ⊎ ((a : Form) × (b : Form) × DenoteShapes old new a b × IsForShapes a b status place output said)

abbrev pub IsComparisonRow : (old new : Bytes) → Status → Call → Type 0
IsComparisonRow old new statuses.Done c = CompatibleRow old new c
IsComparisonRow old new statuses.Different c = DifferentRow old new c
IsComparisonRow old new statuses.OldRefused c = OldRefusedRow old new c
IsComparisonRow old new statuses.NewRefused c = NewRefusedRow old new c
IsComparisonRow old new statuses.NoMemory c = IsSilent c
IsComparisonRow old new status c = ⊥
