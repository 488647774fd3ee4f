-- What must be written for a call that lists the refused documents. Source: this library's own calls with buffers.
use Rattle.std.specs.Prelude.{◌≡◌, ◌+◌, ℕ, List, [], ◌∷◌, ◌++◌, length, take, drop, codes, string_bytes}
use Rattle.std.specs.List.{sum_by}
use Rattle.bson_kinds.specs.Text.{Bytes, Utf8}
use Rattle.bson_values.specs.ErrorView.{read_failure, write_failure}
use Rattle.bson_shape.specs.Form.{Form}
use Rattle.bson_tree_recast.specs.declared.error.RecastError.{RecastError}
use Rattle.bson_tree_recast.specs.declared.error.RecastError.TheVariants.{Read, Write, NoMemory}
use Rattle.bson_laws.specs.Settled.{IsSettled}
use Rattle.bson_migrate_run.specs.declared.migrating.Migration.{Migration}
use Rattle.bson_migrate_run.specs.declared.migrating.Refused.{Refused}
use Rattle.bson_migrate_run.specs.Migrating.{NotRecast, broken, migrated, migration_of}
use Rattle.bson_buffers.specs.Asked.{DenotesShape, DenotesNone}
use Rattle.bson_buffers.specs.Buffers.{Call, IsSilent}
use Rattle.bson_buffers.specs.Checks.{NoShapeRow}
use Rattle.bson_buffers.specs.Expected.{listed_status}
use Rattle.bson_buffers.specs.Finding.{left_at}
use Rattle.bson_buffers.specs.Lists as lists
use Rattle.bson_buffers.specs.Migrates.{MigratedRow, BrokenRow}
use Rattle.bson_buffers.specs.Number.{number_of}
use Rattle.bson_buffers.specs.declared.listed.ExpectedList.{ExpectedList}
use Rattle.bson_buffers.specs.declared.reason.Reason as declared
use Rattle.bson_buffers.specs.declared.refusal.Refusal.{Refusal}
use Rattle.bson_buffers.specs.declared.status.Status.{Status}
use Rattle.bson_buffers.specs.declared.status.Status.TheVariants as statuses

-- how many bytes so many documents take from a place on
abbrev pub bytes_from : (file : Bytes) → (place count : ℕ) → ℕ
bytes_from file place count = sum_by length (take count (left_at file place).pieces)

-- the reason that an error of a recast tells
abbrev pub reason_for : RecastError → lists.Reason
reason_for (Read e) = lists.unread_for (read_failure e)
reason_for (Write e) = lists.unwritten_for (write_failure e)
reason_for NoMemory = record { status = number_of statuses.NoMemory; text = codes "out of memory"; front = [] }

-- A reason in hand is the one that the error tells.
pub record IsReason (e : RecastError) (r : declared.Reason) : Type 0 where
  pub status : number_of r.status ≡ (reason_for e).status
  pub text : string_bytes r.text ≡ (reason_for e).text
  pub front : string_bytes r.front ≡ (reason_for e).front

-- the texts of refused documents, one after another
abbrev pub texts_of : List Refused → Utf8
texts_of [] = []
texts_of (x ∷ xs) = (reason_for x.error).text ++ texts_of xs

-- the records of refused documents, whose texts begin here
abbrev pub records_from : (file : Bytes) → (text_start : ℕ) → List Refused → List Refusal
records_from file text_start [] = []
records_from file text_start (x ∷ xs) = lists.record_of file text_start x.number (reason_for x.error) ∷ records_from file (text_start + length (reason_for x.error).text) xs

-- the output of a migration, and the records and texts of its refused documents
pub record IsListingOf (file : Bytes) (m : Migration) (d : ExpectedList) : Type 0 where
  pub status : d.expected.status ≡ listed_status m.refused.items
  pub place : d.expected.place ≡ 0
  pub output : d.expected.output.items ≡ m.output.items
  pub texts : string_bytes d.expected.text ≡ texts_of m.refused.items
  pub records : d.refusals.items ≡ records_from file 0 m.refused.items

-- what must be written for a file
abbrev pub IsForListing : (shape file : Bytes) → Status → (place : ℕ) → (output : Bytes) → (said : Utf8) → (records : List Refusal) → Type 0
IsForListing shape file statuses.Done place output said records =
    (s : Form) × DenotesShape shape s × (migration_of s file ≡ migrated output []) × (IsSettled s → migration_of s output ≡ migrated output []) × (place ≡ 0) × (said ≡ []) × (records ≡ [])
IsForListing shape file statuses.SomeRefused place output said records =
    (s : Form) × (first : NotRecast) × (others : List NotRecast) × DenotesShape shape s × (migration_of s file ≡ migrated output (first ∷ others)) × (IsSettled s → migration_of s output ≡ migrated output []) × lists.AreRecords file 0 (first ∷ others) records said × (place ≡ 0)
IsForListing shape file statuses.ShapeRefused place output said records = DenotesNone shape (record { place = place; said = said }) × (output ≡ []) × (records ≡ [])
IsForListing shape file statuses.Broken place output said records = (s : Form) × DenotesShape shape s × (migration_of s file ≡ broken place) × (output ≡ []) × (said ≡ []) × (records ≡ [])
IsForListing shape file status place output said records = ⊥

-- the row of the table at each status
abbrev pub IsListingRow : (shape file : Bytes) → Status → Call → lists.Records → Type 0
IsListingRow shape file statuses.Done c a = MigratedRow shape file c × lists.ListsRecords a []
IsListingRow shape file statuses.SomeRefused c a = lists.ListedRow shape file c a
IsListingRow shape file statuses.BufferTooSmall c a = lists.LargerListedRow shape file c a
IsListingRow shape file statuses.ShapeRefused c a = NoShapeRow shape c × lists.ListsRecords a []
IsListingRow shape file statuses.Broken c a = BrokenRow shape file c × lists.ListsRecords a []
IsListingRow shape file statuses.NoMemory c a = IsSilent c × lists.ListsRecords a []
IsListingRow shape file status c a = ⊥
