-- Migrating a file with a record for each refused document: what the records say, when each status comes, and what the call did then.
-- Source: this library's own calls with buffers.
use Rattle.std.specs.Prelude.{◌≡◌, ◌⊎◌, ◌+◌, ℕ, min, List, [], ◌∷◌, ◌++◌, length, take, drop, codes}
use Rattle.std.specs.List.{sum_by}
use Rattle.bson_kinds.specs.Text.{Bytes, Utf8}
use Rattle.bson_values.specs.Printed.{printed_failure, printed_path, printed_read_fault, printed_write_fault}
use Rattle.bson_values.specs.Refusal.{ReadFault, WriteFault, Failure, no_memory, bare, placed}
use Rattle.bson_rawdoc.specs.Cut.{cut}
use Rattle.bson_tree_recast.specs.Recast.{Recast, writes, unread, unwritten, Unwritten}
use Rattle.bson_migrate_run.specs.Migrating.{NotRecast}
use Rattle.bson_buffers.specs.Asked.{shape_of_bytes}
use Rattle.bson_buffers.specs.Buffers.{Call, IsSilent}
use Rattle.bson_buffers.specs.Checks.{NoShapeRow}
use Rattle.bson_buffers.specs.Migrates.{MigratedRow, RefusedRow, UnfittedRow, BrokenRow, migration_status_at}
use Rattle.bson_buffers.specs.Number.{number_of}
use Rattle.bson_buffers.specs.declared.refusal.Refusal.{Refusal}
use Rattle.bson_buffers.specs.declared.report.MigrationReport.{MigrationReport}
use Rattle.bson_buffers.specs.declared.status.Status.{Status}
use Rattle.bson_buffers.specs.declared.status.Status.TheVariants as statuses

-- where the document with this number begins in a file: behind those before it
abbrev pub offset_in : (file : Bytes) → (number : ℕ) → ℕ
offset_in file number = sum_by length (take number (cut file).pieces)

-- what is printed of a failure before its cause
abbrev pub printed_front : {F : Type 0} → Failure F → Utf8
printed_front no_memory = []
printed_front (bare f) = []
printed_front (placed path f) = codes "error at " ++ printed_path path ++ codes ": "

-- why a document is not recast: the number of a status, a text, and what of the text is before the cause
pub record Reason : Type 0 where
  pub status : ℕ
  pub text : Utf8
  pub front : Utf8

abbrev pub unread_for : Failure ReadFault → Reason
unread_for f = record { status = number_of statuses.ReadRefused; text = printed_failure printed_read_fault f; front = printed_front f }

abbrev pub unwritten_for : Failure WriteFault → Reason
unwritten_for f = record { status = number_of statuses.WriteRefused; text = printed_failure printed_write_fault f; front = printed_front f }

-- why a document is not recast; where its value is refused and is also too long, the reason may be either
abbrev pub IsReasonOf : Recast → Reason → Type 0
IsReasonOf (writes bytes) r = ⊥
IsReasonOf (unread f) r = r ≡ unread_for f
IsReasonOf (unwritten expected too_long) r = (f : Failure WriteFault) × Unwritten (unwritten expected too_long) f × (r ≡ unwritten_for f)

-- the record of the document with this number, whose text begins here
abbrev pub record_of : (file : Bytes) → (text_start number : ℕ) → Reason → Refusal
record_of file text_start number r = record {
  index = number;
  offset = offset_in file number;
  status = r.status;
  text_start = text_start;
  text_length = length r.text;
  cause_start = length r.front;
}

-- a record for each document that is not recast, and their texts one after another, which begin here
abbrev pub AreRecords : (file : Bytes) → (text_start : ℕ) → List NotRecast → List Refusal → (texts : Utf8) → Type 0
AreRecords file text_start [] records texts = (records ≡ []) × (texts ≡ [])
AreRecords file text_start (d ∷ ds) records texts =
    (r : Reason) × (rest : List Refusal) × (behind : Utf8) × IsReasonOf d.recast r × (records ≡ record_of file text_start d.number r ∷ rest) × (texts ≡ r.text ++ behind) × AreRecords file (text_start + length r.text) ds rest behind

-- the array for the records before and after a call, and the numbers of its report on it
pub record Records : Type 0 where
  pub before : List Refusal
  pub after : List Refusal
  pub written : ℕ
  pub needed : ℕ

-- the array by its records before and after a call, and the call's report
abbrev pub records_by : MigrationReport → (before after : List Refusal) → Records
records_by a before after = record { before = before; after = after; written = a.refusals_written; needed = a.refusals_needed }

-- As many first records as fit are at the front of the array; those behind them are as they were.
pub record ListsRecords (a : Records) (records : List Refusal) : Type 0 where
  pub put : a.after ≡ take (length a.before) records ++ drop (length records) a.before
  pub written : a.written ≡ min (length records) (length a.before)
  pub needed : a.needed ≡ length records

-- A record for each of these documents is listed in the array, and these are their texts.
pub record ListsEach (file : Bytes) (a : Records) (refused : List NotRecast) (texts : Utf8) : Type 0 where
  pub records : List Refusal
  pub are_records : AreRecords file 0 refused records texts
  pub lists : ListsRecords a records

-- Some documents are not recast, as a record for each tells.
abbrev pub ListedRow : (shape file : Bytes) → Call → Records → Type 0
ListedRow shape file c a = RefusedRow (ListsEach file a) shape file c

-- The buffer is too small, and a record for each document that is not recast tells of it.
abbrev pub LargerListedRow : (shape file : Bytes) → Call → Records → Type 0
LargerListedRow shape file c a = UnfittedRow (ListsEach file a) shape file c

-- The table of statuses: each status comes only where its row holds, and it is the one that must be returned, or out of memory.
pub record IsListedMigration (shape file : Bytes) (status : Status) (c : Call) (a : Records) : Type 0 where
  pub done : status ≡ statuses.Done → MigratedRow shape file c × ListsRecords a []
  pub some_refused : status ≡ statuses.SomeRefused → ListedRow shape file c a
  pub buffer_too_small : status ≡ statuses.BufferTooSmall → LargerListedRow shape file c a
  pub shape_refused : status ≡ statuses.ShapeRefused → NoShapeRow shape c × ListsRecords a []
  pub broken : status ≡ statuses.Broken → BrokenRow shape file c × ListsRecords a []
  pub no_memory : status ≡ statuses.NoMemory → IsSilent c × ListsRecords a []
  pub complete : (status ≡ migration_status_at (length c.buffer.before) file (shape_of_bytes shape)) ⊎ (status ≡ statuses.NoMemory)
