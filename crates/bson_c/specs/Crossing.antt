-- What crosses the border: the reports of the library, with a status as its number. Source: this library's own calls with buffers.
use Rattle.std.specs.Prelude.{◌≡◌, List}
use Rattle.bson_kinds.specs.Text.{Bytes}
use Rattle.bson_buffers.specs.Number.{number_of}
use Rattle.bson_buffers.specs.Buffers.{Call}
use Rattle.bson_buffers.specs.Lists.{Records}
use Rattle.bson_buffers.specs.declared.refusal.Refusal.{Refusal}
use Rattle.bson_buffers.specs.declared.report.Report as buffers
use Rattle.bson_buffers.specs.declared.report.MigrationReport as listing
use Rattle.bson_buffers.specs.declared.finding.Found.{Found}
use Rattle.bson_buffers.specs.declared.finding.Found.TheVariants as found
use Rattle.bson_buffers.specs.declared.status.Status.TheVariants.{Done, End, Broken}
use Rattle.bson_c.specs.declared.report.Report.{Report}
use Rattle.bson_c.specs.declared.report.MigrationReport.{MigrationReport}
use Rattle.bson_c.specs.declared.report.NextDocument.{NextDocument}

-- what a call did, by its report as it crossed and both buffers before and after
abbrev pub crossed_call : Report → (buffer_before buffer_after text_before text_after : Bytes) → Call
crossed_call a buffer_before buffer_after text_before text_after = record {
  place = a.place;
  written = a.written;
  needed = a.needed;
  text_written = a.text_written;
  text_needed = a.text_needed;
  buffer = record { before = buffer_before; after = buffer_after };
  text = record { before = text_before; after = text_after };
}

-- what a call did with the array for its records, by its report as it crossed
abbrev pub crossed_records : MigrationReport → (before after : List Refusal) → Records
crossed_records a before after = record { before = before; after = after; written = a.refusals_written; needed = a.refusals_needed }

-- The report as it crossed: the status is its number, and the other numbers are as they were.
pub record IsCrossed (report : buffers.Report) (crossed : Report) : Type 0 where
  pub status : crossed.status ≡ number_of report.status
  pub place : crossed.place ≡ report.place
  pub written : crossed.written ≡ report.written
  pub needed : crossed.needed ≡ report.needed
  pub text_written : crossed.text_written ≡ report.text_written
  pub text_needed : crossed.text_needed ≡ report.text_needed

-- The report of a migration as it crossed: the numbers on the records are as they were.
pub record IsCrossedMigration (migration : listing.MigrationReport) (crossed : MigrationReport) : Type 0 where
  pub report : IsCrossed migration.report crossed.report
  pub refusals_written : crossed.refusals_written ≡ migration.refusals_written
  pub refusals_needed : crossed.refusals_needed ≡ migration.refusals_needed

-- What was found as it crossed: a document with its length, or the end or a break with 0.
abbrev pub IsCrossedFound : Found → NextDocument → Type 0
IsCrossedFound (found.Document length) crossed = (crossed.status ≡ number_of Done) × (crossed.length ≡ length)
IsCrossedFound found.End crossed = (crossed.status ≡ number_of End) × (crossed.length ≡ 0)
IsCrossedFound found.Broken crossed = (crossed.status ≡ number_of Broken) × (crossed.length ≡ 0)
