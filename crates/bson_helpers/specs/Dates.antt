-- The texts of times that are written or read. Source: RFC 3339, section 5.6; a time outside the years 0 to 9999 has none.
use Rattle.std.specs.Prelude.{◌≡◌, ℤ, ◌⊎◌, Result, Ok, Err, String, string_bytes}
use Rattle.std.specs.Global.{Global}
use Rattle.bson_dates.specs.DatePrinted.{HasYear, IsDateText}
use Rattle.bson_values.specs.Cause.{no_rfc3339}
use Rattle.bson_values.specs.ErrorView.{read_failure, write_failure}
use Rattle.bson_values.specs.Refusal.{Failure, no_memory}
use Rattle.bson_values.specs.Value.{Value, str}
use Rattle.bson_datum.specs.View.{view}
use Rattle.bson_datum.specs.declared.datum.Datum.{Datum}
use Rattle.bson_values.specs.declared.de.Error.{Error as ReadError}
use Rattle.bson_values.specs.declared.ser.Error.{Error as WriteError}
use Rattle.bson_type_data.specs.Answers.{Reading}
use Rattle.bson_helpers.specs.Helpers.{no_reading, no_writing}

-- the value is the text of the time
abbrev pub IsTextOf : ℤ → Value → Type 0
IsTextOf n (str text) = IsDateText n text
IsTextOf n v = ⊥

-- a time has no text, or memory ran out
abbrev pub HasNoText : {F : Type 0} → ℤ → (refused failed : Failure F) → Type 0
HasNoText n refused failed = (failed ≡ no_memory) ⊎ ((failed ≡ refused) × (HasYear n → ⊥))

-- the text of a time is written
abbrev pub WritesTime : ℤ → Result Datum WriteError → Type 0
WritesTime n (Ok d) = IsTextOf n (view d)
WritesTime n (Err e) = HasNoText n (no_writing (no_rfc3339 n)) (write_failure e)

-- what is read as a time gives its text
abbrev pub ReadsTime : Reading ℤ → Result (String Global) ReadError → Type 0
ReadsTime (Ok n) (Ok text) = IsDateText n (string_bytes text)
ReadsTime (Ok n) (Err e) = HasNoText n (no_reading (no_rfc3339 n)) (read_failure e)
ReadsTime (Err f) (Ok text) = ⊥
ReadsTime (Err f) (Err e) = (read_failure e ≡ no_memory) ⊎ (read_failure e ≡ f)
