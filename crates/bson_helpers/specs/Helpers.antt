-- The helpers, each as its partial map. Source: MongoDB's crate bson, version 2, `serde_helpers`.
use Rattle.std.specs.Prelude.{◌≡◌, ℕ, ℤ, pos, nat_eq, nat_lt, if◌then◌else◌, Option, Some, None, Result, Ok, Err}
use Rattle.bson_base.specs.Made.{digits}
use Rattle.bson_kinds.specs.Outcome.{◌>>=◌, result_map}
use Rattle.bson_base.specs.Parsed.{bytes_of_digits}
use Rattle.bson_kinds.specs.Text.{Bytes, Utf8}
use Rattle.bson_dates.specs.DateText.{date_of_text}
use Rattle.bson_values.specs.Cause.{Cause, not_i32, not_i64, increment, not_date, not_object_id}
use Rattle.bson_values.specs.ErrorView.{write_failure}
use Rattle.bson_values.specs.Refusal.{Failure, ReadFault, WriteFault, bare, unreadable, unwritable}
use Rattle.bson_values.specs.Value.{Value, integer, i32, i64, u32, str}
use Rattle.bson_values.specs.declared.ser.Error.{Error as WriteError}
use Rattle.bson_type_data.specs.Answers.{Reading, Writing}
use Rattle.bson_type_data.specs.Extended.{date_datum, id_datum, stamp_datum, taken_id, taken_stamp}
use Rattle.bson_type_data.specs.Scalars.{taken_text, taken_u32}

-- A call that takes no memory answers this.
abbrev pub Answers : {X Y : Type 0} → (X → Y) → Result X WriteError → Writing Y → Type 0
Answers see (Ok x) answer = answer ≡ Ok (see x)
Answers see (Err e) answer = answer ≡ Err (write_failure e)

-- the failure for a cause, without a path: of reading, and of writing
abbrev pub no_reading : Cause → Failure ReadFault
no_reading cause = bare (unreadable cause)

abbrev pub no_writing : Cause → Failure WriteFault
no_writing cause = bare (unwritable cause)

-- ---- numbers without a sign, as numbers with one

abbrev pub number_as_i32 : ℕ → Writing Value
number_as_i32 n = if nat_lt 2147483647 n then Err (no_writing (not_i32 n)) else Ok (integer i32 (pos n))

abbrev pub number_as_i64 : ℕ → Writing Value
number_as_i64 n = if nat_lt 9223372036854775807 n then Err (no_writing (not_i64 n)) else Ok (integer i64 (pos n))

-- ---- ObjectIds and their texts

abbrev pub id_as_text : Bytes → Writing Value
id_as_text id = Ok (str (digits id))

-- The ObjectId of a text, as it is written; `NotObjectId` where the text is none.
abbrev pub id_of : Utf8 → Option Bytes → Writing Value
id_of text None = Err (no_writing (not_object_id text))
id_of text (Some id) = Ok (id_datum id)

abbrev pub text_as_id : Utf8 → Writing Value
text_as_id text = id_of text (bytes_of_digits 12 text)

abbrev pub text_of_id : Value → Reading Utf8
text_of_id v = result_map digits (taken_id v)

-- ---- times and their texts

-- The time of a text, as it is written; `NotDate` where the text is none.
abbrev pub date_of : Utf8 → Option ℤ → Writing Value
date_of text None = Err (no_writing (not_date text))
date_of text (Some n) = Ok (date_datum n)

abbrev pub text_as_date : Utf8 → Writing Value
text_as_date text = date_of text (date_of_text text)

-- the time of a text, or `NotDate`
abbrev pub date_read : Utf8 → Option ℤ → Reading ℤ
date_read text None = Err (no_reading (not_date text))
date_read text (Some n) = Ok n

abbrev pub date_in_text : Value → Reading ℤ
date_in_text v = taken_text v >>= λ text. date_read text (date_of_text text)

-- ---- times in seconds

abbrev pub seconds_as_stamp : ℕ → Writing Value
seconds_as_stamp n = Ok (stamp_datum (pos n, pos 0))

abbrev pub seconds_of_stamp : Value → Reading ℤ
seconds_of_stamp v = result_map (λ stamp. stamp.0) (taken_stamp v)

abbrev pub stamp_as_seconds : (time : ℕ) → (more : ℕ) → Writing Value
stamp_as_seconds time more = if nat_eq more 0 then Ok (integer u32 (pos time)) else Err (no_writing increment)

abbrev pub stamp_of_seconds : Value → Reading (ℕ × ℕ)
stamp_of_seconds v = result_map (λ n. (n, 0)) (taken_u32 v)
