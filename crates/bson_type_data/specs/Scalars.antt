-- What a value gives at the types without parts. Source: serde's data model.
use Rattle.std.specs.Prelude.{ℕ, ℤ, pos, Bool, if◌then◌else◌, Ok, Err}
use Rattle.bson_kinds.specs.Outcome.{◌>>=◌}
use Rattle.bson_kinds.specs.Text.{Bytes, Utf8}
use Rattle.bson_values.specs.Same.{same_type}
use Rattle.bson_values.specs.Value.{IntegerType, Value, boolean, integer, i8, i16, i32, i64, u8, u16, u32, u64, double, character, str, unit}
use Rattle.bson_type_data.specs.Answers.{Reading, not_fitting}

abbrev pub taken_bool : Value → Reading Bool
taken_bool (boolean b) = Ok b
taken_bool v = Err not_fitting

-- an integer of this type
abbrev pub taken_integer : IntegerType → Value → Reading ℤ
taken_integer type (integer t n) = if same_type t type then Ok n else Err not_fitting
taken_integer type v = Err not_fitting

abbrev pub taken_i8 : Value → Reading ℤ
taken_i8 v = taken_integer i8 v

abbrev pub taken_i16 : Value → Reading ℤ
taken_i16 v = taken_integer i16 v

abbrev pub taken_i32 : Value → Reading ℤ
taken_i32 v = taken_integer i32 v

abbrev pub taken_i64 : Value → Reading ℤ
taken_i64 v = taken_integer i64 v

-- a number without a sign
abbrev pub natural : ℤ → Reading ℕ
natural (pos n) = Ok n
natural n = Err not_fitting

abbrev pub taken_u8 : Value → Reading ℕ
taken_u8 v = taken_integer u8 v >>= natural

abbrev pub taken_u16 : Value → Reading ℕ
taken_u16 v = taken_integer u16 v >>= natural

abbrev pub taken_u32 : Value → Reading ℕ
taken_u32 v = taken_integer u32 v >>= natural

abbrev pub taken_u64 : Value → Reading ℕ
taken_u64 v = taken_integer u64 v >>= natural

abbrev pub taken_double : Value → Reading Bytes
taken_double (double bits) = Ok bits
taken_double v = Err not_fitting

abbrev pub taken_char : Value → Reading ℕ
taken_char (character c) = Ok c
taken_char v = Err not_fitting

abbrev pub taken_text : Value → Reading Utf8
taken_text (str t) = Ok t
taken_text v = Err not_fitting

abbrev pub taken_unit : Value → Reading (Unit {0})
taken_unit unit = Ok tt
taken_unit v = Err not_fitting
