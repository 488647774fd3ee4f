-- Extended values: each is written as the struct of its reserved name, and what is that struct gives the value again.
-- Source: the extended types of MongoDB's crate bson, version 2.
use Rattle.std.specs.Prelude.{ℕ, ℤ, nat_eq, length, if◌then◌else◌, Option, Some, None, option_map, option_and_then, Ok, Err, codes}
use Rattle.bson_kinds.specs.Outcome.{result_map}
use Rattle.bson_base.specs.Parsed.{bytes_of_base64, bytes_of_digits, integer_of_text, subtype_of_text}
use Rattle.bson_base.specs.Sorted.{sorted}
use Rattle.bson_kinds.specs.Text.{Bytes, Utf8}
use Rattle.bson_base.specs.Tree as tree
use Rattle.bson_datum.specs.Access.{field, as_str, as_i64, as_bytes}
use Rattle.bson_values.specs.Same.{same}
use Rattle.bson_values.specs.Value.{Value, bytes, integer, i64, u32, in_range, newtype, mode}
use Rattle.bson_laws.specs.Datum.{datum, uuid_datum, itself, wrapped, nameless, two}
use Rattle.bson_type_data.specs.Answers.{Reading, not_fitting}

-- contents that were found in a value, where the value is their datum
abbrev pub taken_where : {C : Type 0} → (datum_of : C → Value) → Value → Option C → Reading C
taken_where datum_of v None = Err not_fitting
taken_where datum_of v (Some c) = if same (datum_of c) v then Ok c else Err not_fitting

-- the contents whose datum a value is: those that are found in it, where it is their datum, and nothing else
abbrev pub taken_as : {C : Type 0} → (datum_of : C → Value) → (said : Value → Option C) → Value → Reading C
taken_as datum_of said v = taken_where datum_of v (said v)

-- ---- an ObjectId, by its bytes

abbrev pub id_datum : Bytes → Value
id_datum id = datum itself (tree.object_id id)

-- the bytes that the digits under `$oid` give
abbrev pub id_said : Value → Option Bytes
id_said v = option_and_then (bytes_of_digits 12) (option_and_then as_str (field (codes "$oid") v))

abbrev pub taken_id : Value → Reading Bytes
taken_id = taken_as id_datum id_said

-- ---- a time, by its milliseconds since the start of 1970

abbrev pub date_datum : ℤ → Value
date_datum n = datum itself (tree.date_time n)

-- the number that the text under `$numberLong` gives
abbrev pub date_said : Value → Option ℤ
date_said v = option_and_then integer_of_text (option_and_then as_str (option_and_then (field (codes "$numberLong")) (field (codes "$date") v)))

abbrev pub taken_date : Value → Reading ℤ
taken_date = taken_as date_datum date_said

-- ---- a time in seconds and an increment

-- a number of 32 bits without a sign
abbrev pub unsigned : ℤ → Option ℤ
unsigned n = if in_range u32 n then Some n else None

-- such a number under this key
abbrev pub unsigned_said : (key : Utf8) → Value → Option ℤ
unsigned_said key v = option_and_then unsigned (option_and_then as_i64 (field key v))

-- two values, where both are there
abbrev pub both : {A B : Type 0} → Option A → Option B → Option (A × B)
both a b = option_and_then (λ x. option_map (λ y. (x, y)) b) a

abbrev pub stamp_datum : ℤ × ℤ → Value
stamp_datum p = wrapped itself (codes "$timestamp") (nameless itself (two itself (codes "t") (integer i64 p.0) (codes "i") (integer i64 p.1)))

abbrev pub stamp_in : Value → Option (ℤ × ℤ)
stamp_in body = both (unsigned_said (codes "t") body) (unsigned_said (codes "i") body)

abbrev pub stamp_said : Value → Option (ℤ × ℤ)
stamp_said v = option_and_then stamp_in (field (codes "$timestamp") v)

abbrev pub taken_stamp : Value → Reading (ℤ × ℤ)
taken_stamp = taken_as stamp_datum stamp_said

-- ---- a decimal number, by its sixteen bytes

-- bytes, where they are so many
abbrev pub sized : ℕ → Bytes → Option Bytes
sized n b = if nat_eq (length b) n then Some b else None

abbrev pub decimal_datum : Bytes → Value
decimal_datum b = datum itself (tree.decimal128 b)

-- the sixteen bytes under `$numberDecimalBytes`
abbrev pub decimal_said : Value → Option Bytes
decimal_said v = option_and_then (sized 16) (option_and_then as_bytes (field (codes "$numberDecimalBytes") v))

abbrev pub taken_decimal : Value → Reading Bytes
taken_decimal = taken_as decimal_datum decimal_said

-- ---- a binary, by its subtype and its bytes

abbrev pub binary_datum : ℕ × Bytes → Value
binary_datum p = datum itself (tree.binary p.0 p.1)

-- the subtype that a field gives as digits
abbrev pub subtype_in : Value → Option ℕ
subtype_in body = option_and_then subtype_of_text (option_and_then as_str (field (codes "subType") body))

-- the bytes that a field gives in base64
abbrev pub base64_in : Value → Option Bytes
base64_in body = option_and_then bytes_of_base64 (option_and_then as_str (field (codes "base64") body))

abbrev pub binary_in : Value → Option (ℕ × Bytes)
binary_in body = both (subtype_in body) (base64_in body)

-- a byte string with subtype 0, or what is under `$binary`
abbrev pub binary_said : Value → Option (ℕ × Bytes)
binary_said (bytes b) = Some (0, b)
binary_said v = option_and_then binary_in (field (codes "$binary") v)

abbrev pub taken_binary : Value → Reading (ℕ × Bytes)
taken_binary = taken_as binary_datum binary_said

-- ---- a UUID, by its sixteen bytes

abbrev pub uuid_value : Bytes → Value
uuid_value b = uuid_datum itself b

-- the compact form of what a newtype holds
abbrev pub compact_in : Value → Option Value
compact_in (newtype name (mode r c)) = Some c
compact_in v = None

-- the sixteen bytes of the compact form
abbrev pub uuid_said : Value → Option Bytes
uuid_said v = option_and_then (sized 16) (option_and_then as_bytes (compact_in v))

abbrev pub taken_uuid : Value → Reading Bytes
taken_uuid = taken_as uuid_value uuid_said

-- ---- a reference to a document, by the namespace and the bytes of the id

abbrev pub pointer_datum : Utf8 × Bytes → Value
pointer_datum p = datum itself (tree.db_pointer p.0 p.1)

abbrev pub pointer_in : Value → Option (Utf8 × Bytes)
pointer_in body = both (option_and_then as_str (field (codes "$ref") body)) (option_and_then id_said (field (codes "$id") body))

abbrev pub pointer_said : Value → Option (Utf8 × Bytes)
pointer_said v = option_and_then pointer_in (field (codes "$dbPointer") v)

abbrev pub taken_pointer : Value → Reading (Utf8 × Bytes)
taken_pointer = taken_as pointer_datum pointer_said

-- ---- a regular expression, by its pattern and its options, which are put in order

abbrev pub regex_datum : Utf8 × Utf8 → Value
regex_datum p = datum itself (tree.regular_expression p.0 p.1)

abbrev pub regex_in : Value → Option (Utf8 × Utf8)
regex_in body = both (option_and_then as_str (field (codes "pattern") body)) (option_and_then as_str (field (codes "options") body))

abbrev pub regex_said : Value → Option (Utf8 × Utf8)
regex_said v = option_and_then regex_in (field (codes "$regularExpression") v)

abbrev pub with_sorted : Utf8 × Utf8 → Utf8 × Utf8
with_sorted p = (p.0, sorted p.1)

abbrev pub taken_regex : Value → Reading (Utf8 × Utf8)
taken_regex v = result_map with_sorted (taken_as regex_datum regex_said v)
