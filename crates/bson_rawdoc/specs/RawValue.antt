-- The value of an element in its bytes, or its first fault. Source: bsonspec.org, version 1.1, `element`.
use Rattle.std.specs.Prelude.{ℕ, ◌+◌, ◌-◌, ℤ, pos, negsuc, Bool, true, false, ◌||◌, length, take, drop, get_or, eqb, nat_lt, if◌then◌else◌, Option, Some, None, Result, Ok, Err}
use Rattle.std.specs.Ordering.{int_eq}
use Rattle.std.specs.Str.{is_utf8}
use Rattle.bson_kinds.specs.Text.{Bytes, Utf8}
use Rattle.bson_kinds.specs.Outcome.{◌>>=◌, result_map}
use Rattle.bson_kinds.specs.declared.element_type.ElementType.TheVariants as kinds
use Rattle.bson_kinds.specs.declared.element_type.ElementType.{ElementType}
use Rattle.bson_rawdoc.specs.Envelope.{is_closed, inside}
use Rattle.bson_rawdoc.specs.Extent.{two_texts_in}
use Rattle.bson_rawdoc.specs.Numbers.{uint32_in, int32_in, int64_in}
use Rattle.bson_faults.specs.declared.raw.Error.{Error}
use Rattle.bson_faults.specs.declared.raw.Error.TheVariants.{BadExtent, NotUtf8, BadBoolean, TextUnclosed, InnerLength, ScopeTotal, ValueUnclosed}

-- a value, whose documents, arrays and scopes stay bytes until they are walked
pub data RawValue : Type 0 where
  double : Bytes → RawValue
  string : Utf8 → RawValue
  document : Bytes → RawValue
  array : Bytes → RawValue
  binary : (subtype : ℕ) → (bytes : Bytes) → RawValue
  undefined : RawValue
  object_id : Bytes → RawValue
  boolean : Bool → RawValue
  date_time : (milliseconds : ℤ) → RawValue
  null : RawValue
  regular_expression : (pattern : Utf8) → (options : Utf8) → RawValue
  db_pointer : (namespace : Utf8) → (id : Bytes) → RawValue
  javascript_code : Utf8 → RawValue
  symbol : Utf8 → RawValue
  javascript_code_with_scope : (code : Utf8) → (scope : Bytes) → RawValue
  int32 : ℤ → RawValue
  timestamp : (time : ℕ) → (increment : ℕ) → RawValue
  int64 : ℤ → RawValue
  decimal128 : Bytes → RawValue
  max_key : RawValue
  min_key : RawValue

abbrev pub kind_of : RawValue → ElementType
kind_of (double bytes) = kinds.Double
kind_of (string t) = kinds.String
kind_of (document bytes) = kinds.EmbeddedDocument
kind_of (array bytes) = kinds.Array
kind_of (binary subtype bytes) = kinds.Binary
kind_of undefined = kinds.Undefined
kind_of (object_id id) = kinds.ObjectId
kind_of (boolean b) = kinds.Boolean
kind_of (date_time n) = kinds.DateTime
kind_of null = kinds.Null
kind_of (regular_expression pattern options) = kinds.RegularExpression
kind_of (db_pointer namespace id) = kinds.DbPointer
kind_of (javascript_code t) = kinds.JavaScriptCode
kind_of (symbol t) = kinds.Symbol
kind_of (javascript_code_with_scope code scope) = kinds.JavaScriptCodeWithScope
kind_of (int32 n) = kinds.Int32
kind_of (timestamp time increment) = kinds.Timestamp
kind_of (int64 n) = kinds.Int64
kind_of (decimal128 bytes) = kinds.Decimal128
kind_of max_key = kinds.MaxKey
kind_of min_key = kinds.MinKey

-- bytes that are a text
abbrev pub utf8_in : Bytes → Result Utf8 Error
utf8_in bytes = if is_utf8 bytes then Ok bytes else Err NotUtf8

-- a text, between its length and the zero behind it
abbrev pub text_in : Bytes → Result Utf8 Error
text_in bytes = if is_closed bytes then utf8_in (inside bytes) else Err TextUnclosed

-- a document or an array, whose last byte is a zero
abbrev pub closed_in : Bytes → Result Bytes Error
closed_in bytes = if is_closed bytes then Ok bytes else Err ValueUnclosed

abbrev pub boolean_of : ℕ → Result Bool Error
boolean_of b = if eqb b 0 then Ok false else if eqb b 1 then Ok true else Err (BadBoolean b)

-- the bytes of the old subtype 2: a second length is before them, which the first one counts too
abbrev pub old_binary_in : Bytes → Result Bytes Error
old_binary_in counted =
    if nat_lt (length counted) 4 then Err InnerLength
    else if int_eq (int32_in counted) (pos (length (drop 4 counted))) then Ok (drop 4 counted)
    else Err InnerLength

-- the bytes of a binary of this subtype, behind its subtype
abbrev pub bytes_of_subtype : ℕ → Bytes → Result Bytes Error
bytes_of_subtype subtype counted = if eqb subtype 2 then old_binary_in counted else Ok counted

-- a binary: its length, its subtype, and then its bytes
abbrev pub binary_in : Bytes → Result (ℕ × Bytes) Error
binary_in bytes = result_map (λ b. (get_or bytes 4 0, b)) (bytes_of_subtype (get_or bytes 4 0) (drop 5 bytes))

-- a pattern and its options (a regular expression that has its extent has both)
abbrev pub regex_of : Option (Bytes × Bytes) → Result (Utf8 × Utf8) Error
regex_of None = Err BadExtent
regex_of (Some texts) = utf8_in texts.0 >>= λ pattern. result_map (λ options. (pattern, options)) (utf8_in texts.1)

-- a text, and the twelve bytes of an ObjectId behind it
abbrev pub db_pointer_in : Bytes → Result (Utf8 × Bytes) Error
db_pointer_in bytes = result_map (λ namespace. (namespace, drop (length bytes - 12) bytes)) (text_in (take (length bytes - 12) bytes))

abbrev pub code_and_scope : Bytes → Bytes → Result (Utf8 × Bytes) Error
code_and_scope text scope = text_in text >>= λ code. result_map (λ scope. (code, scope)) (closed_in scope)

-- A code whose length is announced as this, and the scope behind it, each with all of its bytes. The length counts the zero behind the code, and leaves the
-- scope five bytes at least; the scope announces all the bytes that are left.
abbrev pub scoped_parts : ℤ → Bytes → Result (Bytes × Bytes) Error
scoped_parts (negsuc n) bytes = Err ScopeTotal
scoped_parts (pos n) bytes =
    if nat_lt n 1 || nat_lt (length bytes) (n + 4 + 5) then Err ScopeTotal
    else if int_eq (int32_in (drop (n + 4) bytes)) (pos (length (drop (n + 4) bytes))) then Ok (take (n + 4) bytes, drop (n + 4) bytes)
    else Err ScopeTotal

abbrev pub scoped_code : ℤ → Bytes → Result (Utf8 × Bytes) Error
scoped_code n bytes = scoped_parts n bytes >>= λ p. code_and_scope p.0 p.1

-- behind the total length a text, and then a document
abbrev pub scoped_code_in : Bytes → Result (Utf8 × Bytes) Error
scoped_code_in bytes = scoped_code (int32_in (drop 4 bytes)) (drop 4 bytes)

-- the value of the kind that has these bytes, which are as many as its extent
abbrev pub value_in : ElementType → Bytes → Result RawValue Error
value_in kinds.Double bytes = Ok (double bytes)
value_in kinds.String bytes = result_map string (text_in bytes)
value_in kinds.EmbeddedDocument bytes = result_map document (closed_in bytes)
value_in kinds.Array bytes = result_map array (closed_in bytes)
value_in kinds.Binary bytes = result_map (λ b. binary b.0 b.1) (binary_in bytes)
value_in kinds.Undefined bytes = Ok undefined
value_in kinds.ObjectId bytes = Ok (object_id bytes)
value_in kinds.Boolean bytes = result_map boolean (boolean_of (get_or bytes 0 0))
value_in kinds.DateTime bytes = Ok (date_time (int64_in bytes))
value_in kinds.Null bytes = Ok null
value_in kinds.RegularExpression bytes = result_map (λ r. regular_expression r.0 r.1) (regex_of (two_texts_in bytes))
value_in kinds.DbPointer bytes = result_map (λ p. db_pointer p.0 p.1) (db_pointer_in bytes)
value_in kinds.JavaScriptCode bytes = result_map javascript_code (text_in bytes)
value_in kinds.Symbol bytes = result_map symbol (text_in bytes)
value_in kinds.JavaScriptCodeWithScope bytes = result_map (λ c. javascript_code_with_scope c.0 c.1) (scoped_code_in bytes)
value_in kinds.Int32 bytes = Ok (int32 (int32_in bytes))
value_in kinds.Timestamp bytes = Ok (timestamp (uint32_in (drop 4 bytes)) (uint32_in bytes))
value_in kinds.Int64 bytes = Ok (int64 (int64_in bytes))
value_in kinds.Decimal128 bytes = Ok (decimal128 bytes)
value_in kinds.MaxKey bytes = Ok max_key
value_in kinds.MinKey bytes = Ok min_key
