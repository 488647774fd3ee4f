-- What the structs of reserved names are accepted as. Source: the reserved names of MongoDB's crate bson, version 2, and the bodies of MongoDB's extended JSON.
-- The fields of such a struct are one list of keys and values: each field gives its key, and then its value, or the list of the fields of a struct that is its
-- value. A value with two forms is its compact one. Each kind takes one list of keys and values, in one order, a binary one of
-- two; for MinKey, MaxKey and Undefined the struct has one field, of any value.
use Rattle.std.specs.Prelude.{ℕ, ℤ, pos, ◌^◌, nat_lt, nat_eq, ◌||◌, List, [], ◌∷◌, length, if◌then◌else◌, Option, Some, None, option_map, option_and_then, codes}
use Rattle.std.specs.Str.{bytes_eq}
use Rattle.bson_kinds.specs.Outcome.{or_else}
use Rattle.bson_kinds.specs.Text.{Bytes, Utf8}
use Rattle.bson_base.specs.Parsed.{bytes_of_digits, integer_of_text, bytes_of_base64, subtype_of_text}
use Rattle.bson_base.specs.Tree as tree
use Rattle.bson_base.specs.Tree.{Tree}
use Rattle.bson_kinds.specs.declared.element_type.ElementType.{ElementType}
use Rattle.bson_kinds.specs.declared.element_type.ElementType.TheVariants.{Binary, Undefined, ObjectId, DateTime, RegularExpression, DbPointer, JavaScriptCode, Symbol, Timestamp, Decimal128, MaxKey, MinKey}
use Rattle.bson_values.specs.Value.{i64, u8, Value, integer, str, bytes, map, structure, raw_document, mode, FieldValues, no_field_values, field_value}

-- a part of the list: a key, or a value, with what this value is written as
pub data Part (S : Type 0) : Type 0 where
  a_key : Utf8 → Part S
  a_value : Value → S → Part S

infixl 10 ◌>>=◌
-- the second step on what the first gives, where it gives something
abbrev pub ◌>>=◌ : {A B : Type 0} → Option A → (A → Option B) → Option B
o >>= f = option_and_then f o

-- ---- the first part of a list, and the rest

-- this key
abbrev pub next_key : {S : Type 0} → Utf8 → List (Part S) → Option (List (Part S))
next_key name (a_key k ∷ rest) = if bytes_eq k name then Some rest else None
next_key name list = None

-- one of these keys
abbrev pub next_key_of : {S : Type 0} → Utf8 → Utf8 → List (Part S) → Option (List (Part S))
next_key_of name other (a_key k ∷ rest) = if bytes_eq k name || bytes_eq k other then Some rest else None
next_key_of name other list = None

-- a text
abbrev pub next_text : {S : Type 0} → List (Part S) → Option (Utf8 × List (Part S))
next_text (a_value (str t) s ∷ rest) = Some (t, rest)
next_text list = None

-- a byte string
abbrev pub next_bytes : {S : Type 0} → List (Part S) → Option (Bytes × List (Part S))
next_bytes (a_value (bytes b) s ∷ rest) = Some (b, rest)
next_bytes list = None

-- a number of `u8`
abbrev pub next_byte : {S : Type 0} → List (Part S) → Option (ℕ × List (Part S))
next_byte (a_value (integer u8 (pos n)) s ∷ rest) = Some (n, rest)
next_byte list = None

-- a number of `i64` that is one of 32 bits without a sign
abbrev pub next_unsigned : {S : Type 0} → List (Part S) → Option (ℕ × List (Part S))
next_unsigned (a_value (integer i64 (pos n)) s ∷ rest) = if nat_lt n (2 ^ 32) then Some (n, rest) else None
next_unsigned list = None

-- what a scope is given as, a map or a document in its bytes, as what it is written as
abbrev pub next_scope : {S : Type 0} → List (Part S) → Option (S × List (Part S))
next_scope (a_value (map es) s ∷ rest) = Some (s, rest)
next_scope (a_value (raw_document bs) s ∷ rest) = Some (s, rest)
next_scope list = None

-- the end of a list, which is accepted as this
abbrev pub end_as : {S A : Type 0} → A → List (Part S) → Option A
end_as a [] = Some a
end_as a (p ∷ rest) = None

-- ---- the list of each kind, and what it says

-- 24 hexadecimal digits
abbrev pub object_id_list : {S : Type 0} → List (Part S) → Option Bytes
object_id_list list = do
  value ← next_key (codes "$oid") list
  text ← next_text value
  id ← bytes_of_digits 12 text.0
  end_as id text.1

-- milliseconds
abbrev pub date_time_list : {S : Type 0} → List (Part S) → Option ℤ
date_time_list list = do
  body ← next_key (codes "$date") list
  value ← next_key (codes "$numberLong") body
  text ← next_text value
  milliseconds ← integer_of_text text.0
  end_as milliseconds text.1

-- a subtype and a text, which is to be base64 of bytes
abbrev pub base64_parts : {S : Type 0} → List (Part S) → Option (ℕ × Utf8)
base64_parts list = do
  text ← next_text list
  value ← next_key (codes "subType") text.1
  digits ← next_text value
  subtype ← subtype_of_text digits.0
  end_as (subtype, text.0) digits.1

-- a subtype and bytes, given as base64 and digits
abbrev pub base64_list : {S : Type 0} → List (Part S) → Option (ℕ × Bytes)
base64_list list = do
  given ← base64_parts list
  b ← bytes_of_base64 given.1
  Some (given.0, b)

-- a subtype and bytes, given as they are
abbrev pub bytes_list : {S : Type 0} → List (Part S) → Option (ℕ × Bytes)
bytes_list list = do
  b ← next_bytes list
  value ← next_key (codes "subType") b.1
  subtype ← next_byte value
  end_as (subtype.0, b.0) subtype.1

abbrev pub binary_list : {S : Type 0} → List (Part S) → Option (ℕ × Bytes)
binary_list list = do
  body ← next_key (codes "$binary") list
  value ← next_key_of (codes "base64") (codes "bytes") body
  or_else (base64_list value) (bytes_list value)

-- the subtype and the text of a binary whose bytes are given as base64, whether its text is base64 or not; none for another kind
abbrev pub base64_given : {S : Type 0} → ElementType → List (Part S) → Option (ℕ × Utf8)
base64_given Binary list = do
  body ← next_key (codes "$binary") list
  value ← next_key_of (codes "base64") (codes "bytes") body
  base64_parts value
base64_given kind list = None

-- a time and an increment
abbrev pub timestamp_list : {S : Type 0} → List (Part S) → Option (ℕ × ℕ)
timestamp_list list = do
  body ← next_key (codes "$timestamp") list
  first ← next_key (codes "t") body
  time ← next_unsigned first
  second ← next_key (codes "i") time.1
  increment ← next_unsigned second
  end_as (time.0, increment.0) increment.1

-- a text under this key
abbrev pub text_list : {S : Type 0} → Utf8 → List (Part S) → Option Utf8
text_list name list = do
  value ← next_key name list
  text ← next_text value
  end_as text.0 text.1

-- a pattern and options
abbrev pub regular_expression_list : {S : Type 0} → List (Part S) → Option (Utf8 × Utf8)
regular_expression_list list = do
  body ← next_key (codes "$regularExpression") list
  first ← next_key (codes "pattern") body
  pattern ← next_text first
  second ← next_key (codes "options") pattern.1
  options ← next_text second
  end_as (pattern.0, options.0) options.1

-- a namespace and an id
abbrev pub db_pointer_list : {S : Type 0} → List (Part S) → Option (Utf8 × Bytes)
db_pointer_list list = do
  body ← next_key (codes "$dbPointer") list
  first ← next_key (codes "$ref") body
  namespace ← next_text first
  second ← next_key (codes "$id") namespace.1
  value ← next_key (codes "$oid") second
  text ← next_text value
  id ← bytes_of_digits 12 text.0
  end_as (namespace.0, id) text.1

-- bytes that are sixteen
abbrev pub sixteen : Bytes → Option Bytes
sixteen b = if nat_eq (length b) 16 then Some b else None

abbrev pub decimal128_list : {S : Type 0} → List (Part S) → Option Bytes
decimal128_list list = do
  value ← next_key_of (codes "$numberDecimal") (codes "$numberDecimalBytes") list
  b ← next_bytes value
  bits ← sixteen b.0
  end_as bits b.1

-- code, and what its scope is written as
abbrev pub scoped_code : {S : Type 0} → List (Part S) → Option (Utf8 × S)
scoped_code list = do
  first ← next_key (codes "$code") list
  text ← next_text first
  second ← next_key (codes "$scope") text.1
  scope ← next_scope second
  end_as (text.0, scope.0) scope.1

-- one field of this name, whose value is not looked at
abbrev pub lone_field : Utf8 → FieldValues → Option (Unit {0})
lone_field name (field_value key v no_field_values) = if bytes_eq key name then Some tt else None
lone_field name fs = None

-- ---- the list of the fields of a struct

abbrev mutual
  -- before what follows; here each value is with itself
  pub listed : FieldValues → List (Part Value) → List (Part Value)
  listed no_field_values rest = rest
  listed (field_value name v fs) rest = a_key name ∷ listed_part v (listed fs rest)

  pub listed_part : Value → List (Part Value) → List (Part Value)
  listed_part (structure name fs) rest = listed fs rest
  listed_part (mode readable compact) rest = listed_part compact rest
  listed_part v rest = a_value v v ∷ rest

-- what the list of keys and values of a struct whose name is reserved for a kind is accepted as; nothing for a kind that takes no list, and for code with a scope,
-- whose scope is yet to be written
abbrev pub unwrap_list : ElementType → List (Part Value) → Option Tree
unwrap_list ObjectId list = option_map tree.object_id (object_id_list list)
unwrap_list DateTime list = option_map tree.date_time (date_time_list list)
unwrap_list Binary list = option_map (λ p. tree.binary p.0 p.1) (binary_list list)
unwrap_list Timestamp list = option_map (λ p. tree.timestamp p.0 p.1) (timestamp_list list)
unwrap_list JavaScriptCode list = option_map tree.javascript_code (text_list (codes "$code") list)
unwrap_list Symbol list = option_map tree.symbol (text_list (codes "$symbol") list)
unwrap_list RegularExpression list = option_map (λ p. tree.regular_expression p.0 p.1) (regular_expression_list list)
unwrap_list DbPointer list = option_map (λ p. tree.db_pointer p.0 p.1) (db_pointer_list list)
unwrap_list Decimal128 list = option_map tree.decimal128 (decimal128_list list)
unwrap_list k list = None

-- what the fields of such a struct are accepted as; nothing for a kind that no name is reserved for
abbrev pub unwrap : ElementType → FieldValues → Option Tree
unwrap MinKey fs = option_map (λ x. tree.min_key) (lone_field (codes "$minKey") fs)
unwrap MaxKey fs = option_map (λ x. tree.max_key) (lone_field (codes "$maxKey") fs)
unwrap Undefined fs = option_map (λ x. tree.undefined) (lone_field (codes "$undefined") fs)
unwrap k fs = unwrap_list k (listed fs [])
