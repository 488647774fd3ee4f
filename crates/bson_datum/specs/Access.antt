-- What is asked of a value: its field, the value at a key, its text, truth value, number, bytes and items. Source: serde's data model.
use Rattle.std.specs.Prelude.{ℤ, Bool, false, if◌then◌else◌, Option, Some, None}
use Rattle.std.specs.Str.{bytes_eq}
use Rattle.bson_kinds.specs.Text.{Bytes, Utf8}
use Rattle.bson_values.specs.Value.{Value, boolean, double, integer, i64, in_range, str, bytes, sequence, tuple, tuple_structure, tuple_variant, map, structure, structure_variant, Items, Entries, no_entries, entry, FieldValues, no_field_values, field_value}

-- the value of the first field of a name
abbrev pub field_named : (name : Utf8) → FieldValues → Option Value
field_named name no_field_values = None
field_named name (field_value n v fs) = if bytes_eq name n then Some v else field_named name fs

-- the value of a field of a struct, or of a variant with fields
abbrev pub field : (name : Utf8) → Value → Option Value
field name (structure s fs) = field_named name fs
field name (structure_variant s fs) = field_named name fs
field name v = None

-- a key is this text
abbrev pub is_text : Utf8 → Value → Bool
is_text key (str t) = bytes_eq key t
is_text key v = false

-- the value of the first entry whose key is a text
abbrev pub value_at : (key : Utf8) → Entries → Option Value
value_at key no_entries = None
value_at key (entry k v es) = if is_text key k then Some v else value_at key es

-- the value at a key of a map
abbrev pub get : (key : Utf8) → Value → Option Value
get key (map es) = value_at key es
get key v = None

-- a text
abbrev pub as_str : Value → Option Utf8
as_str (str t) = Some t
as_str v = None

-- a truth value
abbrev pub as_bool : Value → Option Bool
as_bool (boolean b) = Some b
as_bool v = None

-- a floating point number, by its eight bytes
abbrev pub as_double : Value → Option Bytes
as_double (double bs) = Some bs
as_double v = None

-- an integer of any type, where an i64 holds it
abbrev pub as_i64 : Value → Option ℤ
as_i64 (integer type n) = if in_range i64 n then Some n else None
as_i64 v = None

-- a byte string
abbrev pub as_bytes : Value → Option Bytes
as_bytes (bytes bs) = Some bs
as_bytes v = None

-- the items of a sequence, or of a tuple of any form
abbrev pub as_seq : Value → Option Items
as_seq (sequence is) = Some is
as_seq (tuple is) = Some is
as_seq (tuple_structure name is) = Some is
as_seq (tuple_variant variant is) = Some is
as_seq v = None
