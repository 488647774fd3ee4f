-- Whether two values, or two paths, are equal: part by part, texts and byte strings by their contents. Source: serde's data model.
use Rattle.std.specs.Prelude.{ℕ, Bool, true, false, ◌&&◌, nat_eq}
use Rattle.std.specs.Bool.{beq}
use Rattle.std.specs.Ordering.{int_eq}
use Rattle.std.specs.Str.{bytes_eq}
use Rattle.std.specs.Cmp.Lexicographic.{pointwise}
use Rattle.bson_kinds.specs.Text.{Utf8}
use Rattle.bson_values.specs.Value.{IntegerType, i8, i16, i32, i64, u8, u16, u32, u64, Value, boolean, integer, double, character, str, bytes, none, some, unit, unit_structure, unit_variant, newtype, newtype_variant, sequence, tuple, tuple_structure, tuple_variant, map, structure, structure_variant, raw_document, raw_array, mode, Items, no_items, item, Entries, no_entries, entry, FieldValues, no_field_values, field_value}
use Rattle.bson_values.specs.Refusal.{Segment, Path, at_key, at_index}

-- the number of an integer type
abbrev pub type_number : IntegerType → ℕ
type_number i8 = 0
type_number i16 = 1
type_number i32 = 2
type_number i64 = 3
type_number u8 = 4
type_number u16 = 5
type_number u32 = 6
type_number u64 = 7

-- both are one type
abbrev pub same_type : IntegerType → IntegerType → Bool
same_type type other = nat_eq (type_number type) (type_number other)

abbrev mutual
  -- two values are of one form, and their parts are equal
  pub same : Value → Value → Bool
  same (boolean a) (boolean b) = beq a b
  same (integer type m) (integer other n) = same_type type other && int_eq m n
  same (double a) (double b) = bytes_eq a b
  same (character a) (character b) = nat_eq a b
  same (str t) (str u) = bytes_eq t u
  same (bytes a) (bytes b) = bytes_eq a b
  same none none = true
  same (some v) (some w) = same v w
  same unit unit = true
  same (unit_structure name) (unit_structure n) = bytes_eq name n
  same (unit_variant variant) (unit_variant n) = bytes_eq variant n
  same (newtype name v) (newtype n w) = bytes_eq name n && same v w
  same (newtype_variant variant v) (newtype_variant n w) = bytes_eq variant n && same v w
  same (sequence is) (sequence js) = same_items is js
  same (tuple is) (tuple js) = same_items is js
  same (tuple_structure name is) (tuple_structure n js) = bytes_eq name n && same_items is js
  same (tuple_variant variant is) (tuple_variant n js) = bytes_eq variant n && same_items is js
  same (map es) (map ds) = same_entries es ds
  same (structure name fs) (structure n gs) = bytes_eq name n && same_fields fs gs
  same (structure_variant variant fs) (structure_variant n gs) = bytes_eq variant n && same_fields fs gs
  same (raw_document a) (raw_document b) = bytes_eq a b
  same (raw_array a) (raw_array b) = bytes_eq a b
  same (mode r c) (mode s d) = same r s && same c d
  same v w = false

  -- there are as many values, and each is that of the other
  pub same_items : Items → Items → Bool
  same_items no_items no_items = true
  same_items (item v is) (item w js) = same v w && same_items is js
  same_items is js = false

  -- there are as many entries, and each has the key and the value of the other
  pub same_entries : Entries → Entries → Bool
  same_entries no_entries no_entries = true
  same_entries (entry k v es) (entry l w ds) = (same k l && same v w) && same_entries es ds
  same_entries es ds = false

  -- there are as many fields, and each has the name and the value of the other
  pub same_fields : FieldValues → FieldValues → Bool
  same_fields no_field_values no_field_values = true
  same_fields (field_value name v fs) (field_value n w gs) = (bytes_eq name n && same v w) && same_fields fs gs
  same_fields fs gs = false

-- an entry has the key and the value of the other
abbrev pub same_entry : Value × Value → Value × Value → Bool
same_entry d e = same d.0 e.0 && same d.1 e.1

-- a field has the name and the value of the other
abbrev pub same_field : Utf8 × Value → Utf8 × Value → Bool
same_field f g = bytes_eq f.0 g.0 && same f.1 g.1

-- both are one key, or one index
abbrev pub same_segment : Segment → Segment → Bool
same_segment (at_key key) (at_key k) = bytes_eq key k
same_segment (at_index i) (at_index j) = nat_eq i j
same_segment s t = false

-- there are as many segments, and each is that of the other
abbrev pub same_path : Path → Path → Bool
same_path = pointwise same_segment
