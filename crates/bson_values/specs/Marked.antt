-- Values whose texts and byte strings, and documents and arrays in their bytes, are marked: borrowed from the input, or owned. Source: serde's data model, borrowed and owned strings.
use Rattle.bson_kinds.specs.Piece.{Piece}
use Rattle.bson_values.specs.Value.{ValueOf, Value, ItemsOf, Items, EntriesOf, Entries, FieldsOf, FieldValues, boolean, integer, double, character, str, bytes, none, some, unit, unit_structure, unit_variant, newtype, newtype_variant, sequence, tuple, tuple_structure, tuple_variant, map, structure, structure_variant, raw_document, raw_array, mode, no_items, item, no_entries, entry, no_field_values, field_value}

-- a value that says of each text and byte string whether it is borrowed from the input or owned
abbrev pub Marked : Type 0
Marked = ValueOf Piece

abbrev pub MarkedItems : Type 0
MarkedItems = ItemsOf Piece

abbrev pub MarkedEntries : Type 0
MarkedEntries = EntriesOf Piece

abbrev pub MarkedFields : Type 0
MarkedFields = FieldsOf Piece

abbrev mutual
  -- the value without its marks
  pub contents : Marked → Value
  contents (boolean b) = boolean b
  contents (integer type n) = integer type n
  contents (double bits) = double bits
  contents (character c) = character c
  contents (str t) = str t.bytes
  contents (bytes b) = bytes b.bytes
  contents none = none
  contents (some v) = some (contents v)
  contents unit = unit
  contents (unit_structure name) = unit_structure name.bytes
  contents (unit_variant variant) = unit_variant variant.bytes
  contents (newtype name v) = newtype name.bytes (contents v)
  contents (newtype_variant variant v) = newtype_variant variant.bytes (contents v)
  contents (sequence vs) = sequence (item_contents vs)
  contents (tuple vs) = tuple (item_contents vs)
  contents (tuple_structure name vs) = tuple_structure name.bytes (item_contents vs)
  contents (tuple_variant variant vs) = tuple_variant variant.bytes (item_contents vs)
  contents (map es) = map (entry_contents es)
  contents (structure name fs) = structure name.bytes (field_contents fs)
  contents (structure_variant variant fs) = structure_variant variant.bytes (field_contents fs)
  contents (raw_document d) = raw_document d.bytes
  contents (raw_array a) = raw_array a.bytes
  contents (mode r c) = mode (contents r) (contents c)

  pub item_contents : MarkedItems → Items
  item_contents no_items = no_items
  item_contents (item v vs) = item (contents v) (item_contents vs)

  pub entry_contents : MarkedEntries → Entries
  entry_contents no_entries = no_entries
  entry_contents (entry k v es) = entry (contents k) (contents v) (entry_contents es)

  pub field_contents : MarkedFields → FieldValues
  field_contents no_field_values = no_field_values
  field_contents (field_value name v fs) = field_value name.bytes (contents v) (field_contents fs)
