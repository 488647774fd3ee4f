-- What contracts see of a datum: the value that it stands for. Source: serde's data model.
use Rattle.std.specs.Prelude.{pos, List, [], ◌∷◌}
use Rattle.bson_kinds.specs.Text.{Utf8}
use Rattle.bson_values.specs.TextView.{text_view}
use Rattle.bson_values.specs.ByteStrView.{bytes_view}
use Rattle.bson_datum.specs.RawView.{raw_document_view, raw_array_view}
use Rattle.bson_values.specs.Value.{Value, boolean, integer, i8, i16, i32, i64, u8, u16, u32, u64, double, character, str, bytes, none, some, unit, unit_structure, unit_variant, newtype, newtype_variant, sequence, tuple, tuple_structure, tuple_variant, map, structure, structure_variant, raw_document, raw_array, mode, Items, no_items, item, Entries, no_entries, entry, FieldValues, no_field_values, field_value}
use Rattle.bson_datum.specs.declared.datum.Entry.{Entry}
use Rattle.bson_datum.specs.declared.datum.Field.{Field}
use Rattle.bson_datum.specs.declared.datum.Datum as datum
use Rattle.bson_datum.specs.declared.datum.Datum.{Datum, Bool, I8, I16, I32, I64, U8, U16, U32, U64, Double, Char, Str, Bytes, UnitStruct, UnitVariant, NewtypeStruct', NewtypeVariant', Seq', Tuple', TupleStruct', TupleVariant', Map', Struct', StructVariant', RawDocument, RawArray, Mode', Row_of-Datum, end_of-Datum, more_of-Datum, Row_of-Entry, end_of-Entry, more_of-Entry, Row_of-Field, end_of-Field, more_of-Field}

abbrev mutual
  pub view : Datum → Value
  view (Bool b) = boolean b
  view (I8 n) = integer i8 n
  view (I16 n) = integer i16 n
  view (I32 n) = integer i32 n
  view (I64 n) = integer i64 n
  view (U8 n) = integer u8 (pos n)
  view (U16 n) = integer u16 (pos n)
  view (U32 n) = integer u32 (pos n)
  view (U64 n) = integer u64 (pos n)
  view (Double d) = double d.0
  view (Char c) = character c
  view (Str t) = str (text_view t)
  view (Bytes b) = bytes (bytes_view b)
  view datum.None = none
  view (datum.Some' p d) = some (view d)
  view datum.Unit = unit
  view (UnitStruct name) = unit_structure (text_view name)
  view (UnitVariant variant) = unit_variant (text_view variant)
  view (NewtypeStruct' name p d) = newtype (text_view name) (view d)
  view (NewtypeVariant' variant p d) = newtype_variant (text_view variant) (view d)
  view (Seq' shape rows) = sequence (item_rows_view rows)
  view (Tuple' shape rows) = tuple (item_rows_view rows)
  view (TupleStruct' name shape rows) = tuple_structure (text_view name) (item_rows_view rows)
  view (TupleVariant' variant shape rows) = tuple_variant (text_view variant) (item_rows_view rows)
  view (Map' shape rows) = map (entry_rows_view rows)
  view (Struct' name shape rows) = structure (text_view name) (rows_view rows)
  view (StructVariant' variant shape rows) = structure_variant (text_view variant) (rows_view rows)
  view (RawDocument d) = raw_document (raw_document_view d)
  view (RawArray a) = raw_array (raw_array_view a)
  view (Mode' p r q c) = mode (view r) (view c)

  pub item_rows_view : {m : _} → Row_of-Datum m → Items
  item_rows_view end_of-Datum = no_items
  item_rows_view (more_of-Datum d rest) = item (view d) (item_rows_view rest)

  pub entry_rows_view : {m : _} → Row_of-Entry m → Entries
  entry_rows_view end_of-Entry = no_entries
  entry_rows_view (more_of-Entry k v rest) = entry (view k) (view v) (entry_rows_view rest)

  pub rows_view : {m : _} → Row_of-Field m → FieldValues
  rows_view end_of-Field = no_field_values
  rows_view (more_of-Field name v rest) = field_value (text_view name) (view v) (rows_view rest)

-- the same for the data of a `Vec` or a slice
abbrev pub items_view : List Datum → Items
items_view [] = no_items
items_view (d ∷ ds) = item (view d) (items_view ds)

-- the same for the entries of a `Vec` or a slice
abbrev pub entries_view : List Entry → Entries
entries_view [] = no_entries
entries_view (e ∷ es) = entry (view e.key) (view e.value) (entries_view es)

-- the same for the fields of a `Vec` or a slice
abbrev pub fields_view : List Field → FieldValues
fields_view [] = no_field_values
fields_view (f ∷ fs) = field_value (text_view f.name) (view f.value) (fields_view fs)

-- an entry: its key and its value
abbrev pub entry_view : Entry → Value × Value
entry_view e = (view e.key, view e.value)

-- a field: its name and its value
abbrev pub field_view : Field → Utf8 × Value
field_view f = (text_view f.name, view f.value)
