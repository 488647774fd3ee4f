-- What contracts see of a datum with its marks. Source: serde's data model, borrowed and owned strings.
use Rattle.std.specs.Prelude.{pos}
use Rattle.bson_kinds.specs.Piece.{Piece}
use Rattle.bson_datum.specs.RawView.{raw_document_view, raw_array_view}
use Rattle.bson_values.specs.Pieces.{text_piece, bytes_piece}
use Rattle.bson_datum.specs.Borrowed.{raw_document_borrowed, raw_array_borrowed}
use Rattle.bson_values.specs.Value.{boolean, integer, i8, i16, i32, i64, u8, u16, u32, u64, double, character, str, bytes, none, some, unit, unit_structure, unit_variant, newtype, newtype_variant, sequence, tuple, tuple_structure, tuple_variant, map, structure, structure_variant, raw_document, raw_array, mode, no_items, item, no_entries, entry, no_field_values, field_value}
use Rattle.bson_values.specs.Marked.{Marked, MarkedItems, MarkedEntries, MarkedFields}
use Rattle.bson_datum.specs.declared.raw_doc.RawDoc as raw_doc
use Rattle.bson_datum.specs.declared.raw_arr.RawArr as raw_arr
use Rattle.bson_datum.specs.declared.datum.Datum as datum
use Rattle.bson_datum.specs.declared.datum.Datum.{Datum, Bool, I8, I16, I32, I64, U8, U16, U32, U64, Double, Char, Str, Bytes, UnitStruct, UnitVariant, NewtypeStruct', NewtypeVariant', Seq', Tuple', TupleStruct', TupleVariant', Map', Struct', StructVariant', RawDocument, RawArray, Mode', Row_of-Datum, end_of-Datum, more_of-Datum, Row_of-Entry, end_of-Entry, more_of-Entry, Row_of-Field, end_of-Field, more_of-Field}

abbrev pub raw_document_piece : raw_doc.RawDoc → Piece
raw_document_piece d = record { bytes = raw_document_view d; in_input = raw_document_borrowed d }

abbrev pub raw_array_piece : raw_arr.RawArr → Piece
raw_array_piece a = record { bytes = raw_array_view a; in_input = raw_array_borrowed a }

abbrev mutual
  pub marked : Datum → Marked
  marked (Bool b) = boolean b
  marked (I8 n) = integer i8 n
  marked (I16 n) = integer i16 n
  marked (I32 n) = integer i32 n
  marked (I64 n) = integer i64 n
  marked (U8 n) = integer u8 (pos n)
  marked (U16 n) = integer u16 (pos n)
  marked (U32 n) = integer u32 (pos n)
  marked (U64 n) = integer u64 (pos n)
  marked (Double d) = double d.0
  marked (Char c) = character c
  marked (Str t) = str (text_piece t)
  marked (Bytes b) = bytes (bytes_piece b)
  marked datum.None = none
  marked (datum.Some' p d) = some (marked d)
  marked datum.Unit = unit
  marked (UnitStruct name) = unit_structure (text_piece name)
  marked (UnitVariant variant) = unit_variant (text_piece variant)
  marked (NewtypeStruct' name p d) = newtype (text_piece name) (marked d)
  marked (NewtypeVariant' variant p d) = newtype_variant (text_piece variant) (marked d)
  marked (Seq' shape rows) = sequence (marked_items rows)
  marked (Tuple' shape rows) = tuple (marked_items rows)
  marked (TupleStruct' name shape rows) = tuple_structure (text_piece name) (marked_items rows)
  marked (TupleVariant' variant shape rows) = tuple_variant (text_piece variant) (marked_items rows)
  marked (Map' shape rows) = map (marked_entries rows)
  marked (Struct' name shape rows) = structure (text_piece name) (marked_fields rows)
  marked (StructVariant' variant shape rows) = structure_variant (text_piece variant) (marked_fields rows)
  marked (RawDocument d) = raw_document (raw_document_piece d)
  marked (RawArray a) = raw_array (raw_array_piece a)
  marked (Mode' p r q c) = mode (marked r) (marked c)

  pub marked_items : {m : _} → Row_of-Datum m → MarkedItems
  marked_items end_of-Datum = no_items
  marked_items (more_of-Datum d rest) = item (marked d) (marked_items rest)

  pub marked_entries : {m : _} → Row_of-Entry m → MarkedEntries
  marked_entries end_of-Entry = no_entries
  marked_entries (more_of-Entry k v rest) = entry (marked k) (marked v) (marked_entries rest)

  pub marked_fields : {m : _} → Row_of-Field m → MarkedFields
  marked_fields end_of-Field = no_field_values
  marked_fields (more_of-Field name v rest) = field_value (text_piece name) (marked v) (marked_fields rest)
