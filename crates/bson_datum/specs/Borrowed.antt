-- Which parts of a datum are borrowed: its texts and byte strings, and its documents and arrays in their bytes, by the input or by a value that is written. Source: serde's data model, borrowed and owned strings.
use Rattle.std.specs.Prelude.{◌≡◌, Bool, true, false, List, [], ◌∷◌, ◌++◌}
use Rattle.std.specs.List.{flat_map, AllByRecursion}
use Rattle.bson_values.specs.Pieces.{text_borrowed, bytes_borrowed}
use Rattle.bson_datum.specs.declared.raw_doc.RawDoc as raw_doc
use Rattle.bson_datum.specs.declared.raw_doc.RawDoc.TheVariants as raw_docs
use Rattle.bson_datum.specs.declared.raw_arr.RawArr as raw_arr
use Rattle.bson_datum.specs.declared.raw_arr.RawArr.TheVariants as raw_arrs
use Rattle.bson_datum.specs.declared.datum.Entry.{Entry}
use Rattle.bson_datum.specs.declared.datum.Field.{Field}
use Rattle.bson_datum.specs.declared.datum.Datum as datum
use Rattle.bson_datum.specs.declared.datum.Datum.{Datum, Str, Bytes, UnitStruct, UnitVariant, NewtypeStruct', NewtypeVariant', Seq', Tuple', TupleStruct', TupleVariant', Map', Struct', StructVariant', RawDocument, RawArray, Mode', Row_of-Datum, end_of-Datum, more_of-Datum, Row_of-Entry, end_of-Entry, more_of-Entry, Row_of-Field, end_of-Field, more_of-Field}

abbrev pub raw_document_borrowed : raw_doc.RawDoc → Bool
raw_document_borrowed (raw_docs.Borrowed d) = true
raw_document_borrowed (raw_docs.Owned bs) = false

abbrev pub raw_array_borrowed : raw_arr.RawArr → Bool
raw_array_borrowed (raw_arrs.Borrowed a) = true
raw_array_borrowed (raw_arrs.Owned a) = false

abbrev mutual
  -- of each text, byte string, document and array in its bytes, in order: whether it is borrowed
  pub borrowed_parts : Datum → List Bool
  borrowed_parts (Str t) = text_borrowed t ∷ []
  borrowed_parts (Bytes b) = bytes_borrowed b ∷ []
  borrowed_parts (datum.Some' p d) = borrowed_parts d
  borrowed_parts (UnitStruct name) = text_borrowed name ∷ []
  borrowed_parts (UnitVariant variant) = text_borrowed variant ∷ []
  borrowed_parts (NewtypeStruct' name p d) = text_borrowed name ∷ borrowed_parts d
  borrowed_parts (NewtypeVariant' variant p d) = text_borrowed variant ∷ borrowed_parts d
  borrowed_parts (Seq' shape rows) = item_rows_borrowed rows
  borrowed_parts (Tuple' shape rows) = item_rows_borrowed rows
  borrowed_parts (TupleStruct' name shape rows) = text_borrowed name ∷ item_rows_borrowed rows
  borrowed_parts (TupleVariant' variant shape rows) = text_borrowed variant ∷ item_rows_borrowed rows
  borrowed_parts (Map' shape rows) = entry_rows_borrowed rows
  borrowed_parts (Struct' name shape rows) = text_borrowed name ∷ rows_borrowed rows
  borrowed_parts (StructVariant' variant shape rows) = text_borrowed variant ∷ rows_borrowed rows
  borrowed_parts (RawDocument d) = raw_document_borrowed d ∷ []
  borrowed_parts (RawArray a) = raw_array_borrowed a ∷ []
  borrowed_parts (Mode' p r q c) = borrowed_parts r ++ borrowed_parts c
  borrowed_parts d = []

  pub item_rows_borrowed : {m : _} → Row_of-Datum m → List Bool
  item_rows_borrowed end_of-Datum = []
  item_rows_borrowed (more_of-Datum d rest) = borrowed_parts d ++ item_rows_borrowed rest

  pub entry_rows_borrowed : {m : _} → Row_of-Entry m → List Bool
  entry_rows_borrowed end_of-Entry = []
  entry_rows_borrowed (more_of-Entry k d rest) = (borrowed_parts k ++ borrowed_parts d) ++ entry_rows_borrowed rest

  pub rows_borrowed : {m : _} → Row_of-Field m → List Bool
  rows_borrowed end_of-Field = []
  rows_borrowed (more_of-Field name d rest) = (text_borrowed name ∷ borrowed_parts d) ++ rows_borrowed rest

-- an entry: the parts of its key, and those of its value
abbrev pub entry_borrowed : Entry → List Bool
entry_borrowed e = borrowed_parts e.key ++ borrowed_parts e.value

-- a field: its name, and the parts of its value
abbrev pub field_borrowed : Field → List Bool
field_borrowed f = text_borrowed f.name ∷ borrowed_parts f.value

-- the same for the data of a `Vec` or a slice
abbrev pub items_borrowed : List Datum → List Bool
items_borrowed = flat_map borrowed_parts

-- the same for the entries of a `Vec` or a slice
abbrev pub entries_borrowed : List Entry → List Bool
entries_borrowed = flat_map entry_borrowed

-- the same for the fields of a `Vec` or a slice
abbrev pub fields_borrowed : List Field → List Bool
fields_borrowed = flat_map field_borrowed

-- none of these parts is borrowed
abbrev pub NoneBorrowed : List Bool → Type 0
NoneBorrowed = AllByRecursion (λ borrowed. borrowed ≡ false)

-- nothing in the datum is borrowed
abbrev pub IsOwned : Datum → Type 0
IsOwned d = NoneBorrowed (borrowed_parts d)
