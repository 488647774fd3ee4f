-- Data whose values or entries are in a `Vec`.
use Rattle.std.proofs.Common.{◌≡◌, refl, ap, ◌∙◌}
use Rattle.std.specs.Global.{Vec}
use Rattle.bson_values.specs.Pieces.{text_piece}
use Rattle.bson_datum.specs.MarkedView.{marked, marked_items, marked_entries}
use Rattle.bson_values.specs.Value.{sequence, tuple, tuple_structure, tuple_variant, item, map, entry}
use Rattle.bson_values.specs.declared.text.Text.{Text}
use Rattle.bson_datum.specs.declared.datum.Entry.{Entry}
use Rattle.bson_datum.specs.declared.datum.Datum.TheBlock.{hidden-the_row-Datum-0, hidden-the_row-Entry-1}
use Rattle.bson_datum.specs.declared.datum.Datum.{Datum, Seq, Tuple, TupleStruct, TupleVariant, Map, Row_of-Datum, end_of-Datum, more_of-Datum, items-the_row-Datum, items_hidden-the_row-Datum-0, Row_of-Entry, end_of-Entry, more_of-Entry, items-the_row-Entry, items_hidden-the_row-Entry-1}
use Rattle.bson_texts.specs.ListsMarked.{items_marked, entries_marked}

item_rows_are : (m : _) (rows : Row_of-Datum m) → marked_items rows ≡ items_marked (items-the_row-Datum m rows)
item_rows_are m end_of-Datum = refl
item_rows_are m (more_of-Datum d rest) = ap (item (marked d)) (item_rows_are _ rest)

pub row_items : (ds : Vec Datum) → marked_items (hidden-the_row-Datum-0 ds) ≡ items_marked ds.items
row_items ds = item_rows_are _ (hidden-the_row-Datum-0 ds) ∙ ap items_marked (items_hidden-the_row-Datum-0 ds)

pub marked-Seq : (ds : Vec Datum) → marked (Seq ds) ≡ sequence (items_marked ds.items)
marked-Seq ds = ap sequence (row_items ds)

pub marked-Tuple : (ds : Vec Datum) → marked (Tuple ds) ≡ tuple (items_marked ds.items)
marked-Tuple ds = ap tuple (row_items ds)

pub marked-TupleStruct : (n : Text) (ds : Vec Datum) → marked (TupleStruct n ds) ≡ tuple_structure (text_piece n) (items_marked ds.items)
marked-TupleStruct n ds = ap (tuple_structure (text_piece n)) (row_items ds)

pub marked-TupleVariant : (n : Text) (ds : Vec Datum) → marked (TupleVariant n ds) ≡ tuple_variant (text_piece n) (items_marked ds.items)
marked-TupleVariant n ds = ap (tuple_variant (text_piece n)) (row_items ds)

entry_rows_are : (m : _) (rows : Row_of-Entry m) → marked_entries rows ≡ entries_marked (items-the_row-Entry m rows)
entry_rows_are m end_of-Entry = refl
entry_rows_are m (more_of-Entry k v rest) = ap (entry (marked k) (marked v)) (entry_rows_are _ rest)

pub row_entries : (es : Vec Entry) → marked_entries (hidden-the_row-Entry-1 es) ≡ entries_marked es.items
row_entries es = entry_rows_are _ (hidden-the_row-Entry-1 es) ∙ ap entries_marked (items_hidden-the_row-Entry-1 es)

pub marked-Map : (es : Vec Entry) → marked (Map es) ≡ map (entries_marked es.items)
marked-Map es = ap map (row_entries es)
