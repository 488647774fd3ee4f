-- The value of a datum whose values, entries or fields are in a `Vec`.
use Rattle.std.proofs.Common.{◌≡◌, refl, ap, ◌∙◌}
use Rattle.std.specs.Global.{Vec}
use Rattle.bson_values.specs.TextView.{text_view}
use Rattle.bson_values.specs.Value.{sequence, tuple, tuple_structure, tuple_variant, item, map, entry, structure, structure_variant, field_value}
use Rattle.bson_datum.specs.View.{view, item_rows_view, items_view, entry_rows_view, entries_view, rows_view, fields_view}
use Rattle.bson_values.specs.declared.text.Text.{Text}
use Rattle.bson_datum.specs.declared.datum.Entry.{Entry}
use Rattle.bson_datum.specs.declared.datum.Field.{Field}
use Rattle.bson_datum.specs.declared.datum.Datum.TheBlock.{hidden-the_row-Datum-0, hidden-the_row-Entry-1, hidden-the_row-Field-2}
use Rattle.bson_datum.specs.declared.datum.Datum.{Datum, Seq, Tuple, TupleStruct, TupleVariant, Map, Struct, StructVariant, Row_of-Datum, end_of-Datum, more_of-Datum, items-the_row-Datum, items_hidden-the_row-Datum-0, Row_of-Entry, end_of-Entry, more_of-Entry, items-the_row-Entry, items_hidden-the_row-Entry-1, Row_of-Field, end_of-Field, more_of-Field, items-the_row-Field, items_hidden-the_row-Field-2}

item_rows_are : (m : _) (rows : Row_of-Datum m) → item_rows_view rows ≡ items_view (items-the_row-Datum m rows)
item_rows_are m end_of-Datum = refl
item_rows_are m (more_of-Datum d rest) = ap (item (view d)) (item_rows_are _ rest)

pub item_rows_items : (ds : Vec Datum) → item_rows_view (hidden-the_row-Datum-0 ds) ≡ items_view ds.items
item_rows_items ds = item_rows_are _ (hidden-the_row-Datum-0 ds) ∙ ap items_view (items_hidden-the_row-Datum-0 ds)

pub view-Seq : (ds : Vec Datum) → view (Seq ds) ≡ sequence (items_view ds.items)
view-Seq ds = ap sequence (item_rows_items ds)

pub view-Tuple : (ds : Vec Datum) → view (Tuple ds) ≡ tuple (items_view ds.items)
view-Tuple ds = ap tuple (item_rows_items ds)

pub view-TupleStruct : (n : Text) (ds : Vec Datum) → view (TupleStruct n ds) ≡ tuple_structure (text_view n) (items_view ds.items)
view-TupleStruct n ds = ap (tuple_structure (text_view n)) (item_rows_items ds)

pub view-TupleVariant : (n : Text) (ds : Vec Datum) → view (TupleVariant n ds) ≡ tuple_variant (text_view n) (items_view ds.items)
view-TupleVariant n ds = ap (tuple_variant (text_view n)) (item_rows_items ds)

entry_rows_are : (m : _) (rows : Row_of-Entry m) → entry_rows_view rows ≡ entries_view (items-the_row-Entry m rows)
entry_rows_are m end_of-Entry = refl
entry_rows_are m (more_of-Entry k v rest) = ap (entry (view k) (view v)) (entry_rows_are _ rest)

pub entry_rows_items : (es : Vec Entry) → entry_rows_view (hidden-the_row-Entry-1 es) ≡ entries_view es.items
entry_rows_items es = entry_rows_are _ (hidden-the_row-Entry-1 es) ∙ ap entries_view (items_hidden-the_row-Entry-1 es)

pub view-Map : (es : Vec Entry) → view (Map es) ≡ map (entries_view es.items)
view-Map es = ap map (entry_rows_items es)

rows_are : (m : _) (rows : Row_of-Field m) → rows_view rows ≡ fields_view (items-the_row-Field m rows)
rows_are m end_of-Field = refl
rows_are m (more_of-Field name v rest) = ap (field_value (text_view name) (view v)) (rows_are _ rest)

pub rows_items : (fs : Vec Field) → rows_view (hidden-the_row-Field-2 fs) ≡ fields_view fs.items
rows_items fs = rows_are _ (hidden-the_row-Field-2 fs) ∙ ap fields_view (items_hidden-the_row-Field-2 fs)

pub view-Struct : (n : Text) (fs : Vec Field) → view (Struct n fs) ≡ structure (text_view n) (fields_view fs.items)
view-Struct n fs = ap (structure (text_view n)) (rows_items fs)

pub view-StructVariant : (n : Text) (fs : Vec Field) → view (StructVariant n fs) ≡ structure_variant (text_view n) (fields_view fs.items)
view-StructVariant n fs = ap (structure_variant (text_view n)) (rows_items fs)
