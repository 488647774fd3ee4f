-- The borrowed parts of a datum whose values, entries or fields are in a `Vec`.
use Rattle.std.proofs.Common.{◌≡◌, ◌∷◌, ◌++◌, refl, ap, ◌∙◌}
use Rattle.std.specs.Global.{Vec}
use Rattle.bson_values.specs.Pieces.{text_borrowed}
use Rattle.bson_datum.specs.Borrowed.{borrowed_parts, item_rows_borrowed, entry_rows_borrowed, rows_borrowed, items_borrowed, entries_borrowed, fields_borrowed}
use Rattle.bson_datum.specs.declared.datum.Entry.{Entry}
use Rattle.bson_datum.specs.declared.datum.Field.{Field}
use Rattle.bson_datum.specs.declared.datum.Datum.TheBlock.{hidden-the_row-Datum-0, hidden-the_row-Entry-1, hidden-the_row-Field-2}
use Rattle.bson_datum.specs.declared.datum.Datum.{Datum, Row_of-Datum, end_of-Datum, more_of-Datum, items-the_row-Datum, items_hidden-the_row-Datum-0, Row_of-Entry, end_of-Entry, more_of-Entry, items-the_row-Entry, items_hidden-the_row-Entry-1, Row_of-Field, end_of-Field, more_of-Field, items-the_row-Field, items_hidden-the_row-Field-2}

item_borrowed_is : (m : _) (rows : Row_of-Datum m) → item_rows_borrowed rows ≡ items_borrowed (items-the_row-Datum m rows)
item_borrowed_is m end_of-Datum = refl
item_borrowed_is m (more_of-Datum d rest) = ap (λ l. borrowed_parts d ++ l) (item_borrowed_is _ rest)

pub item_rows_are_borrowed : (ds : Vec Datum) → item_rows_borrowed (hidden-the_row-Datum-0 ds) ≡ items_borrowed ds.items
item_rows_are_borrowed ds = item_borrowed_is _ (hidden-the_row-Datum-0 ds) ∙ ap items_borrowed (items_hidden-the_row-Datum-0 ds)

entry_borrowed_is : (m : _) (rows : Row_of-Entry m) → entry_rows_borrowed rows ≡ entries_borrowed (items-the_row-Entry m rows)
entry_borrowed_is m end_of-Entry = refl
entry_borrowed_is m (more_of-Entry k d rest) = ap (λ l. (borrowed_parts k ++ borrowed_parts d) ++ l) (entry_borrowed_is _ rest)

pub entry_rows_are_borrowed : (es : Vec Entry) → entry_rows_borrowed (hidden-the_row-Entry-1 es) ≡ entries_borrowed es.items
entry_rows_are_borrowed es = entry_borrowed_is _ (hidden-the_row-Entry-1 es) ∙ ap entries_borrowed (items_hidden-the_row-Entry-1 es)

borrowed_is : (m : _) (rows : Row_of-Field m) → rows_borrowed rows ≡ fields_borrowed (items-the_row-Field m rows)
borrowed_is m end_of-Field = refl
borrowed_is m (more_of-Field name d rest) = ap (λ l. (text_borrowed name ∷ borrowed_parts d) ++ l) (borrowed_is _ rest)

pub rows_are_borrowed : (fs : Vec Field) → rows_borrowed (hidden-the_row-Field-2 fs) ≡ fields_borrowed fs.items
rows_are_borrowed fs = borrowed_is _ (hidden-the_row-Field-2 fs) ∙ ap fields_borrowed (items_hidden-the_row-Field-2 fs)
