-- The fields of a datum, which are in a `Vec`.
use Rattle.std.proofs.Common.{◌≡◌, refl, ap, ◌∙◌}
use Rattle.std.specs.Global.{Vec}
use Rattle.bson_values.specs.Pieces.{text_piece}
use Rattle.bson_datum.specs.MarkedView.{marked, marked_fields}
use Rattle.bson_values.specs.Value.{structure, structure_variant, field_value}
use Rattle.bson_values.specs.declared.text.Text.{Text}
use Rattle.bson_datum.specs.declared.datum.Field.{Field}
use Rattle.bson_datum.specs.declared.datum.Datum.TheBlock.{hidden-the_row-Field-2}
use Rattle.bson_datum.specs.declared.datum.Datum.{Struct, StructVariant, Row_of-Field, end_of-Field, more_of-Field, items-the_row-Field, items_hidden-the_row-Field-2}
use Rattle.bson_slots.specs.FieldSlots.{fields_marked}

rows_are : (m : _) (rows : Row_of-Field m) → marked_fields rows ≡ fields_marked (items-the_row-Field m rows)
rows_are m end_of-Field = refl
rows_are m (more_of-Field name v rest) = ap (field_value (text_piece name) (marked v)) (rows_are _ rest)

marked_items : (fs : Vec Field) → marked_fields (hidden-the_row-Field-2 fs) ≡ fields_marked fs.items
marked_items fs = rows_are _ (hidden-the_row-Field-2 fs) ∙ ap fields_marked (items_hidden-the_row-Field-2 fs)

pub marked-Struct : (name : Text) (fs : Vec Field) → marked (Struct name fs) ≡ structure (text_piece name) (fields_marked fs.items)
marked-Struct name fs = ap (structure (text_piece name)) (marked_items fs)

pub marked-StructVariant : (name : Text) (fs : Vec Field) → marked (StructVariant name fs) ≡ structure_variant (text_piece name) (fields_marked fs.items)
marked-StructVariant name fs = ap (structure_variant (text_piece name)) (marked_items fs)
