-- One more field behind those of a list.
use Rattle.std.proofs.Common.{◌≡◌, List, [], ◌∷◌, ◌++◌, refl, ap}
use Rattle.bson_values.specs.TextView.{text_view}
use Rattle.bson_datum.specs.View.{view, fields_view}
use Rattle.bson_values.specs.Value.{field_value}
use Rattle.bson_datum.specs.declared.datum.Field.{Field}
use Rattle.bson_writing.specs.Joined.{with_field}

pub fields_pushed : (fs : List Field) (f : Field) → fields_view (fs ++ f ∷ []) ≡ with_field (fields_view fs) (text_view f.name) (view f.value)
fields_pushed [] f = refl
fields_pushed (g ∷ fs) f = ap (field_value (text_view g.name) (view g.value)) (fields_pushed fs f)
