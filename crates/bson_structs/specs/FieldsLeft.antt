-- What contracts see of the fields of a struct that is read: those that are left. Source: this library's own types.
use Rattle.std.specs.Prelude.{◌≡◌, List, [], ◌∷◌, Option, Some, None}
use Rattle.bson_values.specs.TextView.{text_view}
use Rattle.bson_values.specs.Value.{FieldValues, no_field_values, field_value}
use Rattle.bson_datum.specs.View.{view}
use Rattle.bson_datum.specs.declared.datum.Field.{Field}
use Rattle.bson_structs.specs.declared.reading.StructFields.{StructFields}

-- fields, the last first, before others
abbrev pub before : List Field → FieldValues → FieldValues
before [] rest = rest
before (f ∷ fs) rest = before fs (field_value (text_view f.name) (view f.value) rest)

abbrev pub left : StructFields → FieldValues
left s = before s.reversed.items no_field_values

-- the next field is taken out, and those behind it are left; or there is none
abbrev pub IsNext : (old : FieldValues) → Option Field → (new : FieldValues) → Type 0
IsNext old None new = old ≡ no_field_values
IsNext old (Some f) new = old ≡ field_value (text_view f.name) (view f.value) new
