-- The fields that are left, in a vector that has the last first.
use Rattle.std.proofs.Common.{◌≡◌, List, [], ◌∷◌, ◌++◌, reverse, refl, ap, ◌∙◌}
use mathlib.Core.List.{reverse_aux}
use Rattle.bson_values.specs.TextView.{text_view}
use Rattle.bson_values.specs.Value.{FieldValues, no_field_values, field_value}
use Rattle.bson_datum.specs.View.{view, fields_view}
use Rattle.bson_datum.specs.declared.datum.Field.{Field}
use Rattle.bson_structs.specs.FieldsLeft.{before}

-- fields in order, before others
abbrev fields_then : List Field → FieldValues → FieldValues
fields_then [] rest = rest
fields_then (f ∷ fs) rest = field_value (text_view f.name) (view f.value) (fields_then fs rest)

turned : (fs done : List Field) (rest : FieldValues) → before (reverse_aux fs done) rest ≡ before done (fields_then fs rest)
turned [] done rest = refl
turned (f ∷ fs) done rest = turned fs (f ∷ done) rest

in_order : (fs : List Field) → fields_then fs no_field_values ≡ fields_view fs
in_order [] = refl
in_order (f ∷ fs) = ap (field_value (text_view f.name) (view f.value)) (in_order fs)

-- turned round, all are left
pub left_reversed : (fs : List Field) → before (reverse fs) no_field_values ≡ fields_view fs
left_reversed fs = turned fs [] no_field_values ∙ in_order fs

-- the last one is the next
pub before_last : (fs : List Field) (f : Field) (rest : FieldValues) → before (fs ++ f ∷ []) rest ≡ field_value (text_view f.name) (view f.value) (before fs rest)
before_last [] f rest = refl
before_last (g ∷ fs) f rest = before_last fs f (field_value (text_view g.name) (view g.value) rest)
