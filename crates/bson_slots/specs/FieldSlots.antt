-- The slots of the fields of a struct, with the values that were read for them. Source: serde's data model.
use Rattle.std.specs.Prelude.{◌≡◌, ℕ, zero, suc, List, [], ◌∷◌, Option, Some, None, false, option_map, string_bytes}
use Rattle.std.specs.Coded.{Coded-set, coded_ℕ, coded_bool, coded_list, ×_prop, Unit-prop}
use Rattle.bson_shape.specs.declared.shape.FieldShape.{FieldShape}
use Rattle.bson_values.specs.Pieces.{text_borrowed}
use Rattle.bson_values.specs.Marked.{Marked, MarkedFields}
use Rattle.bson_values.specs.Pieces.{text_piece}
use Rattle.bson_datum.specs.MarkedView.{marked}
use Rattle.bson_values.specs.TextView.{text_view}
use Rattle.bson_values.specs.Value.{no_field_values, field_value}
use Rattle.bson_datum.specs.declared.datum.Datum.{Datum}
use Rattle.bson_datum.specs.declared.datum.Field.{Field}
use Rattle.bson_laws.specs.declared.origin.Reader.{Reader}
use Rattle.bson_laws.specs.ReadsFrom.{reads_for}
use Rattle.bson_laws.specs.Settled.{settled}
use Rattle.bson_laws.specs.Slots.{Slot, Slots, missing_value}

-- ---- slots

-- the value in the slot at a place, if there is one
abbrev pub value_at : Slots → ℕ → Option Marked
value_at [] i = None
value_at (slot ∷ slots) zero = slot.value
value_at (slot ∷ slots) (suc i) = value_at slots i

-- the slots, with this value in the slot at a place
abbrev pub with_value : Slots → ℕ → Marked → Slots
with_value [] i v = []
with_value (slot ∷ slots) zero v = record slot { value = Some v } ∷ slots
with_value (slot ∷ slots) (suc i) v = slot ∷ with_value slots i v

-- the slot of a field, for a reader
abbrev pub slot_of : (reader : Reader) → FieldShape → Option Marked → Slot
slot_of reader f value = record { name = string_bytes f.name; missing = missing_value (settled reader.readable f.shape); read = reads_for reader f.shape; value = value }

-- The slots of fields. The first have their values, those behind them what stands for each in the second list, and the others none.
abbrev pub field_slots : (reader : Reader) → List FieldShape → (first : List Field) → (later : List (Option Datum)) → Slots
field_slots reader [] first later = []
field_slots reader (f ∷ fs) (x ∷ first) later = slot_of reader f (Some (marked x.value)) ∷ field_slots reader fs first later
field_slots reader (f ∷ fs) [] (v ∷ later) = slot_of reader f (option_map marked v) ∷ field_slots reader fs [] later
field_slots reader (f ∷ fs) [] [] = slot_of reader f None ∷ field_slots reader fs [] []

-- ---- fields

-- it is the field, under an owned name
abbrev pub IsNamed : FieldShape → Field → Type 0
IsNamed f x = (text_view x.name ≡ string_bytes f.name) × (text_borrowed x.name ≡ false)

-- these are the first of the fields
abbrev pub AreFirst : List FieldShape → List Field → Type 0
AreFirst fs [] = Unit {0}
AreFirst [] (x ∷ first) = ⊥
AreFirst (f ∷ fs) (x ∷ first) = IsNamed f x × AreFirst fs first

pub AreFirst-prop : (fs : List FieldShape) (first : List Field) → IsProp (AreFirst fs first)
AreFirst-prop fs [] = Unit-prop
AreFirst-prop [] (x ∷ first) = λ a b. absurd a
AreFirst-prop (f ∷ fs) (x ∷ first) = ×_prop (×_prop (Coded-set (coded_list coded_ℕ) (text_view x.name) (string_bytes f.name)) (Coded-set coded_bool (text_borrowed x.name) false)) (AreFirst-prop fs first)

-- the fields of a struct, with their marks
abbrev pub fields_marked : List Field → MarkedFields
fields_marked [] = no_field_values
fields_marked (x ∷ xs) = field_value (text_piece x.name) (marked x.value) (fields_marked xs)
