-- The variants of an enum: a type of one's own tries them one after another. Source: serde's data model.
use Rattle.std.specs.Prelude.{◌≡◌, Bool, false, if◌then◌else◌, Option, Some, None, Result, Ok, Err}
use Rattle.std.specs.Str.{bytes_eq}
use Rattle.bson_kinds.specs.Outcome.{result_map}
use Rattle.bson_kinds.specs.Text.{Utf8}
use Rattle.bson_values.specs.Value.{Value, unit_variant, newtype_variant}
use Rattle.bson_datum.specs.View.{view}
use Rattle.bson_datum.specs.declared.datum.Datum.{Datum}
use Rattle.bson_type_data.specs.Answers.{Reading, Writing, not_fitting}

-- ---- written

abbrev pub written_unit : (name : Utf8) → Writing Value
written_unit name = Ok (unit_variant name)

abbrev pub written_newtype : (name : Utf8) → Writing Value → Writing Value
written_newtype name r = result_map (newtype_variant name) r

-- ---- read

-- whether a value is the variant of this name without contents
abbrev pub is_unit : (name : Utf8) → Value → Bool
is_unit name (unit_variant n) = bytes_eq n name
is_unit name v = false

-- a variant without contents gives this, or else what the others give
abbrev pub unit_or : {C : Type 0} → (name : Utf8) → C → (others : Value → Reading C) → Value → Reading C
unit_or name c others v = if is_unit name v then Ok c else others v

-- the value inside the variant of this name, where a value is this variant
abbrev pub inside : (name : Utf8) → Value → Option Value
inside name (newtype_variant n v) = if bytes_eq n name then Some v else None
inside name v = None

-- what is made of what the value inside gives, where there is one, or else this
abbrev pub made_inside : {C D : Type 0} → (make : D → C) → (Value → Reading D) → (others : Reading C) → Option Value → Reading C
made_inside make t others None = others
made_inside make t others (Some v) = result_map make (t v)

-- a variant around a value gives what is made of what the value gives, or else what the others give
abbrev pub newtype_or : {C D : Type 0} → (name : Utf8) → (make : D → C) → (Value → Reading D) → (others : Value → Reading C) → Value → Reading C
newtype_or name make t others v = made_inside make t (others v) (inside name v)

-- no variant is left
abbrev pub no_variant : {C : Type 0} → Value → Reading C
no_variant v = Err not_fitting

-- ---- what a call gives of a datum

-- the value inside the variant of this name, or the same datum again
abbrev pub IsInside : (name : Utf8) → Value → Result Datum Datum → Type 0
IsInside name v (Ok d) = inside name v ≡ Some (view d)
IsInside name v (Err d) = (inside name v ≡ None) × (view d ≡ v)
