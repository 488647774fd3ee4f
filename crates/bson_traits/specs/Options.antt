-- Optional values of a type. Source: serde's data model.
use Rattle.std.specs.Prelude.{Option, Some, None, Ok, Err}
use Rattle.bson_kinds.specs.Outcome.{result_map}
use Rattle.bson_values.specs.Value.{Value, none, some}
use Rattle.bson_type_data.specs.Answers.{Reading, Writing, not_fitting}

abbrev pub written_option : {A : Type 0} → (A → Writing Value) → Option A → Writing Value
written_option w None = Ok none
written_option w (Some x) = result_map some (w x)

abbrev pub taken_option : {C : Type 0} → (Value → Reading C) → Value → Reading (Option C)
taken_option t none = Ok None
taken_option t (some v) = result_map Some (t v)
taken_option t v = Err not_fitting

-- a value, where there is one, is one of the type
abbrev pub IsOptional : {A : Type 0} → (A → Type 0) → Option A → Type 0
IsOptional P None = Unit {0}
IsOptional P (Some x) = P x
