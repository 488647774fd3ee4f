-- Structs whose fields are values of types: a type of one's own is written and read by these, field by field. Source: serde's data model.
use Rattle.std.specs.Prelude.{if◌then◌else◌, Ok, Err}
use Rattle.std.specs.Str.{bytes_eq}
use Rattle.bson_kinds.specs.Outcome.{◌>>=◌, result_map}
use Rattle.bson_kinds.specs.Text.{Utf8}
use Rattle.bson_values.specs.Value.{Value, structure, FieldValues, no_field_values, field_value}
use Rattle.bson_type_data.specs.Answers.{Reading, Writing, not_fitting}

-- ---- written

-- no field
abbrev pub no_fields : Writing FieldValues
no_fields = Ok no_field_values

-- a field, and those behind it, or the first failure
abbrev pub and_field : (name : Utf8) → Writing Value → Writing FieldValues → Writing FieldValues
and_field name r rest = r >>= λ v. result_map (field_value name v) rest

-- a struct of these fields
abbrev pub written_structure : (name : Utf8) → Writing FieldValues → Writing Value
written_structure name rest = result_map (structure name) rest

-- ---- read

-- the fields of a struct of this name
abbrev pub struct_fields : (name : Utf8) → Value → Reading FieldValues
struct_fields name (structure n fs) = if bytes_eq n name then Ok fs else Err not_fitting
struct_fields name v = Err not_fitting

-- what the first of the fields gives, which has this name, and the fields behind it
abbrev pub next_field : {C : Type 0} → (name : Utf8) → (Value → Reading C) → FieldValues → Reading (C × FieldValues)
next_field name t no_field_values = Err not_fitting
next_field name t (field_value n v fs) = if bytes_eq n name then result_map (λ c. (c, fs)) (t v) else Err not_fitting

-- no field is left
abbrev pub no_field_left : FieldValues → Reading (Unit {0})
no_field_left no_field_values = Ok tt
no_field_left (field_value n v fs) = Err not_fitting

-- what a field and those behind it give
abbrev pub then_field : {C D : Type 0} → (name : Utf8) → (Value → Reading C) → (FieldValues → Reading D) → FieldValues → Reading (C × D)
then_field name t rest fs = next_field name t fs >>= λ first. rest first.1 >>= λ d. Ok (first.0, d)

-- what a field gives behind which there is none
abbrev pub last_field : {C : Type 0} → (name : Utf8) → (Value → Reading C) → FieldValues → Reading C
last_field name t fs = next_field name t fs >>= λ last. no_field_left last.1 >>= λ end. Ok last.0

-- what a struct gives, by what its fields give
abbrev pub taken_structure : {C : Type 0} → (name : Utf8) → (FieldValues → Reading C) → Value → Reading C
taken_structure name fields v = struct_fields name v >>= fields
