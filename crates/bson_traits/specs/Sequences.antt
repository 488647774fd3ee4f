-- Sequences of values of a type. Source: serde's data model.
use Rattle.std.specs.Prelude.{List, [], ◌∷◌, Ok, Err}
use Rattle.bson_kinds.specs.Outcome.{◌>>=◌, result_map}
use Rattle.bson_values.specs.Value.{Value, sequence, Items, no_items, item}
use Rattle.bson_type_data.specs.Answers.{Reading, Writing, not_fitting}

-- what a list of values is written as, or the first failure
abbrev pub written_items : {A : Type 0} → (A → Writing Value) → List A → Writing Items
written_items w [] = Ok no_items
written_items w (x ∷ xs) = w x >>= λ v. result_map (item v) (written_items w xs)

abbrev pub written_sequence : {A : Type 0} → (A → Writing Value) → List A → Writing Value
written_sequence w xs = result_map sequence (written_items w xs)

-- the contents that items give, or the first failure
abbrev pub taken_items : {C : Type 0} → (Value → Reading C) → Items → Reading (List C)
taken_items t no_items = Ok []
taken_items t (item v vs) = t v >>= λ c. result_map (λ cs. c ∷ cs) (taken_items t vs)

abbrev pub taken_sequence : {C : Type 0} → (Value → Reading C) → Value → Reading (List C)
taken_sequence t (sequence vs) = taken_items t vs
taken_sequence t v = Err not_fitting
