-- Values that are written for a human reader. Source: serde's `is_human_readable`.
use Rattle.std.specs.Prelude.{if◌then◌else◌, Err}
use Rattle.std.specs.Str.{bytes_eq}
use Rattle.bson_kinds.specs.Outcome.{result_map}
use Rattle.bson_values.specs.Value.{Value, newtype, readable_newtype}
use Rattle.bson_type_data.specs.Answers.{Reading, Writing, not_fitting}

abbrev pub written_readable : {A : Type 0} → (A → Writing Value) → A → Writing Value
written_readable w x = result_map (newtype readable_newtype) (w x)

abbrev pub taken_readable : {C : Type 0} → (Value → Reading C) → Value → Reading C
taken_readable t (newtype name v) = if bytes_eq name readable_newtype then t v else Err not_fitting
taken_readable t v = Err not_fitting
