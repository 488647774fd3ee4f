-- What is read of a source at the shape of a type. Source: MongoDB's crate bson, version 2, `from_reader`.
use Rattle.std.specs.Prelude.{◌≡◌, ℕ, ◌⊎◌, Option, Result, Ok, Err}
use Rattle.std.specs.Io.KnownBytes.{Keeps}
use Rattle.bson_kinds.specs.Outcome.{◌>>=◌}
use Rattle.bson_kinds.specs.Text.{Bytes}
use Rattle.bson_values.specs.ErrorView.{read_failure}
use Rattle.bson_values.specs.Refusal.{ReadFault, Failure, no_memory}
use Rattle.bson_values.specs.Value.{Value}
use Rattle.bson_values.specs.declared.de.Error.{Error}
use Rattle.bson_shape.specs.Form.{Form}
use Rattle.bson_source.specs.FromSource.{ReadsOne, read_first}
use Rattle.bson_type_data.specs.Answers.{Reading}
use Rattle.bson_traits.specs.ShapeOf.{shape_of_type}

-- the call fails so, or memory ran out
abbrev pub FailsWith : {X : Type 0} → Failure ReadFault → Result X Error → Type 0
FailsWith f (Ok x) = ⊥
FailsWith f (Err e) = (read_failure e ≡ f) ⊎ (read_failure e ≡ no_memory)

-- A type without a shape fails, and nothing is taken. At a shape the first document is read, and the type gives what its datum gives.
abbrev pub ReadsAt : {X C : Type 0} → (X → C) → Reading Form → (Value → Reading C) → (Form → Bytes → Reading Value) → (old new : Option Bytes) → (before now : ℕ) → Result X Error → Type 0
ReadsAt see (Err f) taken read old new before now result = Keeps old new × FailsWith f result
ReadsAt see (Ok form) taken read old new before now result = ReadsOne see (read_first (λ b. read form b >>= taken)) old new before now result

abbrev pub ReadsTyped : {X C : Type 0} → (X → C) → Form → (Value → Reading C) → (Form → Bytes → Reading Value) → (old new : Option Bytes) → (before now : ℕ) → Result X Error → Type 0
ReadsTyped see form taken read old new before now result = ReadsAt see (shape_of_type form) taken read old new before now result
