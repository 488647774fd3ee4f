-- The calls on the values of a type, by the calls on data. Source: MongoDB's crate bson, version 2, `to_vec` and `from_slice`.
use Rattle.std.specs.Prelude.{◌≡◌, ◌<◌, ◌≤◌, ◌⊎◌, Some, Result, Ok, Err, OnOk, IfOk, IfErr}
use Rattle.bson_kinds.specs.Outcome.{result_map}
use Rattle.bson_base.specs.Sound.{max_bytes, IsSound}
use Rattle.bson_kinds.specs.Text.{Bytes}
use Rattle.bson_base.specs.Tree.{Tree, enc}
use Rattle.bson_shape.specs.Form.{Form}
use Rattle.bson_values.specs.Refusal.{WriteFault, Failure, no_memory}
use Rattle.bson_values.specs.ErrorView.{write_failure}
use Rattle.bson_values.specs.Value.{Value}
use Rattle.bson_values.specs.declared.ser.Error.{Error as WriteError}
use Rattle.bson_laws.specs.Means.{means, norm}
use Rattle.bson_laws.specs.Reads.{reads_document}
use Rattle.bson_laws.specs.Spell.{spell_document, size}
use Rattle.bson_ser_stream.specs.Writing.{Fails, too_long_failure, GivesBytes}
use Rattle.bson_type_data.specs.Answers.{Reading, Writing}
use Rattle.bson_traits.specs.ShapeOf.{read_typed}

-- ---- writing

-- A datum is written as the bytes of a document, or refused: what `to_vec_at` promises for it.
pub record WritesDocument {X : Type 0} (see : X → Bytes) (v : Value) (result : Result X WriteError) : Type 0 where
  pub bytes : IfOk result (λ x. result_map enc (spell_document v) ≡ Ok (see x))
  pub fits : OnOk result (size v ≤ max_bytes)
  pub refused : IfErr result (λ e. Fails (size v) (spell_document v) (write_failure e))
  pub too_long : IfErr result (λ e. write_failure e ≡ too_long_failure → max_bytes < size v)
  -- what means a sound document is written as that document, unless memory runs out
  pub sound : (t : Tree) → means v ≡ Some t → IsSound t → GivesBytes see (enc t) result

-- the call fails so, or memory ran out
abbrev pub FailsSo : {X : Type 0} → Failure WriteFault → Result X WriteError → Type 0
FailsSo f (Ok x) = ⊥
FailsSo f (Err e) = (write_failure e ≡ f) ⊎ (write_failure e ≡ no_memory)

-- A value is written as its datum is; where it has none, the failure is that of its type.
abbrev pub WritesBytes : {X : Type 0} → (X → Bytes) → Writing Value → Result X WriteError → Type 0
WritesBytes see (Ok v) result = WritesDocument see v result
WritesBytes see (Err f) result = FailsSo f result

-- ---- what was written is read

-- The bytes of what a value means are read as what is read back of its datum, which gives the contents of the value.
pub record ReadsBack {C : Type 0} (form : Form) (taken : Value → Reading C) (contents : C) (v : Value) (t : Tree) : Type 0 where
  pub datum : reads_document form (enc t) ≡ Ok (norm v)
  pub value : taken (norm v) ≡ Ok contents
  pub call : read_typed form taken (λ s. reads_document s (enc t)) ≡ Ok contents
