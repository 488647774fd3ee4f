-- What is written of a value.
use Rattle.std.proofs.Common.{◌≡◌, ◌<◌, ◌≤◌, inl, inr, refl, sym, subst}
use Rattle.std.specs.Global.{Vec}
use Rattle.std.specs.Prelude.{ℕ, Some, Result, Ok, Err, OnOk, IfOk, IfErr}
use Rattle.bson_kinds.specs.Outcome.{result_map}
use Rattle.bson_base.specs.Sound.{max_bytes, IsSound}
use Rattle.bson_kinds.specs.Text.{Bytes}
use Rattle.bson_base.specs.Tree.{Tree, enc}
use Rattle.bson_values.specs.Refusal.{WriteFault, Failure, no_memory, bare, placed, FailsAs}
use Rattle.bson_values.specs.Value.{Value}
use Rattle.bson_values.specs.declared.ser.Error.{Error}
use Rattle.bson_values.specs.ErrorView.{write_failure}
use Rattle.bson_laws.specs.Means.{means}
use Rattle.bson_laws.specs.Spell.{spell_document, size}
use Rattle.bson_ser_stream.specs.Writing.{Fails, too_long_failure, GivesBytes}
use Rattle.bson_type_data.specs.Answers.{Writing}
use Rattle.bson_types.specs.Typed.{WritesDocument, WritesBytes}

-- ---- no bytes

out_of_memory : {X : Type 0} (see : X → Bytes) (e : Error) (w : Writing Value) → write_failure e ≡ no_memory → WritesBytes see w (Err e)
out_of_memory see e (Ok v) is = record { bytes = tt; fits = tt; refused = inl is; too_long = λ other. absurd (cc); sound = λ t means sound. is }
out_of_memory see e (Err f) is = inr is

fails_so : {X : Type 0} (see : X → Bytes) (f : Failure WriteFault) (e : Error) (w : Writing Value) → write_failure e ≡ f → FailsAs f w → WritesBytes see w (Err e)
fails_so see no_memory e w is h = out_of_memory see e w is
fails_so see (bare f) e w is h = subst (λ z. WritesBytes see z (Err e)) (sym h) (inl is)
fails_so see (placed path f) e w is h = subst (λ z. WritesBytes see z (Err e)) (sym h) (inl is)

-- a type refuses a value, or memory ran out for its datum
pub no_datum : {X : Type 0} (see : X → Bytes) (e : Error) (w : Writing Value) → FailsAs (write_failure e) w → WritesBytes see w (Err e)
no_datum see e w h = fails_so see (write_failure e) e w refl h

-- ---- bytes

pub datum_written : (v : Value) (w : Writing Value) (r : Result (Vec ℕ) Error) → w ≡ Ok v → IfOk r (λ out. result_map enc (spell_document v) ≡ Ok out.items) → OnOk r (size v ≤ max_bytes)
    → IfErr r (λ e. Fails (size v) (spell_document v) (write_failure e)) → IfErr r (λ e. write_failure e ≡ too_long_failure → max_bytes < size v)
    → ((t : Tree) → means v ≡ Some t → IsSound t → GivesBytes (λ (out : Vec ℕ). out.items) (enc t) r) → WritesBytes (λ x. x.items) w r
datum_written v w r is b f e l s =
    subst (λ z. WritesBytes (λ x. x.items) z r) (sym is) (record { bytes = b; fits = f; refused = e; too_long = l; sound = s })

-- what is written of the datum of a value is written of the value
pub value_written : {X : Type 0} (see : X → Bytes) (v : Value) (w : Writing Value) (r : Result X Error) → w ≡ Ok v → WritesDocument see v r → WritesBytes see w r
value_written see v w r is h = subst (λ z. WritesBytes see z r) (sym is) h
