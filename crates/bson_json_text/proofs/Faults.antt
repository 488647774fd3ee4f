-- The faults of leaves by the tests of the code.
use Rattle.std.proofs.Common.{◌≡◌, true, Some, None, refl, ap, ◌∙◌, inl, inr}
use Rattle.std.specs.Str.{bytes_eq}
use Rattle.std.proofs.lemmas.Bool.{cases_Bool}
use Rattle.std.proofs.lemmas.Slice.Eq.{bytes_eq-Decides}
use Rattle.bson_decimals.specs.Decimals.{decimal_text}
use Rattle.bson_decimals.specs.Law.{ReadsBack}
use Rattle.bson_decimals.specs.Reading.{decimal_of_text}
use Rattle.bson_kinds.specs.Text.{Bytes}
use Rattle.bson_values.specs.Refusal.{here}
use Rattle.bson_json_laws.specs.Doubles.{float_in, double_bytes}
use Rattle.bson_json_laws.specs.TextFault.{double_fault, are_these, decimal_fault}
use Rattle.bson_json_laws.specs.declared.text_fault.TextFault.TheVariants.{OddNan, OddDecimal}
use Rattle.bson_json_laws.proofs.Textual.{these_are}

pub double_passes : (bytes : Bytes) → double_bytes (float_in bytes) ≡ bytes → double_fault bytes ≡ None
double_passes bytes e = rw ((bytes_eq-Decides (double_bytes (float_in bytes)) bytes).1 e) refl

pub double_fails : (bytes : Bytes) → (double_bytes (float_in bytes) ≡ bytes → ⊥) → double_fault bytes ≡ Some (here OddNan)
double_fails bytes other =
    elim (cases_Bool (bytes_eq (double_bytes (float_in bytes)) bytes)) [
      | inl e ↦ absurd (other ((bytes_eq-Decides (double_bytes (float_in bytes)) bytes).0 e))
      | inr e ↦ rw e refl
    ]

these_same : (bytes : Bytes) → are_these bytes (Some bytes) ≡ true
these_same bytes = (bytes_eq-Decides bytes bytes).1 refl

pub decimal_passes : (bytes : Bytes) → ReadsBack bytes → decimal_fault bytes ≡ None
decimal_passes bytes e = rw (ap (are_these bytes) e ∙ these_same bytes) refl

pub decimal_fails : (bytes : Bytes) → (ReadsBack bytes → ⊥) → decimal_fault bytes ≡ Some (here OddDecimal)
decimal_fails bytes other =
    elim (cases_Bool (are_these bytes (decimal_of_text (decimal_text bytes)))) [
      | inl e ↦ absurd (other (these_are bytes (decimal_of_text (decimal_text bytes)) e))
      | inr e ↦ rw e refl
    ]
