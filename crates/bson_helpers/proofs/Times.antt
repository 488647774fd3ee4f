-- What is read as a time, and then its text.
use Rattle.std.proofs.Common.{◌≡◌, ℤ, Result, Ok, Err, refl, sym, subst, inl, inr}
use Rattle.std.specs.Prelude.{String}
use Rattle.std.specs.Global.{Global}
use Rattle.bson_values.specs.ErrorView.{read_failure}
use Rattle.bson_values.specs.Refusal.{ReadFault, Failure, no_memory, bare, placed, FailsAs}
use Rattle.bson_values.specs.declared.de.Error.{Error}
use Rattle.bson_type_data.specs.Answers.{Reading}
use Rattle.bson_helpers.specs.Dates.{ReadsTime}

failed : (expected : Reading ℤ) (e : Error) (f : Failure ReadFault) → read_failure e ≡ f → FailsAs f expected → ReadsTime expected (Err e)
failed (Ok n) e no_memory is h = inl is
failed (Ok n) e (bare f) is h = absurd cc
failed (Ok n) e (placed path f) is h = absurd cc
failed (Err g) e no_memory is h = inl is
failed (Err g) e (bare f) is h = inr cc
failed (Err g) e (placed path f) is h = inr cc

-- no time is read
pub not_read : (expected : Reading ℤ) (e : Error) → FailsAs (read_failure e) expected → ReadsTime expected (Err e)
not_read expected e h = failed expected e (read_failure e) refl h

-- a time is read
pub time_read : (expected : Reading ℤ) (n : ℤ) (r : Result (String Global) Error) → expected ≡ Ok n → ReadsTime (Ok n) r → ReadsTime expected r
time_read expected n r is h = subst (λ d. ReadsTime d r) (sym is) h
