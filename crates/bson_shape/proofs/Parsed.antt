-- The clauses of `parse`, from what the machine answers.
use Rattle.std.proofs.Common.{◌≡◌, ℕ, Some, Result, Ok, Err, ap, subst, ◌∙◌}
use Rattle.std.specs.Prelude.{IfOk}
use Rattle.std.specs.Str.{IsUtf8}
use Rattle.bson_kinds.specs.Text.{Utf8}
use Rattle.bson_shape.specs.Form.{Form}
use Rattle.bson_shape.specs.Makers.{IsShape}
use Rattle.bson_shape.specs.Notation.{text}
use Rattle.bson_shape.specs.FirstRefusal.{MakerRefusal}
use Rattle.bson_shape.specs.Machine.{Refusal, Not_notation, Refused, parsed}
use Rattle.bson_shape.specs.Answers.{error_of, Gives}
use Rattle.bson_shape.specs.Fronts.{IsMet, IsNotNotationAt, IsRefusedAt}
use Rattle.bson_shape.specs.declared.error.ParseError.{ParseError}
use Rattle.bson_shape.specs.declared.error.ParseError.TheVariants as errors
use Rattle.bson_shape.specs.declared.error.ShapeError.{ShapeError}
use Rattle.bson_shape.specs.declared.error.ShapeError.TheVariants.{NoMemory}
use Rattle.bson_shape.proofs.Texts.{parsed-shape}
use Rattle.bson_shape.proofs.Faults.{refusal_fault}
use Rattle.bson_shape.proofs.Places.{parsed_text, parsed_met, parsed_place, met_parsed}

-- the refusal that an error tells of
place_of : (r : Result Form Refusal) (p : ℕ) → error_of r ≡ Some (errors.NotNotation p) → r ≡ Err (Not_notation p)
place_of (Ok f) p e = absurd cc
place_of (Err (Not_notation q)) p e = let same : q ≡ p = cc in ap (λ i. Err (Not_notation i)) same
place_of (Err (Refused r)) p e = absurd cc

maker_of : (r : Result Form Refusal) (p : ℕ) (c : ShapeError) → error_of r ≡ Some (errors.Refused p c) → (met : ℕ) × (r ≡ Err (Refused (record { met = met; place = p; cause = c })))
maker_of (Ok f) p c e = absurd cc
maker_of (Err (Not_notation q)) p c e = absurd cc
maker_of (Err (Refused r)) p c e = let place : r.place ≡ p = cc in let cause : r.cause ≡ c = cc in (r.met, ap (λ (x : ℕ × ShapeError). Err (Refused (record { met = r.met; place = x.0; cause = x.1 }))) (λ i. (place i, cause i)))

pub found : (bytes : Utf8) (r : Result Form ParseError) → Gives (λ f. f) r (parsed bytes) → IfOk r (λ f. text f ≡ bytes)
found bytes (Ok f) given = parsed_text bytes f given
found bytes (Err e) given = tt

pub only : (bytes : Utf8) (r : Result Form ParseError) → Gives (λ f. f) r (parsed bytes) → (f : Form) → IsShape f → bytes ≡ text f → Gives (λ f. f) r (Ok f)
only bytes r given f h e = subst (Gives (λ (f : Form). f) r) (ap parsed e ∙ parsed-shape f h) given

pub met : (bytes : Utf8) (r : Result Form ParseError) → Gives (λ f. f) r (parsed bytes) → (m : MakerRefusal) → IsMet bytes m → Gives (λ f. f) r (Err (Refused m))
met bytes r given m h = subst (Gives (λ (f : Form). f) r) (met_parsed bytes m h) given

pub placed : (bytes : Utf8) (r : Result Form ParseError) → IsUtf8 bytes → Gives (λ f. f) r (parsed bytes) → (p : ℕ) → r ≡ Err (errors.NotNotation p) → IsNotNotationAt bytes p
placed bytes (Ok f) u given p e = absurd cc
placed bytes (Err errors.NoMemory) u given p e = absurd cc
placed bytes (Err (errors.Refused q c)) u given p e = absurd cc
placed bytes (Err (errors.NotNotation q)) u given p e = let same : q ≡ p = cc in subst (IsNotNotationAt bytes) same (parsed_place bytes u q (place_of (parsed bytes) q given))

refused_at : (bytes : Utf8) → IsUtf8 bytes → (p : ℕ) (c : ShapeError) → error_of (parsed bytes) ≡ Some (errors.Refused p c) → IsRefusedAt bytes p c
refused_at bytes u p c e =
    let x = maker_of (parsed bytes) p c e in
    let m = parsed_met bytes u (record { met = x.0; place = p; cause = c }) x.1 in
    record { met = x.0; is_met = m; fault = refusal_fault m.form (record { met = x.0; place = p; cause = c }) m.first }

pub refused : (bytes : Utf8) (r : Result Form ParseError) → IsUtf8 bytes → Gives (λ f. f) r (parsed bytes) → (p : ℕ) (c : ShapeError) → r ≡ Err (errors.Refused p c) → IsRefusedAt bytes p c
refused bytes (Ok f) u given p c e = absurd cc
refused bytes (Err errors.NoMemory) u given p c e = absurd cc
refused bytes (Err (errors.NotNotation q)) u given p c e = absurd cc
refused bytes (Err (errors.Refused q d)) u given p c e =
    let place : q ≡ p = cc in
    let cause : d ≡ c = cc in
    subst (λ (x : ℕ × ShapeError). IsRefusedAt bytes x.0 x.1) (λ i. (place i, cause i)) (refused_at bytes u q d given)

-- out of memory is a cause of no form
pub no_memory : (bytes : Utf8) (r : Result Form ParseError) → IsUtf8 bytes → Gives (λ f. f) r (parsed bytes) → (p : ℕ) → r ≡ Err (errors.Refused p NoMemory) → ⊥
no_memory bytes r u given p e = (refused bytes r u given p NoMemory e).fault.is
