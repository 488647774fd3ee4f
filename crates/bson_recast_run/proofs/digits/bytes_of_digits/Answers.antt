use Rattle.std.proofs.Common.{◌≡◌, ℕ, ap, sym, ◌∙◌, rules, inl, inr}
use Rattle.std.specs.Prelude.{◌⊎◌, not}
use Rattle.std.specs.Result.{result_ok}
use Rattle.std.proofs.lemmas.Fn.{filter_same}
use Rattle.hex.specs.Hex.{decode_of}
use Rattle.hex.specs.declared.error.FromHexError.{FromHexError}
use Rattle.hex.specs.declared.error.FromHexError.TheVariants.{InvalidHexCharacter, OddLength, InvalidStringLength, OutOfMemory}
use Rattle.bson_recast_run.specs.Digits.{is_blank}
use Rattle.bson_recast_run.proofs.digits.bytes_of_digits.Goals as goal

pub returns-in-Ok : goal.returns-in-Ok
returns-in-Ok c =
    let kept = filter_same _ (λ b. not (is_blank b)) _ (λ x b f' k. search rules) _ _ c.retain.ensures.filtered in
    ap result_ok (sym c.in-Ok.ensures.ok ∙ ap decode_of kept)

not_memory : (e : FromHexError) → e ≡ OutOfMemory → ((x y : ℕ) × (e ≡ InvalidHexCharacter x y)) ⊎ (e ≡ OddLength) ⊎ (e ≡ InvalidStringLength) → ⊥
not_memory e none (inl bad) = let is = bad.2 in cc
not_memory e none (inr (inl odd)) = cc
not_memory e none (inr (inr other)) = cc

pub returns-in-InvalidHexCharacter : goal.returns-in-InvalidHexCharacter
returns-in-InvalidHexCharacter c =
    let kept = filter_same _ (λ b. not (is_blank b)) _ (λ x b f' k. search rules) _ _ c.retain.ensures.filtered in
    elim c.in-Err.ensures.err [
      | inl none ↦ absurd (not_memory c.in-Err.error none c.in-InvalidHexCharacter.is)
      | inr refused ↦ ap result_ok (sym refused ∙ ap decode_of kept)
    ]
