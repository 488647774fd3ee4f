-- What agrees with one of two lists, by what each of two tests answers.
use Rattle.std.proofs.Common.{◌≡◌, Bool, true, false, ap, sym, ◌∙◌}
use Rattle.std.specs.Prelude.{◌||◌}

-- the first holds
pub or_first : (r a b : Bool) → r ≡ a → r ≡ true → r ≡ (a || b)
or_first r a b is t = t ∙ ap (λ x. x || b) (sym t ∙ is)

-- it does not, and the second decides
pub or_second : (r a b s : Bool) → r ≡ a → r ≡ false → s ≡ b → s ≡ (a || b)
or_second r a b s is f second = second ∙ ap (λ x. x || b) (sym f ∙ is)
