-- Tests that decide a fact.
use Rattle.std.proofs.Common.{◌≡◌, ◌↔◌, IsTrue, Bool, sym, ◌∙◌}
use Rattle.std.specs.Bool.{Decides}

-- what a test that decides a fact answers says of the fact
pub exactly : {P : Type 0} (r test : Bool) → r ≡ test → Decides test P → IsTrue r ↔ P
exactly r test e d = (λ t. d.0 (sym e ∙ t), λ p. e ∙ d.1 p)
