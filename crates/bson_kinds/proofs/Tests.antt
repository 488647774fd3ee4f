-- What is known where a test that ends a search early did not.
use Rattle.std.proofs.Common.{◌≡◌, Bool, true, false, cond, refl}

pub not_taken : (b rest : Bool) → cond b false rest ≡ true → (b ≡ false) × (rest ≡ true)
not_taken true rest h = absurd cc
not_taken false rest h = (refl, h)
