-- The deepest of two values is within so many levels where both are.
use Rattle.std.proofs.Common.{◌≡◌, ℕ, suc, ◌<◌, ◌≤◌, ◌-◌, max, leb, true, false, arith}
use Rattle.std.proofs.lemmas.Bool.Decides.{nat_tests}

pub first_within : (a b n : ℕ) → leb a n ≡ true → leb (max a b) n ≡ leb b n
first_within a b n h = grind (arith, nat_tests)

pub first_beyond : (a b n : ℕ) → leb a n ≡ false → leb (max a b) n ≡ false
first_beyond a b n h = grind (arith, nat_tests)

pub one_level : (a n : ℕ) → 0 < n → leb (suc a) n ≡ leb a (n - 1)
one_level a n h = grind (arith, nat_tests)

pub no_level : (a n : ℕ) → n ≤ 0 → leb (suc a) n ≡ false
no_level a n h = grind (arith, nat_tests)
