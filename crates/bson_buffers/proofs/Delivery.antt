-- Whether an output fits in its buffer.
use Rattle.std.proofs.Common.{◌≡◌, ◌≤◌, ◌<◌, ℕ, length, Bool, true, false, refl, inl, inr}
use Rattle.std.specs.Prelude.{◌⊎◌, nat_lt}
use Rattle.std.proofs.lemmas.Bool.{cond-false, cond-true, le-ltb, lt-ltb, ltb-true, ltb-false}
use Rattle.bson_kinds.specs.Text.{Bytes}
use Rattle.bson_buffers.specs.Recasts.{fitted}
use Rattle.bson_buffers.specs.declared.status.Status.{Status}
use Rattle.bson_buffers.specs.declared.status.Status.TheVariants as statuses

-- a number is within another or above it
pub within_or_above : (m n : ℕ) → (m ≤ n) ⊎ (n < m)
within_or_above m n = by_test (nat_lt n m) refl where
  by_test : (b : Bool) → nat_lt n m ≡ b → (m ≤ n) ⊎ (n < m)
  by_test true is = inr (ltb-true _ _ is)
  by_test false is = inl (ltb-false _ _ is)

pub fits : (places : ℕ) (output : Bytes) (status : Status) → length output ≤ places → fitted places output status ≡ status
fits places output status within = cond-false (nat_lt places (length output)) statuses.BufferTooSmall status (le-ltb _ _ within)

pub lacks : (places : ℕ) (output : Bytes) (status : Status) → places < length output → fitted places output status ≡ statuses.BufferTooSmall
lacks places output status above = cond-true (nat_lt places (length output)) statuses.BufferTooSmall status (lt-ltb _ _ above)
