use Rattle.std.proofs.Common.{◌≡◌, ℕ, ◌<◌, get_or}
use Rattle.bson_pass_parts.proofs.named.is_key.Given as goal

-- the bytes so far are those of the name, and none is zero
abbrev pub invariant-loop-i : goal.invariant-loop-i
invariant-loop-i l = (k : ℕ) → k < l.i → (get_or l.bytes k 0 ≡ 0 → ⊥) × (get_or l.bytes k 0 ≡ get_or l.name-2 k 0)
