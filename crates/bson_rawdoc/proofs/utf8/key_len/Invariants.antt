use Rattle.std.proofs.Common.{◌≡◌, ℕ, ◌<◌, get_or}
use Rattle.bson_rawdoc.proofs.utf8.key_len.Given as goal

-- no character so far is zero, and all are ASCII
abbrev pub invariant-loop-i : goal.invariant-loop-i
invariant-loop-i l = (k : ℕ) → k < l.i → (get_or l.bytes k 0 ≡ 0 → ⊥) × (get_or l.bytes k 0 < 128)
