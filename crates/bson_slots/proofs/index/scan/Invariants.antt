use Rattle.std.proofs.Common.{◌≡◌, ℕ, ◌<◌, get_or, false}
use Rattle.std.specs.Str.{bytes_eq}
use Rattle.bson_slots.proofs.index.scan.Given as goal

-- none so far has the name
abbrev pub invariant-loop-place : goal.invariant-loop-place
invariant-loop-place g l = (k : ℕ) (d : _) → k < l.place → bytes_eq (g.T.Named.named (get_or l.items k d)) l.name ≡ false
