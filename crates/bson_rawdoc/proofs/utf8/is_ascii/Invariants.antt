use Rattle.std.proofs.Common.{ℕ, ◌<◌, get_or}
use Rattle.bson_rawdoc.proofs.utf8.is_ascii.Given as goal

-- all bytes so far are ASCII
abbrev pub invariant-loop-b : goal.invariant-loop-b
invariant-loop-b l = (k : ℕ) → k < l.b-index → get_or l.bytes k 0 < 128
