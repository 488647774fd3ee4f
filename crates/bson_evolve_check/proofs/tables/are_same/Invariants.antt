use Rattle.std.proofs.Common.{◌≡◌}
use Rattle.bson_shape.proofs.Sames.{same_from}
use Rattle.bson_evolve_check.proofs.tables.are_same.Given as goal

-- the definitions from here on decide
abbrev pub invariant-loop-i : goal.invariant-loop-i
invariant-loop-i l = same_from l.i l.a l.b ≡ same_from 0 l.a l.b
