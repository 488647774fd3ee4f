use Rattle.std.proofs.Common.{take}
use Rattle.std.specs.List.{All}
use Rattle.bson_traits.proofs.sequence.VecRoundTrip.known.Given as goal

-- those so far are values
abbrev pub invariant-loop-x : goal.invariant-loop-x
invariant-loop-x g l = All g.T.RoundTrip.is_value (take l.x-index l.self.items)
