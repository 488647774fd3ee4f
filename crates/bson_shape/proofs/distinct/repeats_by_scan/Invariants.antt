use Rattle.std.proofs.Common.{◌≡◌, false, map, take}
use Rattle.bson_shape.specs.Makers.{has_repeat}
use Rattle.bson_shape.proofs.distinct.repeats_by_scan.Given as goal

abbrev pub invariant-loop-i : goal.invariant-loop-i
invariant-loop-i g l = has_repeat (map g.T.Named.named (take l.i l.items)) ≡ false
