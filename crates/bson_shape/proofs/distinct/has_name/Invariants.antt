use Rattle.std.proofs.Common.{◌≡◌, false, map, take}
use Rattle.bson_shape.specs.Makers.{has_name}
use Rattle.bson_shape.proofs.distinct.has_name.Given as goal

abbrev pub invariant-loop-item : goal.invariant-loop-item
invariant-loop-item g l = has_name l.name (map g.T.Named.named (take l.item-index l.items)) ≡ false
