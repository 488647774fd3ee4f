use Rattle.std.proofs.Common.{map, take}
use Rattle.bson_slots.specs.Indexes.{Indexes}
use Rattle.bson_slots.proofs.index.places_of.Given as goal

-- the map has the places of the names so far
abbrev pub invariant-loop-place : goal.invariant-loop-place
invariant-loop-place g l = Indexes l.places (map g.T.Named.named (take l.place l.items))
