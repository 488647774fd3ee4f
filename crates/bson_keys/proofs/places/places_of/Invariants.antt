use Rattle.std.proofs.Common.{map, take}
use Rattle.bson_keys.specs.Places.{FindsAll}
use Rattle.bson_keys.proofs.places.places_of.Given as goal

-- the map has the places of the keys so far
abbrev pub invariant-loop-place : goal.invariant-loop-place
invariant-loop-place l = FindsAll l.places (map (λ k. k.now) (take l.place l.keys))
