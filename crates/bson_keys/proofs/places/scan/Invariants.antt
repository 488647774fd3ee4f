use Rattle.std.proofs.Common.{◌≡◌, ◌≤◌, length, take, map}
use Rattle.bson_kinds.specs.Places.{place_among}
use Rattle.bson_keys.proofs.places.scan.Given as goal

-- the text is none of the keys from this place on
abbrev pub invariant-loop-place : goal.invariant-loop-place
invariant-loop-place l =
    (l.place ≤ length l.keys) × (place_among (map (λ k. k.now) l.keys) l.text ≡ place_among (map (λ k. k.now) (take l.place l.keys)) l.text)

abbrev pub decreases-loop-place : goal.decreases-loop-place
decreases-loop-place l = l.place
