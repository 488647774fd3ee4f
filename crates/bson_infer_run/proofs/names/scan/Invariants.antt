use Rattle.std.proofs.Common.{◌≡◌, ◌≤◌, length, take}
use Rattle.bson_kinds.specs.Places.{place_among}
use Rattle.bson_infer_run.proofs.NamePlaces.{texts_of}
use Rattle.bson_infer_run.proofs.names.scan.Given as goal

-- the name is none of those from this index on
abbrev pub invariant-loop-place : goal.invariant-loop-place
invariant-loop-place l = (l.place ≤ length l.texts) × (place_among (texts_of l.texts) l.name ≡ place_among (texts_of (take l.place l.texts)) l.name)

abbrev pub decreases-loop-place : goal.decreases-loop-place
decreases-loop-place l = l.place
