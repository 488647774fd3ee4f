use Rattle.std.proofs.Common.{take}
use Rattle.bson_infer_run.specs.NamesView.{FindsAll}
use Rattle.bson_infer_run.proofs.NamePlaces.{texts_of}
use Rattle.bson_infer_run.proofs.names.places_of.Given as goal

-- the B-tree has the indexes of the names so far
abbrev pub invariant-loop-place : goal.invariant-loop-place
invariant-loop-place l = FindsAll l.places (texts_of (take l.place l.texts))
