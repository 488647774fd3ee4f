use Rattle.std.proofs.Common.{◌≡◌, ◌≤◌, length, drop}
use Rattle.bson_kinds.specs.Text.{Utf8}
use Rattle.bson_shape.specs.Guarded.{definition}
use Rattle.bson_shape.specs.ShapeView.{fields_of}
use Rattle.bson_shape.specs.Prover.Search.{unseen_in}
use Rattle.bson_shape.proofs.search.all_unseen.Given as goal

-- those from this place on are there
abbrev pub invariant-loop-at : goal.invariant-loop-at
invariant-loop-at l = (l.at ≤ length l.table) × ((key : Utf8) → unseen_in l.unseen key ≡ definition (fields_of (drop l.at l.table)) key)

abbrev pub decreases-loop-at : goal.decreases-loop-at
decreases-loop-at l = l.at
