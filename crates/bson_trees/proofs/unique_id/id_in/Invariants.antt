use Rattle.std.proofs.Common.{◌≡◌}
use Rattle.bson_base.specs.Tree.{Pairs, no_pairs}
use Rattle.bson_met.specs.Sizes.{count}
use Rattle.bson_trees.specs.Leaves.{uuid_elements}
use Rattle.bson_trees.proofs.unique_id.id_in.Given as goal

-- after some pairs, what is left of the document is read as all that is in it
abbrev pub invariant-step : goal.invariant-step
invariant-step l = (ps : Pairs) × (uuid_elements l.elements ps ≡ uuid_elements l.fn.elements no_pairs)

abbrev pub decreases-step : goal.decreases-step
decreases-step l = count l.elements
