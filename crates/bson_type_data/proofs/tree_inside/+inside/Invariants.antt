-- What was made so far, with what is left, gives what all items and entries give.
use Rattle.std.proofs.Common.{◌≡◌, drop}
use Rattle.bson_base.specs.BsonView.{trees_of, pairs_of}
use Rattle.bson_base.specs.Tree.{no_pairs}
use Rattle.bson_kinds.specs.Outcome.{result_map}
use Rattle.bson_datum.specs.View.{items_view, entries_view}
use Rattle.bson_type_data.specs.Trees.{taken_trees, taken_pairs}
use Rattle.bson_type_data.proofs.TreeSteps.{trees_joined}
use Rattle.bson_type_data.proofs.tree_inside.+inside.Given as goal

abbrev pub invariant-values_in-loop-item : goal.invariant-values_in-loop-item
invariant-values_in-loop-item l = result_map (trees_joined (trees_of l.values.items)) (taken_trees (items_view (drop l.item-index l.items))) ≡ taken_trees (items_view l.items)

abbrev pub invariant-pairs_in-loop-entry : goal.invariant-pairs_in-loop-entry
invariant-pairs_in-loop-entry l = taken_pairs (pairs_of l.document) (entries_view (drop l.entry-index l.entries)) ≡ taken_pairs no_pairs (entries_view l.entries)
