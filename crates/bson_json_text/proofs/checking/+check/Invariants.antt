use Rattle.std.proofs.Common.{◌≡◌, ◌+◌, ◌*◌, ◌≤◌, drop}
use Rattle.bson_base.specs.BsonView.{tree_of, trees_of, pairs_of}
use Rattle.bson_base.specs.Pairs.{AreDistinct}
use Rattle.bson_base.proofs.Nodes.{nodes, trees_nodes, pairs_nodes}
use Rattle.bson_json_laws.specs.Held.{ArePairsHeld, AreTreesHeld}
use Rattle.bson_json_laws.specs.TextFault.{pairs_text_fault, trees_text_fault}
use Rattle.bson_json_text.proofs.checking.+check.Given as goal

abbrev pub decreases-check_value : goal.decreases-check_value
decreases-check_value l = 4 * nodes (tree_of l.value.now)

abbrev pub decreases-check_member : goal.decreases-check_member
decreases-check_member l = 4 * nodes (tree_of l.value.now) + 1

abbrev pub decreases-check_pair : goal.decreases-check_pair
decreases-check_pair l = 4 * nodes (tree_of l.value.now) + 2

abbrev pub decreases-check_item : goal.decreases-check_item
decreases-check_item l = 4 * nodes (tree_of l.value.now) + 1

abbrev pub decreases-check_pairs : goal.decreases-check_pairs
decreases-check_pairs l = 4 * pairs_nodes (pairs_of l.document.now) + 1

abbrev pub decreases-check_scope : goal.decreases-check_scope
decreases-check_scope l = 4 * pairs_nodes (pairs_of l.scope.now) + 2

abbrev pub decreases-check_values : goal.decreases-check_values
decreases-check_values l = 4 * trees_nodes (trees_of l.values.now) + 1

abbrev pub invariant-check_pairs-loop-key : goal.invariant-check_pairs-loop-key
invariant-check_pairs-loop-key l =
    (pairs_text_fault (pairs_of l.document) ≡ pairs_text_fault l.pairs) × (ArePairsHeld l.pairs → ArePairsHeld (pairs_of l.document)) × AreDistinct l.pairs
    × (pairs_nodes l.pairs ≤ pairs_nodes (pairs_of l.document))

abbrev pub invariant-check_values-loop-index : goal.invariant-check_values-loop-index
invariant-check_values-loop-index l =
    (trees_text_fault 0 (trees_of l.values) ≡ trees_text_fault l.index (trees_of (drop l.index l.values))) × (AreTreesHeld (trees_of (drop l.index l.values)) → AreTreesHeld (trees_of l.values))
