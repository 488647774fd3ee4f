use Rattle.std.proofs.Common.{◌≡◌, ◌+◌, ◌*◌, ◌≤◌, leb, drop}
use Rattle.bson_base.specs.BsonView.{tree_of, trees_of, pairs_of}
use Rattle.bson_base.specs.Tree.{pairs_depth, trees_depth}
use Rattle.bson_base.proofs.Nodes.{nodes, trees_nodes, pairs_nodes}
use Rattle.bson_json_laws.proofs.levels.+nest.Given as goal

abbrev pub decreases-is_within : goal.decreases-is_within
decreases-is_within l = 2 * nodes (tree_of l.value.now)

abbrev pub decreases-are_pairs_within : goal.decreases-are_pairs_within
decreases-are_pairs_within l = 2 * pairs_nodes (pairs_of l.document.now) + 1

abbrev pub decreases-are_values_within : goal.decreases-are_values_within
decreases-are_values_within l = 2 * trees_nodes (trees_of l.values.now) + 1

abbrev pub invariant-are_pairs_within-loop-key : goal.invariant-are_pairs_within-loop-key
invariant-are_pairs_within-loop-key l =
    (leb (pairs_depth (pairs_of l.document)) l.levels ≡ leb (pairs_depth l.pairs) l.levels) × (pairs_nodes l.pairs ≤ pairs_nodes (pairs_of l.document))

abbrev pub invariant-are_values_within-loop-value : goal.invariant-are_values_within-loop-value
invariant-are_values_within-loop-value l = leb (trees_depth (trees_of l.values)) l.levels ≡ leb (trees_depth (trees_of (drop l.value-index l.values))) l.levels
