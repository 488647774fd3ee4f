use Rattle.std.proofs.Common.{◌≡◌, ◌≤◌, ◌+◌, ◌*◌, ◌++◌, ◌∷◌, [], drop}
use Rattle.bson_base.specs.BsonView.{tree_of, trees_of, pairs_of}
use Rattle.bson_kinds.specs.Outcome.{result_map}
use Rattle.bson_base.specs.Tree.{elements, array_elements}
use Rattle.bson_base.proofs.Nodes.{nodes, trees_nodes, pairs_nodes}
use Rattle.bson_laws.specs.Assembled.{built_pairs, built_trees}
use Rattle.bson_raw_builder.proofs.building.+build.Given as goal

abbrev pub decreases-put_value : goal.decreases-put_value
decreases-put_value l = 8 * nodes (tree_of l.value.now)

abbrev pub decreases-put_array : goal.decreases-put_array
decreases-put_array l = 8 * trees_nodes (trees_of l.values.now) + 3

abbrev pub decreases-put_values : goal.decreases-put_values
decreases-put_values l = 8 * trees_nodes (trees_of l.values.now) + 2

abbrev pub decreases-put_item : goal.decreases-put_item
decreases-put_item l = 8 * nodes (tree_of l.value.now) + 1

abbrev pub decreases-put_inner : goal.decreases-put_inner
decreases-put_inner l = 8 * pairs_nodes (pairs_of l.document.now) + 7

abbrev pub decreases-put_document : goal.decreases-put_document
decreases-put_document l = 8 * pairs_nodes (pairs_of l.document.now) + 5

abbrev pub decreases-put_looked : goal.decreases-put_looked
decreases-put_looked l = 8 * pairs_nodes (pairs_of l.document.now) + 4

abbrev pub decreases-put_pairs : goal.decreases-put_pairs
decreases-put_pairs l = 8 * pairs_nodes (pairs_of l.document.now) + 2

abbrev pub decreases-put_pair : goal.decreases-put_pair
decreases-put_pair l = 8 * nodes (tree_of l.value.now) + 1

abbrev pub decreases-put_first_code : goal.decreases-put_first_code
decreases-put_first_code l = 8 * pairs_nodes l.rest + 8

abbrev pub decreases-put_scoped : goal.decreases-put_scoped
decreases-put_scoped l = 8 * pairs_nodes (pairs_of l.scope.now) + 6

-- the elements so far, with what the pairs that are left are built as behind them
abbrev pub invariant-put_pairs-loop-key : goal.invariant-put_pairs-loop-key
invariant-put_pairs-loop-key l =
    (result_map (λ ps. l.out.items ++ elements ps) (built_pairs l.pairs l.levels) ≡ result_map (λ ps. (l.fn.out.items ++ 0 ∷ 0 ∷ 0 ∷ 0 ∷ []) ++ elements ps) (built_pairs (pairs_of l.document) l.levels))
    × (pairs_nodes l.pairs ≤ pairs_nodes (pairs_of l.document))

abbrev pub invariant-put_values-loop-index : goal.invariant-put_values-loop-index
invariant-put_values-loop-index l =
    result_map (λ ts. l.out.items ++ array_elements l.index ts) (built_trees (trees_of (drop l.index l.values)) l.levels)
    ≡ result_map (λ ts. (l.fn.out.items ++ 0 ∷ 0 ∷ 0 ∷ 0 ∷ []) ++ array_elements 0 ts) (built_trees (trees_of l.values) l.levels)
