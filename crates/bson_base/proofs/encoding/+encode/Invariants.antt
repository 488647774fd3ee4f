use Rattle.std.proofs.Common.{◌≡◌, ◌≤◌, ◌+◌, ◌*◌, ◌++◌, ◌∷◌, [], drop}
use Rattle.bson_base.specs.BsonView.{tree_of, trees_of, pairs_of}
use Rattle.bson_base.specs.Encoded.{pairs_encode_fault, trees_encode_fault}
use Rattle.bson_base.specs.Tree.{elements, array_elements}
use Rattle.bson_base.proofs.Nodes.{nodes, trees_nodes, pairs_nodes}
use Rattle.bson_base.proofs.encoding.+encode.Given as goal

abbrev pub decreases-put_value : goal.decreases-put_value
decreases-put_value l = 3 * nodes (tree_of l.value.now)

abbrev pub decreases-put_document : goal.decreases-put_document
decreases-put_document l = 3 * pairs_nodes (pairs_of l.document.now) + 1

abbrev pub decreases-put_scoped : goal.decreases-put_scoped
decreases-put_scoped l = 3 * pairs_nodes (pairs_of l.scope.now) + 2

abbrev pub decreases-put_array : goal.decreases-put_array
decreases-put_array l = 3 * trees_nodes (trees_of l.values.now) + 1

abbrev pub invariant-put_document-loop-key : goal.invariant-put_document-loop-key
invariant-put_document-loop-key l =
    (l.out.items ++ elements l.pairs ≡ (l.fn.out.items ++ 0 ∷ 0 ∷ 0 ∷ 0 ∷ []) ++ elements (pairs_of l.document))
    × (pairs_encode_fault l.pairs ≡ pairs_encode_fault (pairs_of l.document))
    × (pairs_nodes l.pairs ≤ pairs_nodes (pairs_of l.document))

abbrev pub invariant-put_array-loop-index : goal.invariant-put_array-loop-index
invariant-put_array-loop-index l =
    (l.out.items ++ array_elements l.index (trees_of (drop l.index l.values)) ≡ (l.fn.out.items ++ 0 ∷ 0 ∷ 0 ∷ 0 ∷ []) ++ array_elements 0 (trees_of l.values))
    × (trees_encode_fault (trees_of (drop l.index l.values)) ≡ trees_encode_fault (trees_of l.values))
