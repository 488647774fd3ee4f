use Rattle.std.proofs.Common.{◌+◌, ◌*◌, ◌≤◌, drop}
use Rattle.bson_base.specs.BsonView.{tree_of, trees_of, pairs_of}
use Rattle.bson_base.proofs.Nodes.{nodes, trees_nodes, pairs_nodes}
use Rattle.bson_json_text.proofs.Putting.{Going, Passing}
use Rattle.bson_json_text.proofs.printing.+put.Given as goal

abbrev pub decreases-put_value : goal.decreases-put_value
decreases-put_value l = 3 * nodes (tree_of l.value.now)

abbrev pub decreases-put_document : goal.decreases-put_document
decreases-put_document l = 3 * pairs_nodes (pairs_of l.document.now) + 1

abbrev pub decreases-put_scoped : goal.decreases-put_scoped
decreases-put_scoped l = 3 * pairs_nodes (pairs_of l.scope.now) + 2

abbrev pub decreases-put_array : goal.decreases-put_array
decreases-put_array l = 3 * trees_nodes (trees_of l.values.now) + 1

abbrev pub invariant-put_document-loop-key : goal.invariant-put_document-loop-key
invariant-put_document-loop-key l = Going l.form (pairs_of l.document) l.pairs l.fn.writer l.writer × (pairs_nodes l.pairs ≤ pairs_nodes (pairs_of l.document))

abbrev pub invariant-put_array-loop-value : goal.invariant-put_array-loop-value
invariant-put_array-loop-value l = Passing l.form (trees_of l.values) (trees_of (drop l.value-index l.values)) l.fn.writer l.writer
