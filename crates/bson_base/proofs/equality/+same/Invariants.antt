use Rattle.std.proofs.Common.{◌≡◌, ◌*◌}
use Rattle.bson_base.specs.BsonView.{tree_of, trees_of, pairs_of}
use Rattle.bson_base.proofs.Nodes.{nodes, trees_nodes, pairs_nodes}
use Rattle.bson_base.proofs.Sames.{same_trees_from, same_pairs_from}
use Rattle.bson_base.proofs.equality.+same.Given as goal

abbrev pub decreases-is_same : goal.decreases-is_same
decreases-is_same l = 2 * nodes (tree_of l.a.now)

abbrev pub decreases-are_same_values : goal.decreases-are_same_values
decreases-are_same_values l = 2 * trees_nodes (trees_of l.a.now)

abbrev pub decreases-are_same_documents : goal.decreases-are_same_documents
decreases-are_same_documents l = 2 * pairs_nodes (pairs_of l.a.now)

abbrev pub invariant-are_same_values-loop-i : goal.invariant-are_same_values-loop-i
invariant-are_same_values-loop-i l = same_trees_from l.i l.a l.b ≡ same_trees_from 0 l.a l.b

abbrev pub invariant-are_same_documents-loop-i : goal.invariant-are_same_documents-loop-i
invariant-are_same_documents-loop-i l = same_pairs_from l.i l.pairs l.others ≡ same_pairs_from 0 l.pairs l.others
