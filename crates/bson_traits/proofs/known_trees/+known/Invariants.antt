-- What holds of all values and pairs where it holds of those that are left.
use Rattle.std.proofs.Common.{◌≤◌, ◌+◌, ◌*◌, drop}
use Rattle.bson_base.specs.BsonView.{tree_of, trees_of, pairs_of}
use Rattle.bson_base.specs.Tree.{depth, pairs_depth, trees_depth}
use Rattle.bson_laws.specs.InRange.{ArePairsInRange, AreTreesInRange}
use Rattle.bson_type_data.specs.Trees.{ArePairsInMemory, AreTreesInMemory}
use Rattle.bson_traits.proofs.known_trees.+known.Given as goal

abbrev pub decreases-known_tree : goal.decreases-known_tree
decreases-known_tree l = 3 * depth (tree_of l.value.now)

abbrev pub decreases-known_values : goal.decreases-known_values
decreases-known_values l = 3 * trees_depth (trees_of l.values.now) + 1

abbrev pub decreases-known_document : goal.decreases-known_document
decreases-known_document l = 3 * pairs_depth (pairs_of l.document.now) + 1

abbrev pub decreases-known_scoped : goal.decreases-known_scoped
decreases-known_scoped l = 3 * pairs_depth (pairs_of l.scoped.now.scope) + 2

abbrev pub invariant-known_values-loop-value : goal.invariant-known_values-loop-value
invariant-known_values-loop-value l = record {
  ranges : AreTreesInRange (trees_of (drop l.value-index l.values)) → AreTreesInRange (trees_of l.values);
  memory : AreTreesInMemory (trees_of (drop l.value-index l.values)) → AreTreesInMemory (trees_of l.values);
  depth : trees_depth (trees_of (drop l.value-index l.values)) ≤ trees_depth (trees_of l.values);
}

abbrev pub invariant-known_document-loop-key : goal.invariant-known_document-loop-key
invariant-known_document-loop-key l = record {
  can : (goal.iterator-known_document-loop-key).can_next l.key-iterator;
  ends : (goal.iterator-known_document-loop-key).is_finite l.key-iterator;
  ranges : ArePairsInRange l.key-iterator → ArePairsInRange (pairs_of l.document);
  memory : ArePairsInMemory l.key-iterator → ArePairsInMemory (pairs_of l.document);
  depth : pairs_depth l.key-iterator ≤ pairs_depth (pairs_of l.document);
}
