use Rattle.std.proofs.Common.{◌≤◌, ◌+◌, ◌*◌, drop}
use Rattle.bson_base.specs.BsonView.{tree_of, trees_of, pairs_of}
use Rattle.bson_base.specs.Pairs.{AreDistinct}
use Rattle.bson_base.specs.Sound.{AreTreesClean, ArePairsClean}
use Rattle.bson_base.specs.Tree.{trees_depth, pairs_depth}
use Rattle.bson_base.proofs.Nodes.{nodes, trees_nodes, pairs_nodes}
use Rattle.bson_moved.proofs.clean.+clean.Given as goal

abbrev pub decreases-is_clean : goal.decreases-is_clean
decreases-is_clean l = 3 * nodes (tree_of l.value.now)

abbrev pub decreases-are_clean : goal.decreases-are_clean
decreases-are_clean l = 3 * trees_nodes (trees_of l.values.now) + 1

abbrev pub decreases-is_clean_document : goal.decreases-is_clean_document
decreases-is_clean_document l = 3 * pairs_nodes (pairs_of l.document.now) + 1

abbrev pub invariant-are_clean-loop-value : goal.invariant-are_clean-loop-value
invariant-are_clean-loop-value l = record {
  clean : AreTreesClean (trees_of (drop l.value-index l.values)) → AreTreesClean (trees_of l.values);
  nests : trees_depth (trees_of (drop l.value-index l.values)) ≤ l.levels → trees_depth (trees_of l.values) ≤ l.levels;
}

abbrev pub invariant-is_clean_document-loop-key : goal.invariant-is_clean_document-loop-key
invariant-is_clean_document-loop-key l = record {
  fewer : pairs_nodes l.pairs ≤ pairs_nodes (pairs_of l.document);
  distinct : AreDistinct l.pairs;
  clean : ArePairsClean l.pairs → ArePairsClean (pairs_of l.document);
  nests : pairs_depth l.pairs ≤ l.levels → pairs_depth (pairs_of l.document) ≤ l.levels;
}
