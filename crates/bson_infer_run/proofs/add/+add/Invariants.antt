use Rattle.std.proofs.Common.{◌≡◌, ◌+◌, ◌*◌, ◌≤◌, drop}
use Rattle.bson_base.specs.BsonView.{tree_of, trees_of, pairs_of}
use Rattle.bson_base.specs.Sound.{ArePairsClean, AreTreesClean}
use Rattle.bson_base.specs.Tree.{depth, pairs_depth, trees_depth}
use Rattle.bson_infer_laws.specs.Inferred.{joined_shapes, inferred}
use Rattle.bson_infer_run.specs.Counted.{puts, counted_pairs}
use Rattle.bson_infer_run.specs.SummaryView.{counted_of, IsEven}
use Rattle.bson_infer_run.proofs.add.+add.Given as goal

abbrev pub decreases-add : goal.decreases-add
decreases-add l = 5 * depth (tree_of l.value.now)

abbrev pub decreases-common : goal.decreases-common
decreases-common l = 5 * trees_depth (trees_of l.values.now) + 1

abbrev pub decreases-add_document : goal.decreases-add_document
decreases-add_document l = 5 * pairs_depth (pairs_of l.document.now) + 4

abbrev pub decreases-with_document : goal.decreases-with_document
decreases-with_document l = 5 * pairs_depth (pairs_of l.document.now) + 3

abbrev pub decreases-of_document : goal.decreases-of_document
decreases-of_document l = 5 * pairs_depth (pairs_of l.document.now) + 3

abbrev pub decreases-add_pairs : goal.decreases-add_pairs
decreases-add_pairs l = 5 * pairs_depth (pairs_of l.document.now) + 2

abbrev pub decreases-add_pair : goal.decreases-add_pair
decreases-add_pair l = 5 * depth (tree_of l.value.now) + 1

-- what is left, added to what there is, gives all
abbrev pub invariant-common-loop-value : goal.invariant-common-loop-value
invariant-common-loop-value l = record {
  joined : joined_shapes l.summary (trees_of (drop l.value-index l.values)) ≡ inferred (trees_of l.values);
  clean : AreTreesClean (trees_of (drop l.value-index l.values));
  depth : trees_depth (trees_of (drop l.value-index l.values)) ≤ trees_depth (trees_of l.values);
}

abbrev pub invariant-add_pairs-loop-key : goal.invariant-add_pairs-loop-key
invariant-add_pairs-loop-key l = (goal.iterator-add_pairs-loop-key).can_next l.key-iterator × (goal.iterator-add_pairs-loop-key).is_finite l.key-iterator × IsEven l.fields
    × (l.fields.count ≡ l.fn.fields.count + 1) × ArePairsClean l.key-iterator × (pairs_depth l.key-iterator ≤ pairs_depth (pairs_of l.document))
    × (puts (counted_of l.fields) (counted_pairs l.key-iterator) ≡ puts (counted_of l.fn.fields) (counted_pairs (pairs_of l.document)))
