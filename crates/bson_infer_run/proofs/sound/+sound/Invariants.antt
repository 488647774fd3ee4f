use Rattle.std.proofs.Common.{◌≡◌, ◌+◌, ◌*◌, ◌≤◌, ◌↔◌, drop, length}
use Rattle.bson_base.specs.BsonView.{tree_of, trees_of, pairs_of}
use Rattle.bson_base.specs.Pairs.{AreDistinct}
use Rattle.bson_base.specs.Sound.{ArePairsClean, AreTreesClean, max_bytes}
use Rattle.bson_base.specs.Tree.{depth, pairs_depth, trees_depth, elements, array_elements}
use Rattle.bson_infer_run.proofs.sound.+sound.Given as goal

abbrev pub decreases-size_of : goal.decreases-size_of
decreases-size_of l = 4 * depth (tree_of l.value.now)

abbrev pub decreases-size_of_scoped : goal.decreases-size_of_scoped
decreases-size_of_scoped l = 4 * pairs_depth (pairs_of l.scoped.now.scope) + 3

abbrev pub decreases-size_of_document : goal.decreases-size_of_document
decreases-size_of_document l = 4 * pairs_depth (pairs_of l.document.now) + 2

abbrev pub decreases-size_of_array : goal.decreases-size_of_array
decreases-size_of_array l = 4 * trees_depth (trees_of l.values.now) + 2

abbrev pub decreases-size_of_pairs : goal.decreases-size_of_pairs
decreases-size_of_pairs l = 4 * pairs_depth (pairs_of l.document.now) + 1

abbrev pub decreases-size_of_items : goal.decreases-size_of_items
decreases-size_of_items l = 4 * trees_depth (trees_of l.values.now) + 1

-- the pairs that are left tell of all, and their bytes with those so far are all bytes
abbrev pub invariant-size_of_pairs-loop-key : goal.invariant-size_of_pairs-loop-key
invariant-size_of_pairs-loop-key l = (goal.iterator-size_of_pairs-loop-key).can_next l.key-iterator × (goal.iterator-size_of_pairs-loop-key).is_finite l.key-iterator
    × AreDistinct l.key-iterator × (l.total ≤ max_bytes) × (l.total + length (elements l.key-iterator) ≡ length (elements (pairs_of l.document)))
    × (ArePairsClean l.key-iterator ↔ ArePairsClean (pairs_of l.document)) × ((pairs_depth l.key-iterator ≤ l.levels) ↔ (pairs_depth (pairs_of l.document) ≤ l.levels))
    × (pairs_depth l.key-iterator ≤ pairs_depth (pairs_of l.document))

abbrev pub invariant-size_of_items-loop-i : goal.invariant-size_of_items-loop-i
invariant-size_of_items-loop-i l = record {
  most : l.total ≤ max_bytes;
  size : l.total + length (array_elements l.i (trees_of (drop l.i l.values))) ≡ length (array_elements 0 (trees_of l.values));
  clean : AreTreesClean (trees_of (drop l.i l.values)) ↔ AreTreesClean (trees_of l.values);
  nests : (trees_depth (trees_of (drop l.i l.values)) ≤ l.levels) ↔ (trees_depth (trees_of l.values) ≤ l.levels);
  deep : trees_depth (trees_of (drop l.i l.values)) ≤ trees_depth (trees_of l.values);
}
