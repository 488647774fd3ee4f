use Rattle.std.proofs.Common.{◌≡◌, ◌+◌, ◌-◌, ◌*◌}
use Rattle.bson_base.specs.BsonView.{trees_of, pairs_of}
use Rattle.bson_rawdoc.specs.DocumentTree.{pairs_with, trees_with, pairs_at, trees_at, tree_at}
use Rattle.bson_rawdoc.specs.DocumentView.{document_bytes, array_bytes}
use Rattle.bson_rawdoc.proofs.tree.+tree.Given as goal

abbrev pub decreases-document_of : goal.decreases-document_of
decreases-document_of l = 2 * l.levels

abbrev pub decreases-value_of : goal.decreases-value_of
decreases-value_of l = 2 * l.levels + 1

abbrev pub decreases-values_of : goal.decreases-values_of
decreases-values_of l = 2 * l.levels

abbrev pub invariant-document_of-loop-element : goal.invariant-document_of-loop-element
invariant-document_of-loop-element l =
    (goal.iterator-document_of-loop-element).can_next l.element-iterator × (goal.iterator-document_of-loop-element).is_finite l.element-iterator
    × (pairs_with (tree_at (l.levels - 1)) (pairs_of l.pairs) l.element-iterator ≡ pairs_at l.levels (document_bytes l.document))

abbrev pub invariant-values_of-loop-element : goal.invariant-values_of-loop-element
invariant-values_of-loop-element l =
    (goal.iterator-values_of-loop-element).can_next l.element-iterator × (goal.iterator-values_of-loop-element).is_finite l.element-iterator
    × (trees_with (tree_at (l.levels - 1)) (trees_of l.values.items) l.element-iterator ≡ trees_at l.levels (array_bytes l.array))
