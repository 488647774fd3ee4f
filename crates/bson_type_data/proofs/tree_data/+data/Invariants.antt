-- The items and the entries so far, with the data of what is left behind them, are the data of all.
use Rattle.std.proofs.Common.{◌≡◌, ◌≤◌, ◌+◌, ◌*◌, drop}
use Rattle.bson_base.specs.BsonView.{tree_of, trees_of, pairs_of}
use Rattle.bson_base.specs.Tree.{depth, pairs_depth, trees_depth}
use Rattle.bson_datum.specs.View.{items_view, entries_view}
use Rattle.bson_laws.specs.Datum.{pair_data, tree_data, itself}
use Rattle.bson_type_data.proofs.Joined.{joined as joined_items, joined_entries}
use Rattle.bson_type_data.proofs.tree_data.+data.Given as goal

abbrev pub decreases-tree_datum : goal.decreases-tree_datum
decreases-tree_datum l = 3 * depth (tree_of l.value.now)

abbrev pub decreases-values_datum : goal.decreases-values_datum
decreases-values_datum l = 3 * trees_depth (trees_of l.values.now) + 1

abbrev pub decreases-document_datum : goal.decreases-document_datum
decreases-document_datum l = 3 * pairs_depth (pairs_of l.document.now) + 1

abbrev pub decreases-scoped_datum : goal.decreases-scoped_datum
decreases-scoped_datum l = 3 * pairs_depth (pairs_of l.scoped.now.scope) + 2

abbrev pub invariant-values_datum-loop-value : goal.invariant-values_datum-loop-value
invariant-values_datum-loop-value l = record {
  made : joined_items (items_view l.items.items) (tree_data itself (trees_of (drop l.value-index l.values))) ≡ tree_data itself (trees_of l.values);
  depth : trees_depth (trees_of (drop l.value-index l.values)) ≤ trees_depth (trees_of l.values);
}

abbrev pub invariant-document_datum-loop-key : goal.invariant-document_datum-loop-key
invariant-document_datum-loop-key l = record {
  can : (goal.iterator-document_datum-loop-key).can_next l.key-iterator;
  ends : (goal.iterator-document_datum-loop-key).is_finite l.key-iterator;
  made : joined_entries (entries_view l.entries.items) (pair_data itself l.key-iterator) ≡ pair_data itself (pairs_of l.document);
  depth : pairs_depth l.key-iterator ≤ pairs_depth (pairs_of l.document);
}
