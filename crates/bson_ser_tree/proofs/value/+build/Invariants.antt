-- What was made so far leaves to come what was to come from the fields, the entries or the values that are left.
use Rattle.std.proofs.Common.{◌≡◌, drop}
use Rattle.bson_base.specs.BsonView.{pairs_of}
use Rattle.bson_kinds.specs.Outcome.{result_map}
use Rattle.bson_base.specs.Tree.{no_pairs}
use Rattle.bson_datum.specs.View.{items_view, entries_view, fields_view}
use Rattle.bson_tree_laws.specs.TreeSpell.{tree_items, tree_entries, tree_fields}
use Rattle.bson_ser_tree.proofs.Before.{trees_before}
use Rattle.bson_ser_tree.proofs.value.+build.Given as goal

abbrev pub invariant-item_trees-loop-index : goal.invariant-item_trees-loop-index
invariant-item_trees-loop-index l =
    result_map (trees_before l.trees.items) (tree_items l.readable l.index (items_view (drop l.index l.items)) l.levels) ≡ tree_items l.readable 0 (items_view l.items) l.levels

abbrev pub invariant-entry_trees-loop-entry : goal.invariant-entry_trees-loop-entry
invariant-entry_trees-loop-entry l =
    tree_entries l.readable (entries_view (drop l.entry-index l.entries)) (pairs_of l.document) l.levels ≡ tree_entries l.readable (entries_view l.entries) no_pairs l.levels

abbrev pub invariant-field_trees-loop-field : goal.invariant-field_trees-loop-field
invariant-field_trees-loop-field l =
    tree_fields l.readable l.in_reserved (fields_view (drop l.field-index l.fields)) (pairs_of l.document) l.levels ≡ tree_fields l.readable l.in_reserved (fields_view l.fields) no_pairs l.levels
