use Rattle.std.proofs.Common.{◌≡◌, ◌+◌, ◌*◌, drop, length, true}
use Rattle.std.specs.Prelude.{is_some, option_map}
use Rattle.std.specs.Vec.Iter.{into_iter_items, into_iter_len}
use Rattle.bson_base.specs.BsonView.{trees_of, pairs_of}
use Rattle.bson_shape.specs.Makers.{AreDistinct}
use Rattle.bson_shape.specs.ShapeView.{fields_of, nodes, fields_nodes}
use Rattle.bson_datum.specs.Borrowed.{NoneBorrowed, items_borrowed, fields_borrowed}
use Rattle.bson_datum.specs.View.{items_view, fields_view}
use Rattle.bson_laws.specs.Views.{views, views_items, views_fields}
use Rattle.bson_moved.specs.Simple.{are_simple}
use Rattle.bson_moved.proofs.Moves.{items_and, fields_and}
use Rattle.bson_moved.proofs.moving.+take.Given as goal

-- four times the nodes of the shape, and one or two more where a function hands the same parts on
abbrev pub decreases-take : goal.decreases-take
decreases-take l = 4 * nodes l.shape.now

abbrev pub decreases-take_option : goal.decreases-take_option
decreases-take_option l = 4 * nodes l.inner.now + 1

abbrev pub decreases-take_items : goal.decreases-take_items
decreases-take_items l = 4 * nodes l.item.now + 1

abbrev pub decreases-take_struct : goal.decreases-take_struct
decreases-take_struct l = 4 * fields_nodes (fields_of l.fields.now) + 2

abbrev pub decreases-take_fields : goal.decreases-take_fields
decreases-take_fields l = 4 * fields_nodes (fields_of l.fields.now) + 1

abbrev pub decreases-take_field : goal.decreases-take_field
decreases-take_field l = 4 * nodes l.field.now.shape + 1

abbrev pub invariant-take_items-loop-value : goal.invariant-take_items-loop-value
invariant-take_items-loop-value l = record {
  all : option_map (items_and (items_view l.items.items)) (views_items (views l.item) (trees_of (into_iter_items l.value-iterator))) ≡ views_items (views l.item) (trees_of l.fn.values.items);
  present : is_some (views_items (views l.item) (trees_of (into_iter_items l.value-iterator))) ≡ true;
  count : into_iter_len l.value-iterator ≡ length (into_iter_items l.value-iterator);
  owned : NoneBorrowed (items_borrowed l.items.items);
}

abbrev pub invariant-take_fields-loop-field : goal.invariant-take_fields-loop-field
invariant-take_fields-loop-field l = record {
  all : option_map (fields_and (fields_view l.taken.items)) (views_fields (fields_of (drop l.field-index l.fields)) (pairs_of l.left)) ≡ views_fields (fields_of l.fields) (pairs_of l.fn.document);
  present : is_some (views_fields (fields_of (drop l.field-index l.fields)) (pairs_of l.left)) ≡ true;
  distinct : AreDistinct (fields_of (drop l.field-index l.fields));
  simple : are_simple (fields_of (drop l.field-index l.fields)) ≡ true;
  owned : NoneBorrowed (fields_borrowed l.taken.items);
}
