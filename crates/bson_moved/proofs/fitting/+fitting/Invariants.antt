use Rattle.std.proofs.Common.{◌≡◌, ◌+◌, ◌*◌, drop, true}
use Rattle.std.specs.Prelude.{is_some}
use Rattle.bson_base.specs.BsonView.{trees_of, pairs_of}
use Rattle.bson_shape.specs.ShapeView.{fields_of, nodes, fields_nodes}
use Rattle.bson_laws.specs.Views.{views, views_items, views_fields}
use Rattle.bson_moved.proofs.fitting.+fitting.Given as goal

abbrev pub decreases-has_view : goal.decreases-has_view
decreases-has_view l = 2 * nodes l.shape.now

abbrev pub decreases-have_views : goal.decreases-have_views
decreases-have_views l = 2 * nodes l.item.now + 1

abbrev pub decreases-fields_have_views : goal.decreases-fields_have_views
decreases-fields_have_views l = 2 * fields_nodes (fields_of l.fields.now)

abbrev pub decreases-field_has_view : goal.decreases-field_has_view
decreases-field_has_view l = 2 * nodes l.shape.now + 1

abbrev pub invariant-have_views-loop-value : goal.invariant-have_views-loop-value
invariant-have_views-loop-value l = is_some (views_items (views l.item) (trees_of (drop l.value-index l.values))) ≡ true → is_some (views_items (views l.item) (trees_of l.values)) ≡ true

abbrev pub invariant-fields_have_views-loop-field : goal.invariant-fields_have_views-loop-field
invariant-fields_have_views-loop-field l = is_some (views_fields (fields_of (drop l.field-index l.fields)) (pairs_of l.document)) ≡ true → is_some (views_fields (fields_of l.fields) (pairs_of l.document)) ≡ true
