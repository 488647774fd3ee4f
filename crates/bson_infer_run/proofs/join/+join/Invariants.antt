use Rattle.std.proofs.Common.{◌≡◌, ◌+◌, ◌*◌, drop, length}
use Rattle.bson_shape.specs.ShapeView.{nodes}
use Rattle.bson_infer_run.specs.Counted.{puts}
use Rattle.bson_infer_run.specs.SummaryView.{counted_of, kind_form, struct_form, IsEven}
use Rattle.bson_infer_run.proofs.join.+join.Given as goal

abbrev pub decreases-joined : goal.decreases-joined
decreases-joined l = 4 * nodes l.second + 3

abbrev pub decreases-join_kinds : goal.decreases-join_kinds
decreases-join_kinds l = 4 * nodes (kind_form l.second) + 2

abbrev pub decreases-join_items : goal.decreases-join_items
decreases-join_items l = 4 * nodes l.second.value + 4

abbrev pub decreases-join_structs : goal.decreases-join_structs
decreases-join_structs l = 4 * nodes (struct_form l.second.value) + 1

abbrev pub decreases-join_fields : goal.decreases-join_fields
decreases-join_fields l = 4 * nodes (struct_form l.second)

abbrev pub decreases-join_field : goal.decreases-join_field
decreases-join_field l = 4 * nodes l.field.summary + 4

-- what is left, added to what there is, gives all
abbrev pub invariant-join_fields-loop-field : goal.invariant-join_fields-loop-field
invariant-join_fields-loop-field l = record {
  place : l.place ≡ length l.yielded;
  even : IsEven l.first;
  count : l.first.count ≡ l.fn.first.count + l.fn.second.count;
  fields : puts (counted_of l.first) (drop l.place (counted_of l.fn.second)) ≡ puts (counted_of l.fn.first) (counted_of l.fn.second);
}
