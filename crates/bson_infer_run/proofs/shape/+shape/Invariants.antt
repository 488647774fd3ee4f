use Rattle.std.proofs.Common.{◌≡◌, ◌+◌, ◌*◌, drop}
use Rattle.bson_shape.specs.Form.{joined}
use Rattle.bson_shape.specs.Makers.{AreShapes}
use Rattle.bson_shape.specs.ShapeView.{nodes, fields_of}
use Rattle.bson_infer_run.specs.Counted.{settled}
use Rattle.bson_infer_run.specs.SummaryView.{counted_of, kind_form, struct_form}
use Rattle.bson_infer_run.proofs.shape.+shape.Given as goal

abbrev pub decreases-shape_of : goal.decreases-shape_of
decreases-shape_of l = 4 * nodes l.summary.now + 3

abbrev pub decreases-shape_of_kind : goal.decreases-shape_of_kind
decreases-shape_of_kind l = 4 * nodes (kind_form l.kind.now) + 2

abbrev pub decreases-shape_of_struct : goal.decreases-shape_of_struct
decreases-shape_of_struct l = 4 * nodes (struct_form l.summary.now) + 1

abbrev pub decreases-shape_of_field : goal.decreases-shape_of_field
decreases-shape_of_field l = 4 * nodes l.field.now.summary + 4

-- the fields so far, and those that are left, are all fields
abbrev pub invariant-shape_of_struct-loop-i : goal.invariant-shape_of_struct-loop-i
invariant-shape_of_struct-loop-i l = record {
  fields : joined (fields_of l.fields.items) (settled l.summary.count (drop l.i (counted_of l.summary))) ≡ settled l.summary.count (counted_of l.summary);
  shapes : AreShapes (settled l.summary.count (drop l.i (counted_of l.summary)));
}
