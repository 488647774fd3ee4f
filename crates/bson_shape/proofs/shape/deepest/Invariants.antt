use Rattle.std.proofs.Common.{◌≡◌, ◌≤◌, take}
use Rattle.bson_shape.specs.Levels.{deepest, max_shape_levels}
use Rattle.bson_shape.specs.Makers.{AreShapes}
use Rattle.bson_shape.specs.ShapeView.{fields_of}
use Rattle.bson_shape.proofs.shape.deepest.Given as goal

abbrev pub invariant-loop-field : goal.invariant-loop-field
invariant-loop-field l = record {
  levels : l.levels ≡ deepest (fields_of (take l.field-index l.fields));
  few : l.levels ≤ max_shape_levels;
  shapes : AreShapes (fields_of (take l.field-index l.fields));
}
