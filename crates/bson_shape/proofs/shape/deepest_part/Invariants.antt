use Rattle.std.proofs.Common.{◌≡◌, ◌≤◌, take}
use Rattle.bson_shape.specs.Levels.{deepest_part, max_shape_levels}
use Rattle.bson_shape.specs.Makers.{AreParts}
use Rattle.bson_shape.specs.ShapeView.{parts_of}
use Rattle.bson_shape.proofs.shape.deepest_part.Given as goal

abbrev pub invariant-loop-part : goal.invariant-loop-part
invariant-loop-part l = record {
  levels : l.levels ≡ deepest_part (parts_of (take l.part-index l.parts));
  few : l.levels ≤ max_shape_levels;
  shapes : AreParts (parts_of (take l.part-index l.parts));
}
