use Rattle.std.proofs.Common.{◌≡◌, ◌≤◌, take}
use Rattle.bson_shape.specs.Levels.{deepest_variant, max_shape_levels}
use Rattle.bson_shape.specs.Makers.{AreVariants}
use Rattle.bson_shape.specs.ShapeView.{variants_of}
use Rattle.bson_shape.proofs.shape.deepest_variant.Given as goal

abbrev pub invariant-loop-variant : goal.invariant-loop-variant
invariant-loop-variant l = record {
  levels : l.levels ≡ deepest_variant (variants_of (take l.variant-index l.variants));
  few : l.levels ≤ max_shape_levels;
  shapes : AreVariants (variants_of (take l.variant-index l.variants));
}
