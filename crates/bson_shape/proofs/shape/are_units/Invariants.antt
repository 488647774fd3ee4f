use Rattle.std.proofs.Common.{◌≡◌, true, take}
use Rattle.bson_shape.specs.Makers.{are_units}
use Rattle.bson_shape.specs.ShapeView.{variants_of}
use Rattle.bson_shape.proofs.shape.are_units.Given as goal

abbrev pub invariant-loop-variant : goal.invariant-loop-variant
invariant-loop-variant l = are_units (variants_of (take l.variant-index l.variants)) ≡ true
