use Rattle.std.proofs.Common.{◌≡◌, false, take}
use Rattle.bson_shape.specs.Makers.{contents_repeat}
use Rattle.bson_shape.specs.ShapeView.{variants_of}
use Rattle.bson_shape.proofs.distinct.has_repeat_inside.Given as goal

abbrev pub invariant-loop-variant : goal.invariant-loop-variant
invariant-loop-variant l = contents_repeat (variants_of (take l.variant-index l.variants)) ≡ false
