use Rattle.std.proofs.Common.{◌≡◌, drop}
use Rattle.bson_evolve_laws.specs.Rows.{no_units}
use Rattle.bson_shape.specs.ShapeView.{variants_of}
use Rattle.bson_evolve_check.proofs.variants.no_units.Given as goal

-- the variants from here on decide
abbrev pub invariant-loop-variant : goal.invariant-loop-variant
invariant-loop-variant l = no_units (variants_of (drop l.variant-index l.variants)) ≡ no_units (variants_of (drop 0 l.variants))
