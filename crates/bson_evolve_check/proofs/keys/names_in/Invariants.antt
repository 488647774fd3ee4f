use Rattle.std.proofs.Common.{◌≡◌, drop}
use Rattle.bson_evolve_laws.specs.Rows.{names_in}
use Rattle.bson_shape.specs.ShapeView.{variants_of}
use Rattle.bson_evolve_check.proofs.keys.names_in.Given as goal

-- the names from here on decide
abbrev pub invariant-loop-variant : goal.invariant-loop-variant
invariant-loop-variant l = record {
  items : l.index.items.now ≡ l.units;
  left : names_in (variants_of (drop l.variant-index l.names)) (variants_of l.units) ≡ names_in (variants_of (drop 0 l.names)) (variants_of l.units);
}
