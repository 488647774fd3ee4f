use Rattle.std.proofs.Common.{◌≡◌, drop}
use Rattle.bson_evolve_laws.specs.Rows.{fields_in}
use Rattle.bson_shape.specs.ShapeView.{fields_of, variants_of}
use Rattle.bson_evolve_check.proofs.keys.fields_in.Given as goal

-- the names from here on decide
abbrev pub invariant-loop-field : goal.invariant-loop-field
invariant-loop-field l = record {
  items : l.index.items.now ≡ l.units;
  left : fields_in (fields_of (drop l.field-index l.fields)) (variants_of l.units) ≡ fields_in (fields_of (drop 0 l.fields)) (variants_of l.units);
}
