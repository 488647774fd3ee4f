use Rattle.std.proofs.Common.{◌≡◌, drop}
use Rattle.bson_evolve_laws.specs.Rows.{are_known}
use Rattle.bson_shape.specs.ShapeView.{fields_of}
use Rattle.bson_evolve_check.proofs.content.are_known.Given as goal

-- the fields from here on decide
abbrev pub invariant-loop-field : goal.invariant-loop-field
invariant-loop-field l = record {
  items : l.index.items.now ≡ l.new;
  left : are_known (fields_of (drop l.field-index l.old)) (fields_of l.new) ≡ are_known (fields_of (drop 0 l.old)) (fields_of l.new);
}
