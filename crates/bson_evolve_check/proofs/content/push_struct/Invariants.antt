use Rattle.std.proofs.Common.{◌≡◌, drop}
use Rattle.bson_evolve_laws.specs.Rows.{struct_row}
use Rattle.bson_shape.specs.ShapeView.{fields_of}
use Rattle.bson_evolve_check.specs.Steps.{behind, steps_view, variant_path}
use Rattle.bson_evolve_check.proofs.content.push_struct.Given as goal

-- the fields from here on give what is left
abbrev pub invariant-loop-field : goal.invariant-loop-field
invariant-loop-field l = record {
  items : l.index.items.now ≡ l.old;
  left : behind (steps_view l.steps.items) (struct_row (variant_path l.variant) (fields_of l.old) (fields_of (drop l.field-index l.new))) ≡ behind (steps_view l.initial.steps.items) (struct_row (variant_path l.variant) (fields_of l.old) (fields_of (drop 0 l.new)));
}
