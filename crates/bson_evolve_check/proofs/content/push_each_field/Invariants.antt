use Rattle.std.proofs.Common.{◌≡◌, ◌++◌, drop}
use Rattle.bson_evolve_laws.specs.Rows.{each_field}
use Rattle.bson_shape.specs.ShapeView.{fields_of}
use Rattle.bson_evolve_check.specs.Steps.{steps_view, variant_path}
use Rattle.bson_evolve_check.proofs.content.push_each_field.Given as goal

-- the fields from here on give what is left
abbrev pub invariant-loop-field : goal.invariant-loop-field
invariant-loop-field l = steps_view l.steps.items ++ each_field (variant_path l.variant) (fields_of (drop l.field-index l.old)) l.new ≡ steps_view l.initial.steps.items ++ each_field (variant_path l.variant) (fields_of (drop 0 l.old)) l.new
