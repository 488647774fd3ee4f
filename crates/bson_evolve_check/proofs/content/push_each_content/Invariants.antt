use Rattle.std.proofs.Common.{◌≡◌, ◌++◌, drop}
use Rattle.bson_evolve_laws.specs.Rows.{each_content}
use Rattle.bson_shape.specs.ShapeView.{variants_of}
use Rattle.bson_evolve_check.specs.Steps.{steps_view}
use Rattle.bson_evolve_check.proofs.content.push_each_content.Given as goal

-- the variants from here on give what is left
abbrev pub invariant-loop-variant : goal.invariant-loop-variant
invariant-loop-variant l = steps_view l.steps.items ++ each_content (variants_of (drop l.variant-index l.old)) l.new ≡ steps_view l.initial.steps.items ++ each_content (variants_of (drop 0 l.old)) l.new
