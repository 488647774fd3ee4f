use Rattle.std.proofs.Common.{◌≡◌, ◌++◌, drop}
use Rattle.bson_evolve_laws.specs.Rows.{each_part}
use Rattle.bson_shape.specs.ShapeView.{parts_of}
use Rattle.bson_evolve_check.specs.Steps.{steps_view, variant_path}
use Rattle.bson_evolve_check.proofs.content.push_each_item.Given as goal

-- the items from here on give what is left
abbrev pub invariant-loop-i : goal.invariant-loop-i
invariant-loop-i l = steps_view l.steps.items ++ each_part (variant_path l.variant) l.i (parts_of (drop l.i l.old)) l.new ≡ steps_view l.initial.steps.items ++ each_part (variant_path l.variant) 0 (parts_of (drop 0 l.old)) l.new
