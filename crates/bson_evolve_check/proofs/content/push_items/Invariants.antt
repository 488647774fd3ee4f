use Rattle.std.proofs.Common.{◌≡◌, drop, length}
use Rattle.bson_evolve_laws.specs.Rows.{parts_row}
use Rattle.bson_shape.specs.ShapeView.{parts_of}
use Rattle.bson_evolve_check.specs.Steps.{behind, steps_view, variant_path}
use Rattle.bson_evolve_check.proofs.content.push_items.Given as goal

-- the items from here on give what is left
abbrev pub invariant-loop-i : goal.invariant-loop-i
invariant-loop-i l = record {
  many : length l.old ≡ length l.new;
  left : behind (steps_view l.steps.items) (parts_row (variant_path l.variant) l.i (parts_of (drop l.i l.old)) (parts_of (drop l.i l.new))) ≡ behind (steps_view l.initial.steps.items) (parts_row (variant_path l.variant) 0 (parts_of (drop 0 l.old)) (parts_of (drop 0 l.new)));
}
