use Rattle.std.proofs.Common.{◌≡◌, drop}
use Rattle.bson_shape.specs.Makers.{AreVariants}
use Rattle.bson_evolve_laws.specs.Rows.{enum_row}
use Rattle.bson_shape.specs.ShapeView.{variants_of}
use Rattle.bson_evolve_check.specs.Steps.{behind, steps_view}
use Rattle.bson_evolve_check.proofs.content.push_enum.Given as goal

-- the variants from here on give what is left
abbrev pub invariant-loop-variant : goal.invariant-loop-variant
invariant-loop-variant l = record {
  items : l.index.items.now ≡ l.new;
  shapes : AreVariants (variants_of (drop l.variant-index l.old));
  left : behind (steps_view l.steps.items) (enum_row (variants_of (drop l.variant-index l.old)) (variants_of l.new)) ≡ behind (steps_view l.initial.steps.items) (enum_row (variants_of (drop 0 l.old)) (variants_of l.new));
}
