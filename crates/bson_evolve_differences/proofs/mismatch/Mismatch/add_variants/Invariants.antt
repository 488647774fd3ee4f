use Rattle.std.proofs.Common.{◌≡◌, drop}
use Rattle.bson_shape.specs.Makers.{AreVariants}
use Rattle.bson_shape.specs.ShapeView.{variants_of}
use Rattle.bson_evolve_differences.specs.Mismatch.{variant_reasons, variant_steps}
use Rattle.bson_evolve_differences.proofs.Adding.{Left}
use Rattle.bson_evolve_differences.proofs.mismatch.Mismatch.add_variants.Given as goal

-- the variants from here on add what is left
abbrev pub invariant-loop-variant : goal.invariant-loop-variant
invariant-loop-variant l = record {
  items : l.index.items.now ≡ l.new;
  shapes : AreVariants (variants_of (drop l.variant-index l.old));
  left : Left (λ vs. variant_reasons (variants_of vs) (variants_of l.new)) (λ vs. variant_steps (variants_of vs) (variants_of l.new)) l.old l.variant-index l.initial.self l.self;
}
