use Rattle.std.proofs.Common.{List, ap, sym, subst, ◌∙◌, refl, arith}
use Rattle.std.specs.Borrow.{Bor}
use Rattle.std.specs.Prelude.{string_bytes}
use Rattle.bson_shape.specs.Makers.{has_repeat}
use Rattle.bson_shape.specs.ShapeView as view
use Rattle.bson_shape.specs.ShapeView.{variants_of}
use Rattle.bson_shape.specs.declared.shape.VariantShape.{VariantShape}
use Rattle.bson_laws.specs.Variants.{content_of}
use Rattle.bson_evolve_check.proofs.Found.{variant_names_of}
use Rattle.bson_evolve_check.proofs.Pushes.{shapes_here}
use Rattle.bson_evolve_differences.specs.Mismatch.{content_reasons, content_steps, variant_reasons, variant_steps}
use Rattle.bson_evolve_differences.specs.Views.{Adds}
use Rattle.bson_evolve_differences.proofs.Adding.{left_more, left_none}
use Rattle.bson_evolve_differences.proofs.mismatch.Mismatch.add_variants.Goals as goal

pub new-index-requires : goal.new-index-requires
new-index-requires c = ap has_repeat (sym (variant_names_of c.args.new.now)) ∙ c.requires.new

pub loop-variant-init : goal.loop-variant-init
loop-variant-init c = record { items = ap (λ (vs : Bor (List VariantShape)). vs.now) c.new-index.ensures; shapes = c.requires.old; left = record { reasons = refl; common = refl } }

pub add_variant-requires : goal.add_variant-requires
add_variant-requires c = (shapes_here c.args.old.now c.loop-variant.variant-index c.variant-item.result (omega arith) c.variant-item.is c.loop-variant.invariant.shapes).0

pub loop-variant-preserved : goal.loop-variant-preserved
loop-variant-preserved c =
    let ws = variants_of c.args.new.now in
    let v = c.variant-item.result in
    record {
      items = ap (λ (vs : Bor (List VariantShape)). vs.now) c.add_variant.ensures.items ∙ c.loop-variant.invariant.items;
      shapes = (shapes_here c.args.old.now c.loop-variant.variant-index v (omega arith) c.variant-item.is c.loop-variant.invariant.shapes).1;
      left = left_more (λ vs. variant_reasons (variants_of vs) ws) (λ vs. variant_steps (variants_of vs) ws) c.args.old.now c.loop-variant.variant-index c.args.self.now c.loop-variant.self c.loop-variant.invariant.left
          (λ (u : VariantShape). content_reasons (string_bytes u.name) (view.content_of u.content) (content_of ws (string_bytes u.name)))
          (λ (u : VariantShape). content_steps (string_bytes u.name) (view.content_of u.content) (content_of ws (string_bytes u.name))) (λ u vs. refl) (λ u vs. refl) v c.add_variant.new.self (omega arith) c.variant-item.is
          (subst (λ (us : List VariantShape). let o = content_of (variants_of us) (string_bytes v.name) in Adds c.loop-variant.self c.add_variant.new.self (content_reasons (string_bytes v.name) (view.content_of v.content) o) (content_steps (string_bytes v.name) (view.content_of v.content) o))
          c.loop-variant.invariant.items c.in_ok-add_variant.ensures.adds);
    }

pub returns : goal.returns
returns c =
    let ws = variants_of c.args.new.now in
    left_none (λ vs. variant_reasons (variants_of vs) ws) (λ vs. variant_steps (variants_of vs) ws) c.args.old.now c.loop-variant.variant-index c.args.self.now c.loop-variant.self c.loop-variant.invariant.left refl refl (omega arith)
