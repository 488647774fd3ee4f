use Rattle.std.proofs.Common.{◌∙◌, subst, ap, arith}
use Rattle.bson_shape.specs.Levels.{deepest_inside}
use Rattle.bson_shape.specs.Makers.{content_repeats, IsContent}
use Rattle.bson_shape.specs.ShapeView.{content_of}
use Rattle.bson_shape.specs.declared.shape.VariantShape.{VariantShape}
use Rattle.bson_shape.proofs.Shapes.{deepest_variant_more, AreVariants_more, content_repeats-at}
use Rattle.bson_shape.proofs.shape.deepest_variant.Goals as goal

pub deepest_inside-requires : goal.deepest_inside-requires
deepest_inside-requires c =
    let vs = c.args.variants.now in
    ap (λ (v : VariantShape). content_repeats (content_of v.content)) c.variant-item.is ∙ content_repeats-at vs c.loop-variant.variant-index c.variant-item.result (omega arith) c.requires

pub loop-variant-preserved : goal.loop-variant-preserved
loop-variant-preserved c =
    let vs = c.args.variants.now in
    let i = c.loop-variant.variant-index in
    let v = c.variant-item.result in
    record {
      levels = c.max-levels.ensures ∙ omega (arith, deepest_variant_more vs i v (omega arith), c.deepest_inside.ensures.levels, ap (λ (w : VariantShape). deepest_inside (content_of w.content)) c.variant-item.is, c.loop-variant.invariant.levels);
      few = omega arith;
      shapes = AreVariants_more vs i v (omega arith) c.loop-variant.invariant.shapes (subst (λ (w : VariantShape). IsContent (content_of w.content)) c.variant-item.is c.deepest_inside.ensures.shapes);
    }
