use Rattle.std.proofs.Common.{◌≡◌, ◌∙◌, sym, ap, subst, arith}
use Rattle.bson_shape.specs.Levels.{deepest_variant}
use Rattle.bson_shape.specs.Makers.{AreVariants}
use Rattle.bson_shape.specs.ShapeView.{variants_of}
use Rattle.bson_shape.proofs.Made.{enumeration_passed}
use Rattle.bson_shape.proofs.shape.Shape.enumeration.Goals as goal

pub invariant_of-result : goal.invariant_of-result
invariant_of-result c =
    let vs = variants_of c.args.variants.items in
    let same = ap variants_of c.deref.ensures.value in
    let count : c.deepest_variant-inner_levels.result ≡ deepest_variant vs = c.deepest_variant-inner_levels.ensures.levels ∙ ap deepest_variant same in
    (omega arith, enumeration_passed vs (sym c.has_repeated_variant.ensures ∙ c.if-has_repeated_variant.false) (omega arith) (subst AreVariants same c.deepest_variant-inner_levels.ensures.shapes))
