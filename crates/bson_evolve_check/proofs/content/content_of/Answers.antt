use Rattle.std.proofs.Common.{Some, ap, sym, ◌∙◌}
use Rattle.bson_shape.specs.ShapeView as view
use Rattle.bson_shape.specs.declared.shape.VariantShape.{VariantShape}
use Rattle.bson_evolve_check.proofs.Found.{content_lacking, content_placed}
use Rattle.bson_evolve_check.proofs.content.content_of.Goals as goal

pub returns-in-Some-clause-found : goal.returns-in-Some-clause-found
returns-in-Some-clause-found c =
    ap (λ (v : VariantShape). Some (view.content_of v.content)) (sym c.index-items-place.is)
    ∙ sym (content_placed c.args.index.now.items.now c.args.name.now c.in-Some.place c.index-items-place.result (sym c.in-Some.ensures.place) c.index-items-place.is)

pub returns-in-None-clause-found : goal.returns-in-None-clause-found
returns-in-None-clause-found c = sym (content_lacking c.args.index.now.items.now c.args.name.now (sym c.in-None.ensures.place))
