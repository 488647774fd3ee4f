use Rattle.std.proofs.Common.{rules, Ok, ap, sym, subst, ◌∙◌}
use Rattle.bson_shape.specs.declared.shape.VariantShape.{VariantShape}
use Rattle.bson_values.specs.Cause.{unknown_variant}
use Rattle.bson_laws.specs.Judged.{Reading, refused}
use Rattle.bson_met.proofs.Refusals.{StopsAs}
use Rattle.bson_leaves.proofs.Variants.{named_at, named_none}
use Rattle.bson_leaves.proofs.unit.variant_of.Goals as goal

pub returns-in-Some : goal.returns-in-Some
returns-in-Some c = named_at c.args.variants.now c.args.name.now c.in-Some.place c.index-variants-place.result (sym c.in-Some.ensures.place) ∙ ap Ok (sym c.index-variants-place.is)

pub returns-in_ok-from_str-in-None : goal.returns-in_ok-from_str-in-None
returns-in_ok-from_str-in-None c =
    let here : StopsAs c.refused.result (refused {A = VariantShape} (unknown_variant c.args.name.now)) = search rules in
    subst (λ (r : Reading VariantShape). StopsAs c.refused.result r) (sym (named_none c.args.variants.now c.args.name.now (sym c.in-None.ensures.place))) here
