use Rattle.std.proofs.Common.{◌≡◌, ◌∙◌, sym, ap, map, ◌||◌, string_bytes}
use Rattle.bson_shape.specs.Makers.{has_repeat, variant_names, contents_repeat}
use Rattle.bson_shape.specs.ShapeView.{variants_of}
use Rattle.bson_shape.specs.declared.shape.VariantShape.{VariantShape}
use Rattle.bson_shape.proofs.Names.{variant_names_are}
use Rattle.bson_shape.proofs.distinct.has_repeated_variant.Goals as goal

pub returns-then-has_repeated_name : goal.returns-then-has_repeated_name
returns-then-has_repeated_name c =
    let vs = c.args.variants.now.items in
    let names : c.has_repeated_name.result ≡ has_repeat (variant_names (variants_of vs)) = c.has_repeated_name.ensures ∙ ap has_repeat (ap (map (λ (v : VariantShape). string_bytes v.name)) c.deref.ensures.value ∙ variant_names_are vs) in
    ap (λ b. b || contents_repeat (variants_of vs)) (sym c.if-has_repeated_name.true ∙ names)

pub returns : goal.returns
returns c =
    let vs = c.args.variants.now.items in
    let names : c.has_repeated_name.result ≡ has_repeat (variant_names (variants_of vs)) = c.has_repeated_name.ensures ∙ ap has_repeat (ap (map (λ (v : VariantShape). string_bytes v.name)) c.deref.ensures.value ∙ variant_names_are vs) in
    c.has_repeat_inside.ensures ∙ ap (λ (ws : _). contents_repeat (variants_of ws)) c.deref-2.ensures.value
    ∙ ap (λ b. b || contents_repeat (variants_of vs)) (sym c.if-has_repeated_name.false ∙ names)
