use Rattle.std.proofs.Common.{◌<◌, ◌++◌, ◌∷◌, [], ap, sym, ◌∙◌, subst, arith, string_bytes}
use Rattle.bson_shape.specs.Form.{Form}
use Rattle.bson_shape.specs.ShapeView.{fields_of, parts_of, variants_of, content_of, nodes, fields_nodes, parts_nodes, variants_nodes, content_nodes}
use Rattle.bson_shape.specs.declared.shape.FieldShape.{FieldShape}
use Rattle.bson_shape.specs.declared.shape.VariantShape.{VariantShape}
use Rattle.bson_shape.specs.Notation.{listed, text, name_text, content_text}
use Rattle.bson_shape.specs.PrinterView.{comma_at}
use Rattle.bson_shape.proofs.Shapes.{field_smaller, part_smaller, variant_smaller}
use Rattle.bson_shape.proofs.Printed.{more_printed, all_printed, field_shown, variant_shown, fields_shown, parts_shown, variants_shown, field_printed, part_printed, variant_printed}
use Rattle.bson_shape.proofs.printer.+put.Goals as goal

pub put_fields-put-requires : goal.put_fields-put-requires
put_fields-put-requires t c =
    let xs = c.args.fields.now in
    let x = c.index-fields-i.result in
    let smaller : nodes x.shape < fields_nodes (fields_of xs) = subst (λ (g : FieldShape). nodes g.shape < fields_nodes (fields_of xs)) (sym c.index-fields-i.is) (field_smaller xs c.loop-i.i x c.loop-i-test.true) in
    (omega (arith, smaller, c.requires.1.0), tt)

pub put_fields-loop-i-preserved : goal.put_fields-loop-i-preserved
put_fields-loop-i-preserved t c =
    let x = c.index-fields-i.result in
    more_printed (field_shown c.args.divider) c.args.fields.now c.loop-i.i x _ (string_bytes c.loop-i.out) _ c.loop-i-test.true c.index-fields-i.is c.loop-i.invariant
    (field_printed c.args.divider (string_bytes c.loop-i.out) _ _ (comma_at c.loop-i.i) (name_text (string_bytes x.name)) (text x.shape) (c.in_ok-put_field_name.ensures ∙ ap (λ n. string_bytes c.loop-i.out ++ (comma_at c.loop-i.i ++ (name_text n ++ c.args.divider ∷ []))) c.as_str.ensures.value) c.in_ok-put.ensures)

pub put_fields-returns : goal.put_fields-returns
put_fields-returns t c =
    let xs = c.args.fields.now in
    let old = string_bytes c.args.out.now in
    let opening = c.args.opening.now in
    let closing = c.args.closing in
    all_printed (field_shown c.args.divider) xs c.loop-i.i old opening _ (string_bytes c.loop-i.out) _ closing c.loop-i-test.false
    c.in_ok-push_str.ensures.bytes c.loop-i.invariant (c.in_ok-push.ensures.bytes ∙ ap (λ ys. string_bytes c.loop-i.out ++ ys) (c.in_ok-push.ensures.ascii c.requires.1.1.1))
    ∙ ap (λ ys. old ++ (opening ++ (listed ys ++ closing ∷ []))) (fields_shown c.args.divider xs)

pub put_parts-put-requires : goal.put_parts-put-requires
put_parts-put-requires t c =
    let xs = c.args.parts.now in
    let x = c.index-parts-i.result in
    let smaller : nodes x < parts_nodes (parts_of xs) = subst (λ (g : Form). nodes g < parts_nodes (parts_of xs)) (sym c.index-parts-i.is) (part_smaller xs c.loop-i.i x c.loop-i-test.true) in
    (omega (arith, smaller, c.decreases), tt)

pub put_parts-loop-i-preserved : goal.put_parts-loop-i-preserved
put_parts-loop-i-preserved t c =
    let x = c.index-parts-i.result in
    more_printed text c.args.parts.now c.loop-i.i x _ (string_bytes c.loop-i.out) _ c.loop-i-test.true c.index-parts-i.is c.loop-i.invariant
    (part_printed (string_bytes c.loop-i.out) _ _ (comma_at c.loop-i.i) (text x) c.in_ok-put_comma.ensures c.in_ok-put.ensures)

pub put_parts-returns : goal.put_parts-returns
put_parts-returns t c =
    let xs = c.args.parts.now in
    let old = string_bytes c.args.out.now in
    all_printed text xs c.loop-i.i old (40 ∷ []) _ (string_bytes c.loop-i.out) _ 41 c.loop-i-test.false
    (c.in_ok-push.ensures.bytes ∙ ap (λ ys. old ++ ys) (c.in_ok-push.ensures.ascii (omega arith))) c.loop-i.invariant (c.in_ok-push-2.ensures.bytes ∙ ap (λ ys. string_bytes c.loop-i.out ++ ys) (c.in_ok-push-2.ensures.ascii (omega arith)))
    ∙ ap (λ ys. old ++ 40 ∷ (listed ys ++ 41 ∷ [])) (parts_shown xs)

pub put_variants-put_content-requires : goal.put_variants-put_content-requires
put_variants-put_content-requires t c =
    let xs = c.args.variants.now in
    let x = c.index-variants-i.result in
    let smaller : content_nodes (content_of x.content) < variants_nodes (variants_of xs) = subst (λ (g : VariantShape). content_nodes (content_of g.content) < variants_nodes (variants_of xs)) (sym c.index-variants-i.is) (variant_smaller xs c.loop-i.i x c.loop-i-test.true) in
    (omega (arith, smaller, c.decreases), tt)

pub put_variants-loop-i-preserved : goal.put_variants-loop-i-preserved
put_variants-loop-i-preserved t c =
    let x = c.index-variants-i.result in
    more_printed variant_shown c.args.variants.now c.loop-i.i x _ (string_bytes c.loop-i.out) _ c.loop-i-test.true c.index-variants-i.is c.loop-i.invariant
    (variant_printed (string_bytes c.loop-i.out) _ _ (comma_at c.loop-i.i) (name_text (string_bytes x.name)) (content_text (content_of x.content)) (c.in_ok-put_variant_name.ensures ∙ ap (λ n. string_bytes c.loop-i.out ++ (comma_at c.loop-i.i ++ name_text n)) c.as_str.ensures.value) c.in_ok-put_content.ensures)

pub put_variants-returns : goal.put_variants-returns
put_variants-returns t c =
    let xs = c.args.variants.now in
    let old = string_bytes c.args.out.now in
    all_printed variant_shown xs c.loop-i.i old (60 ∷ []) _ (string_bytes c.loop-i.out) _ 62 c.loop-i-test.false
    (c.in_ok-push.ensures.bytes ∙ ap (λ ys. old ++ ys) (c.in_ok-push.ensures.ascii (omega arith))) c.loop-i.invariant (c.in_ok-push-2.ensures.bytes ∙ ap (λ ys. string_bytes c.loop-i.out ++ ys) (c.in_ok-push-2.ensures.ascii (omega arith)))
    ∙ ap (λ ys. old ++ 60 ∷ (listed ys ++ 62 ∷ [])) (variants_shown xs)
