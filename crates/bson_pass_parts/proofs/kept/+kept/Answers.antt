use Rattle.std.proofs.Common.{◌≡◌, ◌<◌, ◌≤◌, ◌+◌, ◌-◌, ◌*◌, suc, [], length, get_or, drop, refl, ap, sym, subst, ◌∙◌, arith, rules}
use Rattle.std.specs.Fmt.{decimal}
use Rattle.std.specs.Prelude.{IsTrue}
use Rattle.std.proofs.lemmas.Bool.{eqb-true}
use Rattle.bson_kinds.specs.Text.{Bytes}
use Rattle.bson_kinds.specs.declared.element_type.ElementType.TheVariants as kinds
use Rattle.bson_rawdoc.specs.Node.{node_in, nodes_with}
use Rattle.bson_rawdoc.specs.Walk.{walk_elements}
use Rattle.bson_shape.specs.Form.{Form, UnknownFields, dropped, denied, structure}
use Rattle.bson_shape.specs.ShapeView.{fields_of, parts_of, variants_of, nodes, fields_nodes}
use Rattle.bson_shape.specs.declared.shape.FieldShape.{FieldShape}
use Rattle.bson_laws.specs.Scopes.{meanings_of, laid, laid_fields, laid_parts, laid_variants}
use Rattle.bson_laws.proofs.Scoped.{field_fewer, part_fewer}
use Rattle.bson_pass_parts.specs.Put.{recast_items, recast_parts, recast_fields, AreItemsPut, ArePairsPut}
use Rattle.bson_pass_parts.specs.Found.{name_of}
use Rattle.bson_pass_parts.specs.ReadsUnrolled.{slots_of}
use Rattle.bson_pass_parts.specs.Run.{IsKept, element_of, run, size}
use Rattle.bson_pass_parts.proofs.Containers.{array_kept, struct_kept}
use Rattle.bson_pass_parts.proofs.Followed.{reference_smaller, reference_kept}
use Rattle.bson_pass_parts.proofs.Items.{AreLeft, left_none}
use Rattle.bson_pass_parts.proofs.Marked.{marked_kept}
use Rattle.bson_pass_parts.proofs.Options.{optional_kept}
use Rattle.bson_pass_parts.proofs.Places.{AreUnderWay, places_end}
use Rattle.bson_pass_parts.proofs.KnownNames.{bytes_same}
use Rattle.bson_pass_parts.proofs.Runs.{head_at, next_within, run_all, walk_over}
use Rattle.bson_pass_parts.proofs.Steps.{next_field_kept, next_item_kept, next_part_kept}
use Rattle.bson_pass_parts.proofs.Tuples.{parts_put, tuple_kept}
use Rattle.bson_pass_parts.proofs.Variants.{enum_kept, named_content, named_smaller, pair_kept, variant_name}
use Rattle.bson_pass_parts.proofs.kept.+kept.Goals as goal

pub are_fields_kept-is_kept-requires : goal.are_fields_kept-is_kept-requires
are_fields_kept-is_kept-requires t c =
    let fs = c.args.fields.now in
    let f = c.in-Some.field.now in
    let found = c.in-Some.ensures.lookup in
    let smaller = field_fewer c.args.reader.now fs c.loop-at.place f found.3.0 in
    let same : nodes (laid c.args.reader.now (get_or fs c.loop-at.place f).shape) ≡ nodes (laid c.args.reader.now f.shape) = ap (λ (g : FieldShape). nodes (laid c.args.reader.now g.shape)) (sym found.1) in
    let less : 8 * nodes (laid c.args.reader.now f.shape) + 1 < 8 * fields_nodes (laid_fields c.args.reader.now (fields_of fs)) + 4 = omega (arith, smaller, same) in
    search rules

pub are_fields_kept-loop-at-preserved : goal.are_fields_kept-loop-at-preserved
are_fields_kept-loop-at-preserved t c =
    let fs = c.args.fields.now in
    let levels = c.args.levels in
    let bytes = c.args.elements.now in
    let at = c.loop-at.at in
    let n = c.named_len-at.result in
    let found = c.in-Some.ensures.lookup in
    let f = c.in-Some.field.now in
    let e = element_of c.in-Some-value_under.kind c.as_str-name.result.now c.in-Some-value_under.value.now in
    let head = head_at bytes at e c.in-Some-value_under.ensures in
    let same = bytes_same (name_of f) e.key (sym c.as_str-name.ensures.value) in (
      next_within bytes at n e c.loop-at.invariant.0 head c.named_len-at.ensures,
      omega (arith, found.3.0),
      λ u. next_field_kept c.args.reader.now u fs levels (recast_fields u (slots_of (laid_fields c.args.reader.now (fields_of fs))) levels (nodes_with (node_in levels) (walk_elements bytes))) c.loop-at.place at n bytes e f (c.loop-at.invariant.2 u) head c.named_len-at.ensures found.3.0 found.1 same
          c.requires.distinct (c.if-not-is_kept.ensures refl),
    )

pub are_fields_kept-returns : goal.are_fields_kept-returns
are_fields_kept-returns t c = λ h u.
    let fs = c.args.fields.now in
    let levels = c.args.levels in
    let bytes = c.args.elements.now in
    let at = c.loop-at.at in
    let place = c.loop-at.place in
    let whole = recast_fields u (slots_of (laid_fields c.args.reader.now (fields_of fs))) levels (nodes_with (node_in levels) (walk_elements bytes)) in
    let all = c.loop-at-test.false in
    let put = places_end c.args.reader.now u fs levels whole place [] (run bytes 0 at) (subst (λ w. AreUnderWay c.args.reader.now u fs levels whole (nodes_with (node_in levels) w) place [] (run bytes 0 at)) (walk_over bytes at all) (c.loop-at.invariant.2 u))
    (omega (arith, eqb-true place (length fs) h)) in
    subst (λ (x : Bytes). ArePairsPut whole [] x) (run_all bytes at all) put

pub are_items_kept-loop-at-preserved : goal.are_items_kept-loop-at-preserved
are_items_kept-loop-at-preserved t c =
    let s = c.args.item.now in
    let levels = c.args.levels in
    let bytes = c.args.elements.now in
    let at = c.loop-at.at in
    let i = c.loop-at.index in
    let j = c.in-Some-checked_add.more in
    let n = c.named_len-at.result in
    let e = element_of c.in-Some.kind c.format-key.result.now c.in-Some.value.now in
    let head = head_at bytes at e c.in-Some.ensures in
    let next : j ≡ suc i = omega (arith, c.in-Some-checked_add.ensures) in (
      next_within bytes at n e c.loop-at.invariant.0 head c.named_len-at.ensures,
      next_item_kept (laid c.args.reader.now s) levels i j (recast_items (laid c.args.reader.now s) levels 0 (nodes_with (node_in levels) (walk_elements bytes))) at n bytes e c.loop-at.invariant.1 head c.named_len-at.ensures c.format-key.ensures.text next (c.if-not-is_kept.ensures refl),
    )

pub are_items_kept-returns : goal.are_items_kept-returns
are_items_kept-returns t c = λ h.
    let s = c.args.item.now in
    let levels = c.args.levels in
    let bytes = c.args.elements.now in
    let at = c.loop-at.at in
    let i = c.loop-at.index in
    let whole = recast_items (laid c.args.reader.now s) levels 0 (nodes_with (node_in levels) (walk_elements bytes)) in
    let all = c.loop-at-test.false in
    let put = left_none whole i [] (run bytes 0 at) (subst (λ w. AreLeft whole (recast_items (laid c.args.reader.now s) levels i (nodes_with (node_in levels) w)) i [] (run bytes 0 at)) (walk_over bytes at all) c.loop-at.invariant.1) in
    subst (λ (x : Bytes). AreItemsPut whole 0 [] x) (run_all bytes at all) put

pub is_array_kept-returns : goal.is_array_kept-returns
is_array_kept-returns t c = λ h.
    let b = c.args.bytes.now in
    let levels = c.args.levels in
    let m = levels - 1 in
    let items = rw c.inside.ensures at (c.are_items_kept.ensures h) in
    array_kept (laid c.args.reader.now c.args.item.now) levels m b (omega (arith, c.if-levels-eq0.false)) (c.if-not-is_frame.ensures.closed refl) (c.if-not-is_frame.ensures.frame refl) items

pub is_form_kept-returns-in_default-kind : goal.is_form_kept-returns-in_default-kind
is_form_kept-returns-in_default-kind t c = λ h.
    rw (sym (c.in-Option.ensures.form)) (optional_kept (laid c.args.reader.now c.in-Option.inner.now) c.args.levels c.args.kind c.args.bytes.now c.in_default-kind.not-Null (c.is_kept.ensures h))

pub is_form_kept-returns-in-EmbeddedDocument : goal.is_form_kept-returns-in-EmbeddedDocument
is_form_kept-returns-in-EmbeddedDocument t c = λ h.
    rw (sym c.in-Enum.ensures.form, c.in-EmbeddedDocument.is) (c.is_enum_kept.ensures h)

pub is_marked_kept-returns-then-borrows_nothing_in : goal.is_marked_kept-returns-then-borrows_nothing_in
is_marked_kept-returns-then-borrows_nothing_in t c = λ h. marked_kept c.args.reader.now c.args.inner.now c.args.levels c.args.kind c.args.bytes.now (c.if-borrows_nothing_in.ensures.table refl) (c.if-borrows_nothing_in.ensures.shape refl) (c.is_kept.ensures h)

pub is_reference_kept-is_kept-requires : goal.is_reference_kept-is_kept-requires
is_reference_kept-is_kept-requires t c =
    let r = c.args.reader.now in
    let d = c.in-Some.definition in
    let name = c.args.name.now in
    let same = reference_smaller r d name c.in-Some.ensures.means in
    let less : 8 * nodes (laid d.reader d.shape.now) + 1 < 8 * nodes (meanings_of r name) + 2 = omega (arith, same) in
    search rules

pub is_reference_kept-returns-in-Some : goal.is_reference_kept-returns-in-Some
is_reference_kept-returns-in-Some t c = λ h.
    reference_kept c.args.reader.now c.in-Some.definition c.args.name.now c.args.levels c.args.kind c.args.bytes.now c.in-Some.ensures.means (c.is_kept.ensures h)

pub is_struct_kept-returns : goal.is_struct_kept-returns
is_struct_kept-returns t c =
    let fs = laid_fields c.args.reader.now (fields_of c.args.fields.now) in
    let b = c.args.bytes.now in
    let levels = c.args.levels in
    let m = levels - 1 in
    let kept : (u : UnknownFields) → IsTrue c.are_fields_kept.result → IsKept (structure u c.args.name.now fs) levels kinds.EmbeddedDocument b =
    λ u h.
    let fields = rw c.inside.ensures at (c.are_fields_kept.ensures h u) in
    struct_kept u c.args.name.now fs levels m b c.requires.1.1.0 (omega (arith, c.if-levels-eq0.false)) (c.if-not-is_frame.ensures.closed refl) (c.if-not-is_frame.ensures.frame refl) fields in
    record { drops = kept dropped; denies = kept denied }

pub are_parts_kept-is_kept-requires : goal.are_parts_kept-is_kept-requires
are_parts_kept-is_kept-requires t c =
    let smaller = part_fewer c.args.reader.now c.args.parts.now c.loop-part.part-index c.part-item.result c.loop-part-test.true in
    omega (arith, smaller, ap (λ (f : Form). nodes (laid c.args.reader.now f)) c.part-item.is)

pub are_parts_kept-loop-part-preserved : goal.are_parts_kept-loop-part-preserved
are_parts_kept-loop-part-preserved t c =
    let ss = c.args.parts.now in
    let levels = c.args.levels in
    let bytes = c.args.elements.now in
    let at = c.loop-part.at in
    let i = c.loop-part.part-index in
    let n = c.named_len-at.result in
    let e = element_of c.in-Some.kind c.format-name.result.now c.in-Some.value.now in
    let head = head_at bytes at e c.in-Some.ensures in
    let index = c.format-name.ensures.text ∙ ap decimal c.loop-part.invariant.0 in (
      omega (arith, c.in-Some-checked_add.ensures, c.loop-part.invariant.0),
      next_within bytes at n e c.loop-part.invariant.1 head c.named_len-at.ensures,
      next_part_kept c.args.reader.now ss c.part-item.result levels i (recast_parts (laid_parts c.args.reader.now (parts_of ss)) levels 0 (nodes_with (node_in levels) (walk_elements bytes))) at n bytes e c.loop-part-test.true c.part-item.is c.loop-part.invariant.2 head c.named_len-at.ensures index
          (c.if-not-is_kept.ensures refl),
    )

pub are_parts_kept-returns : goal.are_parts_kept-returns
are_parts_kept-returns t c = λ h.
    let levels = c.args.levels in
    let bytes = c.args.elements.now in
    let at = c.loop-part.at in
    let whole = recast_parts (laid_parts c.args.reader.now (parts_of c.args.parts.now)) levels 0 (nodes_with (node_in levels) (walk_elements bytes)) in
    let all : length bytes ≤ at = omega (arith, eqb-true at (length bytes) h) in
    let put = parts_put c.args.reader.now c.args.parts.now levels c.loop-part.part-index (walk_elements (drop at bytes)) whole [] (run bytes 0 at) c.loop-part-test.false c.loop-part.invariant.2 in
    subst (λ (x : Bytes). AreItemsPut whole 0 [] x) (run_all bytes at all) put

pub is_tuple_kept-returns : goal.is_tuple_kept-returns
is_tuple_kept-returns t c = λ h.
    let b = c.args.bytes.now in
    let levels = c.args.levels in
    let m = levels - 1 in
    let parts = rw c.inside.ensures at (c.are_parts_kept.ensures h) in
    tuple_kept (laid_parts c.args.reader.now (parts_of c.args.parts.now)) levels m b (omega (arith, c.if-levels-eq0.false)) (c.if-not-is_frame.ensures.closed refl) (c.if-not-is_frame.ensures.frame refl) parts

pub is_enum_kept-returns : goal.is_enum_kept-returns
is_enum_kept-returns t c = λ h.
    let b = c.args.bytes.now in
    let levels = c.args.levels in
    let m = levels - 1 in
    let inner = rw c.inside.ensures at (c.is_pair_kept.ensures h) in
    enum_kept (laid_variants c.args.reader.now (variants_of c.args.variants.now)) levels m b (omega (arith, c.if-levels-eq0.false)) (c.if-not-is_frame.ensures.closed refl) (c.if-not-is_frame.ensures.frame refl) inner

pub is_pair_kept-is_content_kept-requires : goal.is_pair_kept-is_content_kept-requires
is_pair_kept-is_content_kept-requires t c =
    let vs = c.args.variants.now in
    let v = c.in-Some.variant.now in
    let bytes = c.args.elements.now in
    let k = c.in-Some.kind in
    let b = c.in-Some.value.now in
    let smaller = named_smaller c.args.reader.now vs v bytes k b c.in-Some.ensures in
    (omega (arith, smaller), named_content vs v bytes k b c.in-Some.ensures c.requires.shapes)

pub is_pair_kept-returns : goal.is_pair_kept-returns
is_pair_kept-returns t c = λ h.
    let vs = c.args.variants.now in
    let v = c.in-Some.variant.now in
    let bytes = c.args.elements.now in
    let k = c.in-Some.kind in
    let b = c.in-Some.value.now in
    let all : length bytes ≤ size (element_of k (variant_name v) b) = omega (arith, c.named_len.ensures, c.if-named_len-elements.false, ap length c.as_str-name.ensures.value) in
    pair_kept c.args.reader.now vs v c.args.levels bytes k b c.in-Some.ensures c.requires.distinct all (c.is_content_kept.ensures h)
