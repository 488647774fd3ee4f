use Rattle.std.proofs.Common.{◌≡◌, suc, ◌+◌, ◌-◌, ◌*◌, ◌<◌, ◌≤◌, ◌++◌, [], ◌∷◌, length, get_or, take, drop, refl, ap, sym, subst, ◌∙◌, arith, rules}
use Rattle.std.specs.Fmt.{decimal}
use Rattle.std.specs.Prelude.{IfSome, Option}
use Rattle.std.proofs.lemmas.List.{take-append-drop, take_rest}
use Rattle.bson_keys.proofs.Distinct.{distinct_last}
use Rattle.bson_kinds.specs.Kind.{byte}
use Rattle.bson_kinds.specs.Text.{Bytes, Utf8}
use Rattle.bson_base.specs.Tree.{Tree, enclosed}
use Rattle.bson_rawdoc.specs.DocumentView.{document_bytes}
use Rattle.bson_rawdoc.specs.Envelope.{inside}
use Rattle.bson_rawdoc.specs.Node.{inner_node, node_in, nodes_with, value_node}
use Rattle.bson_rawdoc.specs.ValueView.{raw_value}
use Rattle.bson_rawdoc.specs.Walk.{ended, walk_elements}
use Rattle.bson_kinds.specs.declared.element_type.ElementType.TheVariants as kinds
use Rattle.bson_shape.specs.Form.{Form, sequence, structure, tuple, enumeration}
use Rattle.bson_shape.specs.Makers.{AreDistinct}
use Rattle.bson_shape.specs.ShapeView.{fields_of, parts_of, variants_of, content_of, nodes, fields_nodes}
use Rattle.bson_shape.specs.declared.shape.FieldShape.{FieldShape}
use Rattle.bson_values.specs.Value.{no_entries}
use Rattle.bson_laws.specs.Scopes.{meanings_of, laid, laid_content, laid_fields, laid_parts, laid_variants}
use Rattle.bson_laws.specs.Unrolled.{in_table, max_steps}
use Rattle.bson_laws.proofs.Scoped.{field_fewer, part_fewer}
use Rattle.bson_slots.specs.FieldsRead.{unknown_of}
use Rattle.bson_pass_parts.specs.Put.{recast_node, recast_for, recast_items, recast_parts, recast_entries, recast_fields, recast_content, IsElementPut, AreItemsPut, ArePairsPut, IsPut}
use Rattle.bson_pass_parts.specs.Found.{name_of}
use Rattle.bson_pass_parts.specs.ReadsUnrolled.{slots_of}
use Rattle.bson_pass_parts.specs.Run.{IsHead, element_of, run, size}
use Rattle.bson_pass_parts.proofs.Containers.{array_node, array_put, document_node, struct_put}
use Rattle.bson_pass_parts.proofs.Entries.{AreEntriesPut, entries_end, map_put}
use Rattle.bson_pass_parts.proofs.Followed.{inside_smaller, inside_put, reference_smaller, reference_put, sequence_put}
use Rattle.bson_pass_parts.proofs.Forms.{newtype_is}
use Rattle.bson_pass_parts.proofs.Items.{AreLeft, left_none}
use Rattle.bson_pass_parts.proofs.Marked.{if_marked_put}
use Rattle.bson_pass_parts.proofs.Pieces.{enclosed_put, item_put, put_within}
use Rattle.bson_pass_parts.proofs.AnyOrder as any_order
use Rattle.bson_pass_parts.proofs.AnyOrder.{if_element_put, if_missing_put, left_less, if_others_put, fewer}
use Rattle.bson_pass_parts.proofs.Places.{AreUnderWay, dropped_step, missing_step, places_end}
use Rattle.bson_pass_parts.proofs.KnownNames.{bytes_same}
use Rattle.bson_pass_parts.proofs.Runs.{first_head, head_at, run_put, next_changed, next_kept, next_within, run_written, walk_next, walk_over}
use Rattle.bson_pass_parts.proofs.Steps.{next_expected, next_entry, next_item, next_part}
use Rattle.bson_pass_parts.proofs.Tuples.{parts_put, tuple_put, tuple_structure_put}
use Rattle.bson_pass_parts.proofs.Variants.{enum_put, if_pair_put, named_content, named_smaller}
use Rattle.bson_one_pass.proofs.+recast.Goals.{array::recast_items-in-Some+in_ok-from-in-Some, array::recast_items-in-None+in_ok-at-in-None, tuple::recast_parts-in-Some+in_ok-from-in-Some, tuple::recast_parts-in-None+in_ok-at-in-None}
use Rattle.bson_one_pass.proofs.+recast.Goals as goal

pub value::recast_newtype-returns : goal.value::recast_newtype-returns
value::recast_newtype-returns t c =
    let s = laid c.args.reader.now c.args.inner.now in
    subst (λ (o : Option Tree). IfSome c.recast_value.result (IsPut o c.args.made.now.items c.recast_value.new.made.items)) (sym (newtype_is c.args.name.now s c.args.levels (value_node (inner_node c.args.levels) (raw_value c.args.value.now)) c.requires.1.1))
    c.recast_value.ensures.put

pub value::recast_marked-returns : goal.value::recast_marked-returns
value::recast_marked-returns t c =
    let owned = c.if-not-borrows_nothing_in.ensures in
    if_marked_put c.recast_value.result c.args.reader.now c.args.inner.now c.args.levels (raw_value c.args.value.now) c.args.made.now.items c.recast_value.new.made.items (owned.table refl) (owned.shape refl) c.recast_value.ensures.put

pub value::recast_value-returns-in-String : goal.value::recast_value-returns-in-String
value::recast_value-returns-in-String t c =
    let named = c.recast_variant.ensures c.args.reader.now in
    search rules

pub value::recast_definitions-recast_value-requires : goal.value::recast_definitions-recast_value-requires
value::recast_definitions-recast_value-requires t c =
    let q = c.inside.result in
    let s = c.args.inner.now in
    let h = fields_of c.args.table.now in
    let same = inside_smaller q h s c.inside.ensures.meanings in
    let less : 16 * nodes (laid q s) < 16 * nodes (in_table max_steps h s) + 1 = omega (arith, same) in
    search rules

pub value::recast_definitions-returns : goal.value::recast_definitions-returns
value::recast_definitions-returns t c =
    let n = value_node (inner_node c.args.levels) (raw_value c.args.value.now) in
    record {
      put =
          (inside_put c.recast_value.result c.args.reader.now c.inside.result (fields_of c.args.table.now) c.args.inner.now c.args.levels n c.args.made.now.items c.recast_value.new.made.items c.inside.ensures.meanings c.recast_value.ensures.put);
    }

pub value::recast_reference-recast_value-requires : goal.value::recast_reference-recast_value-requires
value::recast_reference-recast_value-requires t c =
    let r = c.args.reader.now in
    let d = c.in-Some.definition in
    let name = c.args.name.now in
    let same = reference_smaller r d name c.in-Some.ensures.means in
    let less : 16 * nodes (laid d.reader d.shape.now) < 16 * nodes (meanings_of r name) + 1 = omega (arith, same) in
    search rules

pub value::recast_reference-returns-in-Some : goal.value::recast_reference-returns-in-Some
value::recast_reference-returns-in-Some t c =
    let n = value_node (inner_node c.args.levels) (raw_value c.args.value.now) in
    record {
      put = reference_put c.recast_value.result c.args.reader.now c.in-Some.definition c.args.name.now c.args.levels n c.args.made.now.items c.recast_value.new.made.items c.in-Some.ensures.means c.recast_value.ensures.put;
    }

pub array::recast_referred-recast_first-requires : goal.array::recast_referred-recast_first-requires
array::recast_referred-recast_first-requires t c =
    let r = c.args.reader.now in
    let d = c.in-Some.definition in
    let name = c.args.name.now in
    let same = reference_smaller r d name c.in-Some.ensures.means in
    let less : 16 * nodes (laid d.reader d.shape.now) + 2 < 16 * nodes (meanings_of r name) + 4 = omega (arith, same) in
    search rules

pub array::recast_referred-returns-in-Some : goal.array::recast_referred-returns-in-Some
array::recast_referred-returns-in-Some t c =
    let n = node_in c.args.levels c.args.kind c.args.value.now in
    let put = c.recast_first.ensures (element_of c.args.kind c.args.key.now c.args.value.now) c.requires.1.1 in
    record {
      put = reference_put c.recast_first.result c.args.reader.now c.in-Some.definition c.args.name.now c.args.levels n c.args.made.now.items c.recast_first.new.made.items c.in-Some.ensures.means put;
    }

pub tuple::recast_parts-recast_known-requires : goal.tuple::recast_parts-recast_known-requires
tuple::recast_parts-recast_known-requires t c =
    let smaller = part_fewer c.args.reader.now c.args.parts.now c.loop-part.part-index c.part-item.result c.loop-part-test.true in
    let e = element_of c.in-Some.kind c.format-key.result.now c.in-Some.value.now in
    (omega (arith, smaller, ap (λ (f : Form). nodes (laid c.args.reader.now f)) c.part-item.is), (c.loop-part.invariant.2, (c.loop-part.invariant.1, head_at c.args.elements.now c.loop-part.at e c.in-Some.ensures)))

pub tuple::recast_parts-recast_misnamed-requires : goal.tuple::recast_parts-recast_misnamed-requires
tuple::recast_parts-recast_misnamed-requires t c =
    let smaller = part_fewer c.args.reader.now c.args.parts.now c.loop-part.part-index c.part-item.result c.loop-part-test.true in
    (omega (arith, smaller, ap (λ (f : Form). nodes (laid c.args.reader.now f)) c.part-item.is), (c.loop-part.invariant.2, c.loop-part.invariant.1))

pub tuple::recast_parts-loop-part-preserved : goal.tuple::recast_parts-loop-part-preserved
tuple::recast_parts-loop-part-preserved t c =
    let ss = c.args.parts.now in
    let s = c.part-item.result in
    let levels = c.args.levels in
    let bytes = c.args.elements.now in
    let at = c.loop-part.at in
    let from = c.loop-part.from in
    let i = c.loop-part.part-index in
    let key = c.format-key.result.now in
    let old = c.args.made.now.items in
    let made = c.loop-part.made.items ++ run bytes from at in
    let whole = recast_parts (laid_parts c.args.reader.now (parts_of ss)) levels 0 (nodes_with (node_in levels) (walk_elements bytes)) in
    let key_is : key ≡ decimal i = c.format-key.ensures.text ∙ ap decimal c.loop-part.invariant.0 in
    elim c.match-value_under.branch [
      | tuple::recast_parts-in-Some+in_ok-from-in-Some w ↦
          let e = element_of w.in-Some.kind key w.in-Some.value.now in
          let n = w.named_len.result in
          let is = w.named_len.ensures in
          let head = head_at bytes at e w.in-Some.ensures in
          let next = w.in_ok-from-in-Some.from in
          let new = w.recast_known.new.made.items in
          let put = subst (λ m. IsElementPut (recast_for c.args.reader.now s levels (node_in levels e.kind e.value)) key made (new ++ run bytes next (at + m))) (sym is) w.in_ok-from-in-Some.ensures.put in
          rw (w.at-is, w.from-is, w.made-is) (
            omega (arith, c.in_ok-index.ensures, c.loop-part.invariant.0),
            next_within bytes at n e c.loop-part.invariant.1 head is,
            omega (arith, w.in_ok-from-in-Some.ensures.behind, is),
            next_part c.args.reader.now ss s levels i whole at n bytes e key old made (new ++ run bytes next (at + n)) c.loop-part-test.true c.part-item.is c.loop-part.invariant.3 head is key_is put,
          )
      | tuple::recast_parts-in-None+in_ok-at-in-None w ↦
          let given = w.in_ok-at-in-None.ensures in
          let e = given.0 in
          let head = given.1 in
          let n = size e in
          let new = w.recast_misnamed.new.made.items in
          let o = recast_for c.args.reader.now s levels (node_in levels e.kind e.value) in
          let put = next_changed o key bytes from at (at + n) c.loop-part.made.items made new refl given.3 in
          rw (w.at-is, w.from-is, w.made-is) (
            omega (arith, c.in_ok-index.ensures, c.loop-part.invariant.0),
            omega (arith, next_within bytes at n e c.loop-part.invariant.1 head refl, given.2),
            omega arith,
            subst (λ m. AreLeft whole (recast_parts (laid_parts c.args.reader.now (parts_of (drop (i + 1) ss))) levels (i + 1) (nodes_with (node_in levels) (walk_elements (drop m bytes)))) (i + 1) old (new ++ run bytes m m)) (sym given.2)
                (next_part c.args.reader.now ss s levels i whole at n bytes e key old made (new ++ run bytes (at + n) (at + n)) c.loop-part-test.true c.part-item.is c.loop-part.invariant.3 head refl key_is put),
          )
    ]

pub tuple::recast_parts-returns : goal.tuple::recast_parts-returns
tuple::recast_parts-returns t c =
    let bytes = c.args.elements.now in
    let levels = c.args.levels in
    let at = c.loop-part.at in
    let old = c.args.made.now.items in
    let whole = recast_parts (laid_parts c.args.reader.now (parts_of c.args.parts.now)) levels 0 (nodes_with (node_in levels) (walk_elements bytes)) in
    let made = c.loop-part.made.items ++ run bytes c.loop-part.from at in
    subst (λ (x : Bytes). AreItemsPut whole 0 old x) (sym c.in_ok-put_run.ensures)
    (parts_put c.args.reader.now c.args.parts.now levels c.loop-part.part-index (walk_elements (drop at bytes)) whole old made c.loop-part-test.false c.loop-part.invariant.3)

pub tuple::recast_tuple-returns : goal.tuple::recast_tuple-returns
tuple::recast_tuple-returns t c =
    let ps = laid_parts c.args.reader.now (parts_of c.args.parts.now) in
    let levels = c.args.levels in
    let b = c.args.bytes.now in
    let m = levels - 1 in
    let old = c.args.made.now.items in
    let begun = c.put.new.made.items in
    let made = c.recast_parts.new.made.items in
    let new = c.close.new.made.items in
    let at : c.len-start.result ≡ length old = search rules in
    let ends : new ≡ take (length old) made ++ enclosed (drop (length old + 4) made) = c.in_ok-close.ensures ∙ ap (λ n. take n made ++ enclosed (drop (n + 4) made)) at in
    let above : levels ≡ suc m = omega (arith, c.if-levels-eq0.false) in
    let filled = rw c.inside.ensures at c.in_ok-recast_parts.ensures in
    let put = tuple_put ps levels m b old begun made new above (λ e fills. enclosed_put old begun made new e c.in_ok-put.ensures fills ends) filled in
    record {
      nameless = put;
      named = λ name. tuple_structure_put name ps levels m b old begun made new above (λ e fills. enclosed_put old begun made new e c.in_ok-put.ensures fills ends) filled;
      met = subst (λ n. IsPut (recast_node (tuple ps) levels n) old new kinds.Array) (sym (array_node levels m b above (search rules))) put;
    }

pub enumeration::recast_pair-recast_content-requires : goal.enumeration::recast_pair-recast_content-requires
enumeration::recast_pair-recast_content-requires t c =
    let vs = c.args.variants.now in
    let v = c.in-Some.variant.now in
    let names = c.in-Some.ensures in
    let bytes = c.args.elements.now in
    let k = c.in-Some.kind in
    let b = c.in-Some.value.now in
    let smaller = named_smaller c.args.reader.now vs v bytes k b names in
    (omega (arith, smaller), (subst (λ n. IsHead bytes (element_of k n b)) (sym c.as_str-name.ensures.value) names.head, named_content vs v bytes k b names c.requires.shapes))

pub enumeration::recast_pair-returns : goal.enumeration::recast_pair-returns
enumeration::recast_pair-returns t c =
    let v = c.in-Some.variant.now in
    let names = c.in-Some.ensures in
    if_pair_put c.args.reader.now c.recast_content.result c.args.variants.now v c.args.levels c.args.elements.now c.in-Some.kind c.as_str-name.result.now c.in-Some.value.now c.args.made.now.items c.recast_content.new.made.items c.as_str-name.ensures.value names
    c.requires.distinct c.recast_content.ensures

pub enumeration::recast_content-recast_known-requires : goal.enumeration::recast_content-recast_known-requires
enumeration::recast_content-recast_known-requires t c =
    (search rules, (omega arith, (omega arith, c.requires.1.1.0)))

pub enumeration::recast_content-set_kind-requires : goal.enumeration::recast_content-set_kind-requires
enumeration::recast_content-set_kind-requires t c =
    let o = recast_content (laid_content c.args.reader.now (content_of c.args.content.now)) c.args.levels (node_in c.args.levels c.args.kind c.args.value.now) in
    let old = c.args.made.now.items in
    let at : c.len-place.result ≡ length old = search rules in
    omega (arith, at, put_within o old c.put.new.made.items c.recast_inside.new.made.items (byte c.args.kind) (c.args.key.now ++ 0 ∷ []) c.in_ok-kind.kind (c.in_ok-put.ensures ∙ ap (λ b. old ++ b) c.named_front.ensures) c.in_ok-kind.ensures)

pub enumeration::recast_content-returns-in-Newtype : goal.enumeration::recast_content-returns-in-Newtype
enumeration::recast_content-returns-in-Newtype t c =
    let o = recast_for c.args.reader.now c.in-Newtype.shape c.args.levels (node_in c.args.levels c.args.kind c.args.value.now) in
    rw c.in-Newtype.is
    (run_put o c.args.key.now c.args.bytes.now c.in_ok-from.from c.named_len-behind.result (size (element_of c.args.kind c.args.key.now c.args.value.now)) c.args.made.now.items c.recast_known.new.made.items c.put_run.new.made.items
    c.named_len-behind.ensures c.in_ok-from.ensures.put c.in_ok-put_run.ensures)

pub enumeration::recast_content-returns : goal.enumeration::recast_content-returns
enumeration::recast_content-returns t c =
    let o = recast_content (laid_content c.args.reader.now (content_of c.args.content.now)) c.args.levels (node_in c.args.levels c.args.kind c.args.value.now) in
    let old = c.args.made.now.items in
    item_put o o (byte c.args.kind) c.args.key.now c.in_ok-kind.kind c.len-place.result old c.put.new.made.items c.recast_inside.new.made.items c.set_kind.new.made.items refl (search rules) (c.in_ok-put.ensures ∙ ap (λ b. old ++ b) c.named_front.ensures)
    c.in_ok-kind.ensures c.set_kind.ensures

pub enumeration::recast_enum-returns : goal.enumeration::recast_enum-returns
enumeration::recast_enum-returns t c =
    let vs = laid_variants c.args.reader.now (variants_of c.args.variants.now) in
    let levels = c.args.levels in
    let m = levels - 1 in
    let b = c.args.bytes.now in
    let old = c.args.made.now.items in
    let begun = c.put.new.made.items in
    let made = c.recast_pair.new.made.items in
    let new = c.close.new.made.items in
    let at : c.len-start.result ≡ length old = search rules in
    let above : levels ≡ suc m = omega (arith, c.if-levels-eq0.false) in
    let ends : new ≡ take (length old) made ++ enclosed (drop (length old + 4) made) = c.in_ok-close.ensures ∙ ap (λ n. take n made ++ enclosed (drop (n + 4) made)) at in
    let put = enum_put vs levels m b old begun made new above (λ x fills. enclosed_put old begun made new x c.in_ok-put.ensures fills ends) (rw c.inside.ensures at c.in_ok-recast_pair.ensures) in
    record {
      seen = put;
      met = subst (λ n. IsPut (recast_node (enumeration vs) levels n) old new kinds.EmbeddedDocument) (sym (document_node levels m b above (search rules))) put;
    }

pub structure::put_field-returns-in-Some : goal.structure::put_field-returns-in-Some
structure::put_field-returns-in-Some t c =
    rw c.in-Some.is (if_element_put c.args.reader.now c.args.levels c.args.field.now c.in-Some.element c.args.made.now.items c.recast_field.new.made.items c.recast_field.result c.recast_field.ensures.name c.recast_field.ensures.put)

pub structure::put_field-returns-in-None : goal.structure::put_field-returns-in-None
structure::put_field-returns-in-None t c =
    rw c.in-None.is (if_missing_put c.args.reader.now c.args.levels c.args.field.now c.args.made.now.items c.put_missing.new.made.items c.put_missing.result c.put_missing.ensures.name c.put_missing.ensures.absent c.put_missing.ensures.put)

pub structure::put_found-put_field-requires : goal.structure::put_found-put_field-requires
structure::put_found-put_field-requires t c =
    let fs = c.args.fields.now in
    let f = c.in-Some.field.now in
    let at = c.in-Some.ensures.lookup in
    let smaller = field_fewer c.args.reader.now fs c.loop-field.place f at.3.0 in
    let same : nodes (laid c.args.reader.now (get_or fs c.loop-field.place f).shape) ≡ nodes (laid c.args.reader.now f.shape) = ap (λ (g : FieldShape). nodes (laid c.args.reader.now g.shape)) (sym at.1) in
    let less : 16 * nodes (laid c.args.reader.now f.shape) + 5 < 16 * fields_nodes (laid_fields c.args.reader.now (fields_of fs)) + 4 = omega (arith, smaller, same) in
    search rules

pub structure::put_found-loop-field-preserved : goal.structure::put_found-loop-field-preserved
structure::put_found-loop-field-preserved t c =
    let at = c.in-Some.ensures.lookup in
    let there = c.in_ok-get.ensures.lookup in (
      omega (arith, at.3.0),
      left_less c.args.reader.now c.args.levels c.args.fields.now c.args.found.now c.loop-field.place c.args.made.now.items c.loop-field.made.items c.put_field.new.made.items c.in-Some.field.now c.in_ok-get.field-0.now c.loop-field.invariant.1 at.3.0 at.1
          there.3.0 there.1 c.in_ok-put_field.ensures,
    )

pub structure::put_found-returns : goal.structure::put_found-returns
structure::put_found-returns t c =
    any_order.left_none c.args.reader.now c.args.levels c.args.fields.now c.args.found.now c.loop-field.place c.args.made.now.items c.loop-field.made.items c.loop-field.invariant.1 (search rules)

pub array::recast_item-returns : goal.array::recast_item-returns
array::recast_item-returns t c =
    let e = c.args.element.now in
    let o = recast_for c.args.reader.now c.args.shape.now c.args.levels (node_in c.args.levels e.kind e.value) in
    let old = c.args.made.now.items in
    item_put o o 0 c.args.key.now c.in_ok-kind.kind c.len-place.result old c.put_front.new.made.items c.recast_element.new.made.items c.set_kind.new.made.items refl (search rules)
    (c.in_ok-put_front.ensures ∙ ap (λ b. old ++ (0 ∷ (b ++ 0 ∷ []))) c.as_bytes.ensures.value) c.in_ok-kind.ensures c.set_kind.ensures

pub array::recast_array-returns : goal.array::recast_array-returns
array::recast_array-returns t c =
    let levels = c.args.levels in
    let m = levels - 1 in
    let b = c.args.bytes.now in
    let old = c.args.made.now.items in
    let begun = c.put.new.made.items in
    let made = c.recast_items.new.made.items in
    let new = c.close.new.made.items in
    let at : c.len-start.result ≡ length old = search rules in
    let above : levels ≡ suc m = omega (arith, c.if-levels-eq0.false) in
    let ends : new ≡ take (length old) made ++ enclosed (drop (length old + 4) made) = c.in_ok-close.ensures ∙ ap (λ n. take n made ++ enclosed (drop (n + 4) made)) at in
    let put = array_put (laid c.args.reader.now c.args.item.now) levels m b old begun made new above (λ x fills. enclosed_put old begun made new x c.in_ok-put.ensures fills ends) (rw c.inside.ensures at c.in_ok-recast_items.ensures) in
    record {
      seen = put;
      met = subst (λ n. IsPut (recast_for c.args.reader.now (sequence c.args.item.now) levels n) old new kinds.Array) (sym (array_node levels m b above (search rules))) put;
    }

pub array::recast_array_of-recast_array-requires : goal.array::recast_array_of-recast_array-requires
array::recast_array_of-recast_array-requires t c =
    let r = c.args.reader.now in
    let d = c.in-Some.definition in
    let name = c.args.name.now in
    let same = reference_smaller r d name c.in-Some.ensures.means in
    let less : 16 * nodes (laid d.reader d.shape.now) + 9 < 16 * nodes (meanings_of r name) + 10 = omega (arith, same) in
    search rules

pub array::recast_array_of-returns-in-Some : goal.array::recast_array_of-returns-in-Some
array::recast_array_of-returns-in-Some t c =
    let r = c.args.reader.now in
    let d = c.in-Some.definition in
    let name = c.args.name.now in
    let levels = c.args.levels in
    let b = c.args.bytes.now in
    let old = c.args.made.now.items in
    let new = c.recast_array.new.made.items in
    let made = c.recast_array.result in
    record {
      seen = sequence_put made r d name levels (inner_node levels kinds.Array b) old new c.in-Some.ensures.means c.recast_array.ensures.seen;
      met = sequence_put made r d name levels (node_in levels kinds.Array b) old new c.in-Some.ensures.means c.recast_array.ensures.met;
    }

pub structure::recast_struct-returns : goal.structure::recast_struct-returns
structure::recast_struct-returns t c =
    let levels = c.args.levels in
    let m = levels - 1 in
    let b = c.args.bytes.now in
    let old = c.args.made.now.items in
    let begun = c.put.new.made.items in
    let made = c.recast_fields.new.made.items in
    let new = c.close.new.made.items in
    let at : c.len-start.result ≡ length old = search rules in
    let above : levels ≡ suc m = omega (arith, c.if-levels-eq0.false) in
    let ends : new ≡ take (length old) made ++ enclosed (drop (length old + 4) made) = c.in_ok-close.ensures ∙ ap (λ n. take n made ++ enclosed (drop (n + 4) made)) at in
    let fs = laid_fields c.args.reader.now (fields_of c.args.fields.now) in
    let put = struct_put (unknown_of c.args.closed) c.args.name.now fs levels m b old begun made new c.requires.1.1.0 above (λ x fills. enclosed_put old begun made new x c.in_ok-put.ensures fills ends) (rw c.inside.ensures at c.in_ok-recast_fields.ensures) in
    record {
      seen = put;
      met = subst (λ n. IsPut (recast_node (structure (unknown_of c.args.closed) c.args.name.now fs) levels n) old new kinds.EmbeddedDocument) (sym (document_node levels m b above (search rules))) put;
    }

pub map::recast_entries-loop-step-preserved : goal.map::recast_entries-loop-step-preserved
map::recast_entries-loop-step-preserved t c =
    let s = c.args.shape.now in
    let levels = c.args.levels in
    let bytes = c.args.elements.now in
    let at = c.loop-step.at in
    let next = c.in_ok-from.from in
    let e = c.in-Ok.element in
    let n = c.element_len-at.result in
    let is = c.element_len-at.ensures.size in
    let head = head_at bytes at e c.element_len-at.ensures.head in
    let made = c.loop-step.made.items ++ run bytes c.loop-step.from at in
    let new = c.recast_next.new.made.items in
    let met = c.loop-step.invariant.2 in
    let name = c.key.result in
    let put = subst (λ m. IsElementPut (recast_for c.args.reader.now s levels (node_in levels e.kind e.value)) e.key made (new ++ run bytes next (at + m))) (sym is) c.in_ok-from.ensures.put in (
      next_within bytes at n e c.loop-step.invariant.0 head is,
      omega (arith, c.in_ok-from.ensures.behind, is),
      (
        met.0 ++ name.now ∷ [],
        c.if-not-add.ensures.added refl met.0 met.1,
        λ different.
            let parts = distinct_last met.0 name.now different in
            next_entry c.args.key (laid c.args.reader.now s) levels (recast_entries c.args.key (laid c.args.reader.now s) no_entries levels (nodes_with (node_in levels) (walk_elements bytes))) met.0 name at n bytes e c.args.made.now.items made (new ++ run bytes next (at + n)) c.requires.keys (met.2 parts.1)
            head is c.key.ensures.key parts.0 put,
      ),
    )

pub map::recast_entries-returns : goal.map::recast_entries-returns
map::recast_entries-returns t c =
    let bytes = c.args.elements.now in
    let at = c.loop-step.at in
    let old = c.args.made.now.items in
    let levels = c.args.levels in
    let whole = recast_entries c.args.key (laid c.args.reader.now c.args.shape.now) no_entries levels (nodes_with (node_in levels) (walk_elements bytes)) in
    let met = c.loop-step.invariant.2 in
    let made = c.loop-step.made.items ++ run bytes c.loop-step.from at in
    let over : walk_elements (drop at bytes) ≡ ended = ap walk_elements (sym (take_rest bytes at)) ∙ rw c.in_default.is at c.next_element.ensures in
    let put = met.2 (c.if-not-are_different.ensures.different refl met.0 met.1) in
    subst (λ (x : Bytes). ArePairsPut whole old x) (sym c.in_ok-put_run.ensures)
    (entries_end c.args.key (laid c.args.reader.now c.args.shape.now) levels whole met.0 old made (subst (λ w. AreEntriesPut c.args.key (laid c.args.reader.now c.args.shape.now) levels whole (nodes_with (node_in levels) w) met.0 old made) over put))

pub map::recast_map-returns : goal.map::recast_map-returns
map::recast_map-returns t c =
    let b = document_bytes c.args.document in
    let m = c.args.levels - 1 in
    let old = c.args.made.now.items in
    let begun = c.put.new.made.items in
    let made = c.recast_entries.new.made.items in
    let new = c.close.new.made.items in
    let at : c.len-start.result ≡ length old = search rules in
    let within = c.inside.ensures ∙ ap inside c.as_bytes-bytes.ensures.bytes in
    let ends : new ≡ take (length old) made ++ enclosed (drop (length old + 4) made) = c.in_ok-close.ensures ∙ ap (λ n. take n made ++ enclosed (drop (n + 4) made)) at in
    map_put c.args.key (laid c.args.reader.now c.args.shape.now) c.args.levels m b old begun made new (omega (arith, c.if-levels-eq0.false)) (λ e fills. enclosed_put old begun made new e c.in_ok-put.ensures fills ends) (rw within at c.in_ok-recast_entries.ensures)

pub array::recast_other-returns-then-is_taken : goal.array::recast_other-returns-then-is_taken
array::recast_other-returns-then-is_taken t c = rw c.in-Some.ensures c.recast_value.ensures.put

pub structure::recast_fields-loop-field-preserved : goal.structure::recast_fields-loop-field-preserved
structure::recast_fields-loop-field-preserved t c =
    let fs = c.args.fields.now in
    let levels = c.args.levels in
    let found = c.in-Some-get.ensures.lookup in
    let put = c.in_ok-put_missing.ensures in (
      omega (arith, found.3.0),
      missing_step c.args.reader.now (unknown_of c.args.closed) fs levels (recast_fields (unknown_of c.args.closed) (slots_of (laid_fields c.args.reader.now (fields_of fs))) levels (nodes_with (node_in levels) (walk_elements c.args.elements.now))) c.loop-field.place c.args.made.now.items c.loop-field.made.items c.in-Some-get.field.now
          c.put_missing.new.made.items c.loop-field.invariant.1 found.3.0 found.1 put.name (put.absent c.args.reader.now) put.put,
    )

pub structure::recast_fields-returns : goal.structure::recast_fields-returns
structure::recast_fields-returns t c =
    let fs = c.args.fields.now in
    let levels = c.args.levels in
    places_end c.args.reader.now (unknown_of c.args.closed) fs levels (recast_fields (unknown_of c.args.closed) (slots_of (laid_fields c.args.reader.now (fields_of fs))) levels (nodes_with (node_in levels) (walk_elements c.args.elements.now))) c.loop-field.place c.args.made.now.items c.loop-field.made.items c.loop-field.invariant.1 (search rules)

pub array::recast_bytes-returns-in_default : goal.array::recast_bytes-returns-in_default
array::recast_bytes-returns-in_default t c = c.recast_first.ensures (element_of c.args.kind c.args.key.now c.args.value.now) c.requires.1.1

pub array::recast_changed-returns : goal.array::recast_changed-returns
array::recast_changed-returns t c =
    let o = recast_for c.args.reader.now c.args.shape.now c.args.levels (node_in c.args.levels c.args.kind c.args.value.now) in
    let old = c.args.made.now.items in
    item_put o o (byte c.args.kind) c.args.key.now c.in_ok-kind.kind c.len-place.result old c.put.new.made.items c.recast_bytes.new.made.items c.set_kind.new.made.items refl (search rules) (c.in_ok-put.ensures ∙ ap (λ b. old ++ b) c.named_front.ensures)
    c.in_ok-kind.ensures c.set_kind.ensures

pub array::recast_items-loop-at-preserved : goal.array::recast_items-loop-at-preserved
array::recast_items-loop-at-preserved t c =
    let s = c.args.item.now in
    let levels = c.args.levels in
    let bytes = c.args.elements.now in
    let at = c.loop-at.at in
    let from = c.loop-at.from in
    let i = c.loop-at.index in
    let j = c.in_ok-index.index in
    let key = c.format-key.result.now in
    let old = c.args.made.now.items in
    let made = c.loop-at.made.items ++ run bytes from at in
    let whole = recast_items (laid c.args.reader.now s) levels 0 (nodes_with (node_in levels) (walk_elements bytes)) in
    let more : j ≡ suc i = omega (arith, c.in_ok-index.ensures) in
    elim c.match-value_under.branch [
      | array::recast_items-in-Some+in_ok-from-in-Some w ↦
          let e = element_of w.in-Some.kind key w.in-Some.value.now in
          let n = w.named_len.result in
          let is = w.named_len.ensures in
          let head = head_at bytes at e w.in-Some.ensures in
          let next = w.in_ok-from-in-Some.from in
          let new = w.recast_known.new.made.items in
          let put = subst (λ m. IsElementPut (recast_for c.args.reader.now s levels (node_in levels e.kind e.value)) key made (new ++ run bytes next (at + m))) (sym is) w.in_ok-from-in-Some.ensures.put in
          rw (w.at-is, w.from-is, w.made-is) (
            next_within bytes at n e c.loop-at.invariant.0 head is,
            omega (arith, w.in_ok-from-in-Some.ensures.behind, is),
            next_item (laid c.args.reader.now s) levels i j whole at n bytes e key old made (new ++ run bytes next (at + n)) c.loop-at.invariant.2 head is c.format-key.ensures.text more put,
          )
      | array::recast_items-in-None+in_ok-at-in-None w ↦
          let given = w.in_ok-at-in-None.ensures in
          let e = given.0 in
          let head = given.1 in
          let n = size e in
          let next = w.in_ok-at-in-None.at in
          let new = w.recast_misnamed.new.made.items in
          let o = recast_for c.args.reader.now s levels (node_in levels e.kind e.value) in
          let put = next_changed o key bytes from at (at + n) c.loop-at.made.items made new refl given.3 in
          rw (w.at-is, w.from-is, w.made-is) (
            omega (arith, next_within bytes at n e c.loop-at.invariant.0 head refl, given.2),
            omega arith,
            subst (λ m. AreLeft whole (recast_items (laid c.args.reader.now s) levels j (nodes_with (node_in levels) (walk_elements (drop m bytes)))) j old (new ++ run bytes m m)) (sym given.2)
                (next_item (laid c.args.reader.now s) levels i j whole at n bytes e key old made (new ++ run bytes (at + n) (at + n)) c.loop-at.invariant.2 head refl c.format-key.ensures.text more put),
          )
    ]

pub array::recast_items-returns : goal.array::recast_items-returns
array::recast_items-returns t c =
    let s = c.args.item.now in
    let levels = c.args.levels in
    let bytes = c.args.elements.now in
    let at = c.loop-at.at in
    let i = c.loop-at.index in
    let old = c.args.made.now.items in
    let whole = recast_items (laid c.args.reader.now s) levels 0 (nodes_with (node_in levels) (walk_elements bytes)) in
    let made = c.loop-at.made.items ++ run bytes c.loop-at.from at in
    let put = left_none whole i old made (subst (λ w. AreLeft whole (recast_items (laid c.args.reader.now s) levels i (nodes_with (node_in levels) w)) i old made) (walk_over bytes at c.loop-at-test.false) c.loop-at.invariant.2) in
    subst (λ (x : Bytes). AreItemsPut whole 0 old x) (sym c.in_ok-put_run.ensures) put

pub array::recast_known-returns-then-is_kept-clause-put : goal.array::recast_known-returns-then-is_kept-clause-put
array::recast_known-returns-then-is_kept-clause-put t c =
    let e = element_of c.args.kind c.args.key.now c.args.value.now in
    next_kept (laid c.args.reader.now c.args.shape.now) c.args.levels c.args.elements.now c.args.from c.args.at e c.args.made.now.items c.requires.1.1.0 c.requires.1.1.1.1 (c.if-is_kept.ensures refl)

pub array::recast_next-recast_known-requires : goal.array::recast_next-recast_known-requires
array::recast_next-recast_known-requires t c =
    let e = c.args.element.now in
    let bytes = drop c.args.at c.args.elements.now in
    let same : element_of c.element_type.result c.key.result.now c.slice.result.now ≡ e = λ i. element_of (c.element_type.ensures.kind i) (c.key.ensures.key i) (c.slice.ensures.slice i) in
    (search rules, (c.requires.order, (c.requires.within, subst (λ x. IsHead bytes x) (sym same) (first_head bytes e c.requires.first))))

pub structure::recast_fields-put_next-requires : goal.structure::recast_fields-put_next-requires
structure::recast_fields-put_next-requires t c =
    let fs = c.args.fields.now in
    let f = c.in-Some.field.now in
    let e = element_of c.in-Some-value_under.kind c.as_str-name.result.now c.in-Some-value_under.value.now in
    let found = c.in-Some.ensures.lookup in
    let smaller = field_fewer c.args.reader.now fs c.loop-at.place f found.3.0 in
    let same : nodes (laid c.args.reader.now (get_or fs c.loop-at.place f).shape) ≡ nodes (laid c.args.reader.now f.shape) = ap (λ (g : FieldShape). nodes (laid c.args.reader.now g.shape)) (sym found.1) in
    let less : 16 * nodes (laid c.args.reader.now f.shape) + 6 < 16 * fields_nodes (laid_fields c.args.reader.now (fields_of fs)) + 8 = omega (arith, smaller, same) in
    let head = head_at c.args.elements.now c.loop-at.at e c.in-Some-value_under.ensures in
    (search rules, (c.loop-at.invariant.1, (c.loop-at.invariant.0, subst (λ key. IsHead (drop c.loop-at.at c.args.elements.now) (element_of e.kind key e.value)) c.as_str-name.ensures.value head)))

pub structure::put_next-recast_known-requires : goal.structure::put_next-recast_known-requires
structure::put_next-recast_known-requires t c =
    let head = subst (λ key. IsHead (drop c.args.at c.args.elements.now) (element_of c.args.kind key c.args.value.now)) (sym c.as_str.ensures.value) c.requires.head in
    (search rules, (c.requires.order, (c.requires.within, head)))

pub structure::put_next-returns : goal.structure::put_next-returns
structure::put_next-returns t c =
    let named = c.as_str.ensures.value in
    let put : Utf8 → Type 0 = λ key. IfSome c.recast_known.result (λ next. IsElementPut (recast_for c.args.reader.now c.args.field.now.shape c.args.levels (node_in c.args.levels c.args.kind c.args.value.now)) key
    (c.args.made.now.items ++ run c.args.elements.now c.args.from c.args.at) (c.recast_known.new.made.items ++ run c.args.elements.now next (c.args.at + size (element_of c.args.kind key c.args.value.now)))) in
    record {
      behind = subst (λ key. IfSome c.recast_known.result (λ next. next ≤ c.args.at + size (element_of c.args.kind key c.args.value.now))) named c.recast_known.ensures.behind;
      put = subst put named c.recast_known.ensures.put;
    }

pub structure::recast_fields-loop-at-preserved-in-Some-value_under : goal.structure::recast_fields-loop-at-preserved-in-Some-value_under
structure::recast_fields-loop-at-preserved-in-Some-value_under t c =
    let fs = c.args.fields.now in
    let levels = c.args.levels in
    let bytes = c.args.elements.now in
    let at = c.loop-at.at in
    let next = c.in_ok-from.from in
    let f = c.in-Some.field.now in
    let e = element_of c.in-Some-value_under.kind c.as_str-name.result.now c.in-Some-value_under.value.now in
    let found = c.in-Some.ensures.lookup in
    let n = c.named_len.result in
    let is = c.named_len.ensures in
    let head = head_at bytes at e c.in-Some-value_under.ensures in
    let made = c.loop-at.made.items ++ run bytes c.loop-at.from at in
    let new = c.put_next.new.made.items in
    let named = c.as_str-name.ensures.value in
    let same = bytes_same (name_of f) e.key (sym named) in
    let long : size (element_of e.kind (name_of f) e.value) ≡ n = ap (λ key. size (element_of e.kind key e.value)) (sym named) ∙ sym is in
    let put = subst (λ key. IsElementPut (recast_for c.args.reader.now f.shape levels (node_in levels e.kind e.value)) key made (new ++ run bytes next (at + n))) (sym named)
    (subst (λ m. IsElementPut (recast_for c.args.reader.now f.shape levels (node_in levels e.kind e.value)) (name_of f) made (new ++ run bytes next (at + m))) long c.in_ok-from.ensures.put) in (
      next_within bytes at n e c.loop-at.invariant.0 head is,
      omega (arith, c.in_ok-from.ensures.behind, long),
      omega (arith, found.3.0),
      next_expected c.args.reader.now (unknown_of c.args.closed) fs levels (recast_fields (unknown_of c.args.closed) (slots_of (laid_fields c.args.reader.now (fields_of fs))) levels (nodes_with (node_in levels) (walk_elements bytes))) c.loop-at.place at n bytes e f c.args.made.now.items made (new ++ run bytes next (at + n)) c.loop-at.invariant.3 head is found.3.0
          found.1 same c.requires.distinct put,
    )

pub structure::recast_fields-recast_others-requires : goal.structure::recast_fields-recast_others-requires
structure::recast_fields-recast_others-requires t c =
    let fs = c.args.fields.now in
    let place = c.loop-at.place in
    let front = c.split_at.result.0.now in
    let back = c.split_at.result.1.now in
    let parts : front ++ back ≡ fs = (λ i. c.split_at.ensures.front i ++ c.split_at.ensures.back i) ∙ take-append-drop place fs in
    let same : fields_nodes (laid_fields c.args.reader.now (fields_of back)) ≡ fields_nodes (laid_fields c.args.reader.now (fields_of (drop place fs))) = ap (λ xs. fields_nodes (laid_fields c.args.reader.now (fields_of xs))) c.split_at.ensures.back in
    let less : 16 * fields_nodes (laid_fields c.args.reader.now (fields_of back)) + 5 < 16 * fields_nodes (laid_fields c.args.reader.now (fields_of fs)) + 8 = omega (arith, fewer c.args.reader.now fs place, same) in
    (search rules, subst (λ xs. AreDistinct (fields_of xs)) (sym parts) c.requires.distinct)

pub structure::recast_fields-returns-then-not-is_free : goal.structure::recast_fields-returns-then-not-is_free
structure::recast_fields-returns-then-not-is_free t c =
    let fs = c.args.fields.now in
    let levels = c.args.levels in
    let bytes = c.args.elements.now in
    let at = c.loop-at.at in
    let place = c.loop-at.place in
    let old = c.args.made.now.items in
    let flushed = c.put_run.new.made.items in
    let whole = recast_fields (unknown_of c.args.closed) (slots_of (laid_fields c.args.reader.now (fields_of fs))) levels (nodes_with (node_in levels) (walk_elements bytes)) in
    let others = rw (c.split_at.ensures.front, c.split_at.ensures.back, take_rest bytes at) at c.recast_others.ensures in
    if_others_put c.args.reader.now (unknown_of c.args.closed) fs levels whole place old flushed c.recast_others.new.made.items (walk_elements (drop at bytes)) c.recast_others.result
    (subst (λ (x : Bytes). AreUnderWay c.args.reader.now (unknown_of c.args.closed) fs levels whole (nodes_with (node_in levels) (walk_elements (drop at bytes))) place old x) (sym c.in_ok-put_run.ensures) c.loop-at.invariant.3) others

pub structure::recast_fields-loop-at-preserved : goal.structure::recast_fields-loop-at-preserved
structure::recast_fields-loop-at-preserved t c =
    let fs = c.args.fields.now in
    let levels = c.args.levels in
    let bytes = c.args.elements.now in
    let at = c.loop-at.at in
    let e = c.in-Some-Ok.element in
    let n = c.element_len-at.result in
    let is = c.element_len-at.ensures.size in
    let old = c.args.made.now.items in
    let head = head_at bytes at e c.element_len-at.ensures.head in
    let made = c.loop-at.made.items ++ run bytes c.loop-at.from at in
    let whole = recast_fields (unknown_of c.args.closed) (slots_of (laid_fields c.args.reader.now (fields_of fs))) levels (nodes_with (node_in levels) (walk_elements bytes)) in
    let left = run_written bytes c.loop-at.made.items c.put_run.new.made.items c.loop-at.from at c.in_ok-put_run.ensures (at + n) in (
      next_within bytes at n e c.loop-at.invariant.0 head is,
      omega arith,
      c.loop-at.invariant.2,
      subst (λ (x : Bytes). AreUnderWay c.args.reader.now (unknown_of c.args.closed) fs levels whole (nodes_with (node_in levels) (walk_elements (drop (at + n) bytes))) c.loop-at.place old x) (sym left)
          (dropped_step c.args.reader.now (unknown_of c.args.closed) fs levels whole c.loop-at.place old made (walk_elements (drop at bytes)) (walk_elements (drop (at + n) bytes)) e c.loop-at.invariant.3 (walk_next bytes at n e head is) (search rules) (ap unknown_of c.if-closed.false) c.in_ok-drop_value.ensures),
    )

pub structure::recast_fields-loop-field-init : goal.structure::recast_fields-loop-field-init
structure::recast_fields-loop-field-init t c =
    let fs = c.args.fields.now in
    let levels = c.args.levels in
    let bytes = c.args.elements.now in
    let at = c.loop-at.at in
    let place = c.loop-at.place in
    let old = c.args.made.now.items in
    let made = c.loop-at.made.items ++ run bytes c.loop-at.from at in
    let whole = recast_fields (unknown_of c.args.closed) (slots_of (laid_fields c.args.reader.now (fields_of fs))) levels (nodes_with (node_in levels) (walk_elements bytes)) in
    let left = subst (λ w. AreUnderWay c.args.reader.now (unknown_of c.args.closed) fs levels whole (nodes_with (node_in levels) w) place old made) (walk_over bytes at c.loop-at-test.false) c.loop-at.invariant.3 in
    (c.loop-at.invariant.2, subst (λ (x : Bytes). AreUnderWay c.args.reader.now (unknown_of c.args.closed) fs levels whole (nodes_with (node_in levels) ended) place old x) (sym c.in_ok-put_run-2.ensures) left)
