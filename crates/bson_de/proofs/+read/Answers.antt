use Rattle.std.proofs.Common.{rules, ◌≡◌, Ok, None, List, refl, string_bytes, ◌+◌, ◌*◌, ◌<◌, ap, sym, subst, ◌∙◌, get_or, map, arith}
use Rattle.std.specs.Borrow.{Bor}
use Rattle.bson_kinds.specs.Outcome.{◌>>=◌, result_map}
use Rattle.bson_kinds.specs.Piece.{Piece, made}
use Rattle.bson_shape.specs.Form.{dropped, denied, tuple_content, struct_content}
use Rattle.bson_shape.specs.Makers.{has_repeat}
use Rattle.bson_shape.specs.ShapeView.{form_view, fields_of, parts_of, variants_of, content_of, nodes, fields_nodes, parts_nodes, variants_nodes, content_nodes}
use Rattle.bson_shape.specs.declared.shape.FieldShape.{FieldShape}
use Rattle.bson_shape.proofs.Names.{field_names_are}
use Rattle.bson_values.specs.Cause.{duplicate_field}
use Rattle.bson_values.specs.Marked.{Marked, MarkedFields}
use Rattle.bson_datum.specs.MarkedView.{marked}
use Rattle.bson_values.specs.Refusal.{at_key, under}
use Rattle.bson_values.specs.Value as value
use Rattle.bson_values.specs.declared.text.Text.TheVariants.{Owned}
use Rattle.bson_values.specs.Value.{no_entries}
use Rattle.bson_laws.specs.Containers.{reads_items, reads_entries, reads_key}
use Rattle.bson_laws.specs.FromTree.{mended_at, struct_content_at}
use Rattle.bson_laws.specs.Judged.{Reading, judged, refused}
use Rattle.bson_laws.specs.ReadsFrom.{reads_for, parts_for, slots_for, variant_for, content_for}
use Rattle.bson_laws.specs.Scopes.{meanings_of, laid, laid_fields, laid_parts, laid_variants, laid_content, formed_content}
use Rattle.bson_laws.specs.Slots.{Slot, Slots, read_structure, reads_places}
use Rattle.bson_laws.specs.Unrolled.{Meanings, unrolled, in_table, max_steps}
use Rattle.bson_laws.specs.declared.origin.Reader.{Reader}
use Rattle.bson_laws.proofs.Scoped.{read_inside, read_definition, read_nothing, field_fewer, part_fewer}
use Rattle.bson_met.specs.Gives.{Reaches}
use Rattle.bson_met.specs.PieceView.{str_piece, met_text}
use Rattle.bson_met.specs.Sizes.{count}
use Rattle.bson_met.specs.ValueView.{value_view}
use Rattle.bson_met.proofs.Refusals.{StopsAs, stops_bind, stops_inside}
use Rattle.bson_slots.specs.Place.{place_of}
use Rattle.bson_slots.specs.FieldsRead.{unknown_of, fields_by_key}
use Rattle.bson_slots.specs.FieldSlots.{fields_marked}
use Rattle.bson_slots.specs.SlotsView.{slots_view}
use Rattle.bson_slots.proofs.Elements.{value_put, value_refused, put_filled, unknown_passed}
use Rattle.bson_leaves.specs.EntriesView.{key_form, entries_of}
use Rattle.bson_leaves.specs.Named.{variant_named}
use Rattle.bson_texts.specs.ListsMarked.{items_marked, entries_marked}
use Rattle.bson_texts.proofs.Each.{each, step_is, item_is, each_step, each_next, each_stop}
use Rattle.bson_de_parts.specs.TreeContents.{document_elements_of, content_fields}
use Rattle.bson_de_parts.proofs.ClosedStructs.{closed_by_key, closed_stops, closed_fields_stop}
use Rattle.bson_de_parts.proofs.FieldPlaces.{values_before, places_step, places_stop, places_end, all_left as no_values}
use Rattle.bson_leaves.proofs.KeyTexts.{key_valued}
use Rattle.bson_texts.proofs.Loops.{items_by, items_each, items_push, item_done, item_stops, entries_by, entries_each, entry_done, key_stops, entry_stops}
use Rattle.bson_texts.proofs.Mapped.{taken, not_taken}
use Rattle.bson_texts.proofs.SlotsFilled.{slots_by, fill_each}
use Rattle.bson_de_parts.proofs.MapKeys.{map_read, map_stops}
use Rattle.bson_de_parts.proofs.Nulls.{option_null}
use Rattle.bson_texts.proofs.MarkedLists.{marked-Seq, marked-Tuple, marked-TupleStruct, marked-TupleVariant, marked-Map}
use Rattle.bson_de_parts.proofs.Parts.{items_before, parts_step, parts_stop, parts_end, all_left}
use Rattle.bson_de_parts.proofs.VariantContents.{contents_at_key, tree_fields}
use Rattle.bson_de_parts.proofs.Variants.{element_first, element_read, content_read, named_smaller, named_content, text_named, elements_read, elements_stop}
use Rattle.bson_de.proofs.+read.Goals as goal

pub value::read_items-step-init : goal.value::read_items-step-init
value::read_items-step-init t c =
    let read = reads_for c.args.reader.now c.args.item.now in
    (omega (arith, c.start-value.ensures.few), (λ i. each (items_by read) 0 c.args.elements (items_marked (c.new-items.ensures.items i))) ∙ items_each read c.args.elements)

pub value::read_items-step-preserved : goal.value::read_items-step-preserved
value::read_items-step-preserved t c =
    let read = reads_for c.args.reader.now c.args.item.now in
    let v = c.advance.new.value in
    let i = c.step.index in
    let old = items_marked c.step.items.items in
    let d = c.in_ok-read_item.field-0 in
    let first = item_is _ _ c.in_ok-advance.field-0 v c.in_ok-advance.ensures.advanced c.if-branch.true in (
      omega (arith, c.step.invariant.0, ap count first.first),
      ap (each (items_by read) (i + 1) c.advance.new.self) (ap items_marked c.in_ok-push.ensures.items ∙ items_push c.step.items.items d)
          ∙ each_step (items_by read) i c.step.elements old _ c.step.invariant.1 first.key v c.advance.new.self _ first.first (item_done read i first.key v old (marked d) c.in_ok-read_item.ensures.exact),
    )

pub value::read_sequence-returns : goal.value::read_sequence-returns
value::read_sequence-returns t c = record {
  exact = ap (λ r. r >>= λ ns. result_map value.sequence (reads_items (reads_for c.args.reader.now c.args.item.now) 0 ns)) c.in_ok-elements.ensures.array ∙ ap (result_map value.sequence) c.in_ok-items.ensures.exact ∙ ap Ok (sym (marked-Seq c.in_ok-items.items));
}

pub tuple::read_tuple-returns : goal.tuple::read_tuple-returns
tuple::read_tuple-returns t c = record {
  exact = ap (λ r. r >>= λ ns. result_map value.tuple (parts_for c.args.reader.now (parts_of c.args.parts.now) 0 ns)) c.in_ok-elements.ensures.array ∙ ap (result_map value.tuple) c.in_ok-items.ensures.exact ∙ ap Ok (sym (marked-Tuple c.in_ok-items.items));
}

pub map::read_map-returns : goal.map::read_map-returns
map::read_map-returns t c = record {
  exact = map_read c.args.reader.now c.args.key.now c.args.item.now c.args.value.now
      ∙ ap (λ r. r >>= λ ns. result_map value.map (reads_entries (reads_key c.args.key.now) (reads_for c.args.reader.now c.args.item.now) ns no_entries)) c.in_ok-elements.ensures.document ∙ ap (result_map value.map) c.in_ok-entries.ensures.exact ∙ ap Ok (sym (marked-Map c.in_ok-entries.entries));
}

pub map::read_map-returns-in_err-entries : goal.map::read_map-returns-in_err-entries
map::read_map-returns-in_err-entries t c =
    let here = map_stops c.args.reader.now c.args.key.now c.args.item.now c.args.value.now c.in_ok-elements.elements c.in_err-entries.field-0.0 c.in_ok-elements.ensures.document c.in_err-entries.ensures.exact in
    record { exact = search (rules, here) }

pub value::read_definitions-read_for-requires : goal.value::read_definitions-read_for-requires
value::read_definitions-read_for-requires t c =
    let q = c.inside.result in
    let s = c.args.inner.now in
    let h = fields_of c.args.table.now in
    let same : nodes (laid q s) ≡ nodes (in_table max_steps h s) = ap (λ (g : Meanings). nodes (unrolled max_steps s g)) c.inside.ensures.meanings in
    let less : 8 * nodes (laid q s) < 8 * nodes (in_table max_steps h s) + 1 = omega (arith, same) in
    (search rules, tt)

pub value::read_definitions-returns : goal.value::read_definitions-returns
value::read_definitions-returns t c =
    let inside = read_inside c.args.reader.now c.inside.result (fields_of c.args.table.now) c.args.inner.now c.args.value.now c.inside.ensures.readable c.inside.ensures.origin c.inside.ensures.meanings in
    record { exact = subst (λ (r : Reading Marked). Reaches marked c.read_for.result r) inside c.read_for.ensures.exact }

pub value::read_reference-read_for-requires : goal.value::read_reference-read_for-requires
value::read_reference-read_for-requires t c =
    let d = c.in-Some.definition in
    let r = c.args.reader.now in
    let name = c.args.name.now in
    let same : nodes (meanings_of r name) ≡ nodes (laid d.reader d.shape.now) = ap nodes c.in-Some.ensures.means.0 in
    let less : 8 * nodes (laid d.reader d.shape.now) < 8 * nodes (meanings_of r name) + 1 = omega (arith, same) in
    (search rules, tt)

pub value::read_reference-returns-in-Some : goal.value::read_reference-returns-in-Some
value::read_reference-returns-in-Some t c =
    let read = read_definition c.args.reader.now c.in-Some.definition c.args.name.now c.args.value.now c.in-Some.ensures.means in
    record { exact = subst (λ (r : Reading Marked). Reaches marked c.read_for.result r) read c.read_for.ensures.exact }

pub value::read_reference-returns-in-None : goal.value::read_reference-returns-in-None
value::read_reference-returns-in-None t c =
    let nothing = read_nothing c.args.reader.now c.args.name.now c.args.value.now c.in-None.ensures.means in
    record { exact = subst (λ (r : Reading Marked). Reaches marked c.no_definition.result r) (sym nothing) c.no_definition.ensures.exact }

pub tuple::read_parts-loop-place-init : goal.tuple::read_parts-loop-place-init
tuple::read_parts-loop-place-init t c =
    let ps = parts_of c.args.parts.now in
    (λ i. result_map (items_before (c.new-values.ensures.items i)) (parts_for c.args.reader.now ps 0 c.args.elements)) ∙ all_left (parts_for c.args.reader.now ps 0 c.args.elements)

pub tuple::read_parts-read_next-requires : goal.tuple::read_parts-read_next-requires
tuple::read_parts-read_next-requires t c =
    let ps = c.args.parts.now in
    let s = c.index-parts-place.result in
    let r = c.args.reader.now in
    let smaller = part_fewer r ps c.loop-place.place s c.loop-place-test.true in
    let same : nodes (laid r (get_or ps c.loop-place.place s)) ≡ nodes (laid r s) = ap (λ f. nodes (laid r f)) (sym c.index-parts-place.is) in
    let less : 8 * nodes (laid r s) + 2 < 8 * parts_nodes (laid_parts r (parts_of ps)) + 3 = omega (arith, smaller, same) in
    (search rules, tt)

pub tuple::read_parts-loop-place-preserved : goal.tuple::read_parts-loop-place-preserved
tuple::read_parts-loop-place-preserved t c =
    parts_step c.args.reader.now c.args.parts.now c.loop-place.place c.loop-place.values.items c.loop-place.elements _ c.loop-place.invariant c.index-parts-place.result c.loop-place-test.true c.index-parts-place.is c.read_next.new.elements c.in_ok-value.value c.push.new.self.items
    c.in_ok-value.ensures.rest c.in_ok-value.ensures.value c.in_ok-push.ensures.items

pub tuple::read_parts-returns : goal.tuple::read_parts-returns
tuple::read_parts-returns t c = record {
  exact = parts_end c.args.reader.now c.args.parts.now c.loop-place.place c.loop-place.values.items c.loop-place.elements _ c.loop-place.invariant (omega (arith, c.loop-place-test.false));
}

pub structure::read_by_place-read_next-requires : goal.structure::read_by_place-read_next-requires
structure::read_by_place-read_next-requires t c =
    let fs = c.args.fields.now in
    let f = c.index-fields-place.result in
    let r = c.args.reader.now in
    let smaller = field_fewer r fs c.loop-place.place f c.loop-place-test.true in
    let same : nodes (laid r (get_or fs c.loop-place.place f).shape) ≡ nodes (laid r f.shape) = ap (λ (g : FieldShape). nodes (laid r g.shape)) (sym c.index-fields-place.is) in
    let less : 8 * nodes (laid r f.shape) + 2 < 8 * fields_nodes (laid_fields r (fields_of fs)) + 3 = omega (arith, smaller, same) in
    (search rules, tt)

pub structure::fill_one-read_for-requires : goal.structure::fill_one-read_for-requires
structure::fill_one-read_for-requires t c =
    let fs = c.args.index.now.items.now in
    let r = c.args.slots.now.reader.now in
    let smaller = field_fewer r fs c.in-Some.place c.index-fields-place.result c.in-Some.ensures.within in
    let less : 8 * nodes (laid r (get_or fs c.in-Some.place c.index-fields-place.result).shape) < 8 * fields_nodes (laid_fields r (fields_of fs)) + 1 = omega (arith, smaller) in
    (search rules, tt)

pub enumeration::read_variant-read_content-requires : goal.enumeration::read_variant-read_content-requires
enumeration::read_variant-read_content-requires t c =
    let vs = c.args.variants.now in
    let v = c.in_ok-variant.variant.now in
    let key = c.in_ok-step.step.key.text.now in
    let r = c.args.reader.now in
    let smaller = named_smaller r vs key v c.in_ok-variant.ensures in
    let less : 8 * content_nodes (laid_content r (content_of v.content)) + 7 < 8 * variants_nodes (laid_variants r (variants_of vs)) + 1 = omega (arith, smaller) in
    (search rules, named_content vs key v c.requires c.in_ok-variant.ensures)

pub value::read_items-returns-in_err-read_item : goal.value::read_items-returns-in_err-read_item
value::read_items-returns-in_err-read_item t c =
    let read = reads_for c.args.reader.now c.args.item.now in
    let v = c.advance.new.value in
    let i = c.step.index in
    let old = items_marked c.step.items.items in
    let stop = c.in_err-read_item.field-0.0 in
    let first = item_is _ _ c.in_ok-advance.field-0 v c.in_ok-advance.ensures.advanced c.if-branch.true in
    let here = each_stop (items_by read) i c.step.elements old _ c.step.invariant.1 first.key v c.advance.new.self stop first.first (item_stops read i first.key v old stop c.in_err-read_item.ensures.exact) in
    record { exact = search (rules, here) }

pub tuple::read_parts-returns-in_err-value : goal.tuple::read_parts-returns-in_err-value
tuple::read_parts-returns-in_err-value t c =
    let stop = c.in_err-value.field-0.0 in
    let here = parts_stop c.args.reader.now c.args.parts.now c.loop-place.place c.loop-place.values.items c.loop-place.elements _ c.loop-place.invariant c.index-parts-place.result c.loop-place-test.true c.index-parts-place.is stop c.in_err-value.ensures.value in
    record { exact = search (rules, here) }

pub tuple::read_tuple_struct-returns : goal.tuple::read_tuple_struct-returns
tuple::read_tuple_struct-returns t c =
    let name = c.args.name.now in
    let ps = parts_of c.args.parts.now in
    record {
      exact = ap (λ r. r >>= λ ns. result_map (value.tuple_structure (made name)) (parts_for c.args.reader.now ps 0 ns)) c.in_ok-elements.ensures.array ∙ ap (result_map (value.tuple_structure (made name))) c.in_ok-items.ensures.exact
          ∙ ap (λ n. Ok (value.tuple_structure (made n) (items_marked c.in_ok-items.items.items))) (sym c.in_ok-from_str.ensures.ok) ∙ ap Ok (sym (marked-TupleStruct (Owned c.in_ok-from_str.field-0) c.in_ok-items.items));
    }

pub enumeration::read_tuple_variant-returns : goal.enumeration::read_tuple_variant-returns
enumeration::read_tuple_variant-returns t c =
    let name = c.args.name.now in
    let ps = parts_of c.args.parts.now in
    record {
      exact = ap (λ r. r >>= λ ns. result_map (value.tuple_variant (made name)) (parts_for c.args.reader.now ps 0 ns)) c.in_ok-elements.ensures.exact ∙ ap (result_map (value.tuple_variant (made name))) c.in_ok-items.ensures.exact
          ∙ ap (λ n. Ok (value.tuple_variant (made n) (items_marked c.in_ok-items.items.items))) (sym c.in_ok-from_str.ensures.ok) ∙ ap Ok (sym (marked-TupleVariant (Owned c.in_ok-from_str.field-0) c.in_ok-items.items));
    }

pub map::read_entries-step-init : goal.map::read_entries-step-init
map::read_entries-step-init t c =
    let read_key = reads_key c.args.key.now in
    let read = reads_for c.args.reader.now c.args.item.now in (
      c.new-entries.ensures.indexed,
      ap form_view c.new-entries.ensures.key ∙ c.form.ensures.form,
      (λ i. each (entries_by read_key read) 0 c.args.elements (entries_marked (c.new-entries.ensures.none i))) ∙ entries_each read_key read 0 c.args.elements no_entries,
    )

pub map::read_entries-put-requires : goal.map::read_entries-put-requires
map::read_entries-put-requires t c =
    let s = c.advance.new.step in
    record {
      indexed = c.step.invariant.0;
      key = key_valued (form_view (key_form c.step.entries)) (str_piece s.key) (marked c.in_ok-key.key) c.step.invariant.0.text c.in_ok-key.ensures.exact;
    }

pub map::read_entries-step-preserved : goal.map::read_entries-step-preserved
map::read_entries-step-preserved t c =
    let read_key = reads_key c.args.key.now in
    let read = reads_for c.args.reader.now c.args.item.now in
    let s = c.advance.new.step in
    let k = str_piece s.key in
    let old = entries_marked (entries_of c.step.entries) in
    let put = c.in_ok-put-in-Ok.ensures in
    let first = step_is _ _ c.in_ok-advance.field-0 s c.in_ok-advance.ensures.advanced c.if-branch.true in
    let named : read_key k ≡ Ok (marked c.in_ok-key.key) = ap (λ f. reads_key f k) (sym c.step.invariant.1) ∙ c.in_ok-key.ensures.exact in (
      put.indexed,
      ap form_view put.key ∙ c.step.invariant.1,
      ap (each (entries_by read_key read) 0 c.advance.new.self) put.entries
          ∙ each_next (entries_by read_key read) 0 c.step.elements old _ c.step.invariant.2 (λ j l n x. refl) k s.value c.advance.new.self _ first
          (entry_done read_key read 0 k s.value old (marked c.in_ok-key.key) (marked c.in-Ok.value) named c.in-Ok.ensures.exact),
    )

pub map::read_entries-returns-in_err-key : goal.map::read_entries-returns-in_err-key
map::read_entries-returns-in_err-key t c =
    let read_key = reads_key c.args.key.now in
    let read = reads_for c.args.reader.now c.args.item.now in
    let s = c.advance.new.step in
    let k = str_piece s.key in
    let old = entries_marked (entries_of c.step.entries) in
    let stop = c.in_err-key.field-0.0 in
    let first = step_is _ _ c.in_ok-advance.field-0 s c.in_ok-advance.ensures.advanced c.if-branch.true in
    let refused_key = subst (λ f. StopsAs stop (reads_key f k)) c.step.invariant.1 c.in_err-key.ensures.exact in
    let here = each_stop (entries_by read_key read) 0 c.step.elements old _ c.step.invariant.2 k s.value c.advance.new.self stop first (key_stops read_key read 0 k s.value old stop refused_key) in
    record { exact = search (rules, here) }

pub map::read_entries-returns-in-Err : goal.map::read_entries-returns-in-Err
map::read_entries-returns-in-Err t c =
    let read_key = reads_key c.args.key.now in
    let read = reads_for c.args.reader.now c.args.item.now in
    let s = c.advance.new.step in
    let k = str_piece s.key in
    let old = entries_marked (entries_of c.step.entries) in
    let stop = c.in-Err.stop in
    let first = step_is _ _ c.in_ok-advance.field-0 s c.in_ok-advance.ensures.advanced c.if-branch.true in
    let named : read_key k ≡ Ok (marked c.in_ok-key.key) = ap (λ f. reads_key f k) (sym c.step.invariant.1) ∙ c.in_ok-key.ensures.exact in
    let here = each_stop (entries_by read_key read) 0 c.step.elements old _ c.step.invariant.2 k s.value c.advance.new.self stop first (entry_stops read_key read 0 k s.value old (marked c.in_ok-key.key) stop named c.in-Err.ensures.exact) in
    record { exact = search (rules, here) }

pub enumeration::read_variant-returns : goal.enumeration::read_variant-returns
enumeration::read_variant-returns t c =
    let vs = c.args.variants.now in
    let s = c.in_ok-step.step in
    let ns = c.args.elements in
    let parts = element_first c.args.reader.now.origin (variant_for c.args.reader.now (variants_of vs)) ns ∙ ap (λ r. r >>= λ p. variant_for c.args.reader.now (variants_of vs) p.key.bytes p.value) c.in_ok-step.ensures ∙ element_read c.args.reader.now vs (str_piece s.key).bytes s.value in
    record { exact = subst (λ (r : Reading Marked). Reaches marked c.read_content.result r) (sym (parts ∙ ap (λ r. r >>= content_read c.args.reader.now s.value) c.in_ok-variant.ensures)) c.read_content.ensures.exact }

pub enumeration::read_variant-returns-in_err-variant : goal.enumeration::read_variant-returns-in_err-variant
enumeration::read_variant-returns-in_err-variant t c =
    let vs = c.args.variants.now in
    let s = c.in_ok-step.step in
    let ns = c.args.elements in
    let parts = element_first c.args.reader.now.origin (variant_for c.args.reader.now (variants_of vs)) ns ∙ ap (λ r. r >>= λ p. variant_for c.args.reader.now (variants_of vs) p.key.bytes p.value) c.in_ok-step.ensures ∙ element_read c.args.reader.now vs (str_piece s.key).bytes s.value in
    let here : Reaches marked c.from_residual-in_err-variant.result (variant_named vs (str_piece s.key).bytes >>= content_read c.args.reader.now s.value) = search rules in
    record { exact = subst (λ (r : Reading Marked). Reaches marked c.from_residual-in_err-variant.result r) (sym parts) here }

pub enumeration::read_content-returns-in-Tuple : goal.enumeration::read_content-returns-in-Tuple
enumeration::read_content-returns-in-Tuple t c =
    let own = string_bytes c.args.variant.now.name in
    let content : tuple_content (parts_of c.deref.result.now) ≡ content_of c.args.variant.now.content = ap (λ xs. tuple_content (parts_of xs)) c.deref.ensures.value ∙ ap content_of (sym c.in-Tuple.is) in
    record {
      exact = subst (λ k. Reaches marked c.at_key-in-Tuple.result (content_for c.args.reader.now own k c.args.step.now.value)) content
          (contents_at_key c.args.reader.now.origin own c.as_str-name.result.now (formed_content c.args.reader.now (tuple_content (parts_of c.deref.result.now))) c.args.step.now.value c.read_tuple_variant.result c.at_key-in-Tuple.result refl c.as_str-name.ensures.value c.at_key-in-Tuple.ensures c.read_tuple_variant.ensures.exact);
    }

pub enumeration::read_content-returns-in-Struct : goal.enumeration::read_content-returns-in-Struct
enumeration::read_content-returns-in-Struct t c =
    let own = string_bytes c.args.variant.now.name in
    let content : struct_content (fields_of c.deref-in-Struct.result.now) ≡ content_of c.args.variant.now.content = ap (λ xs. struct_content (fields_of xs)) c.deref-in-Struct.ensures.value ∙ ap content_of (sym c.in-Struct.is) in
    record {
      exact = subst (λ k. Reaches marked c.at_key-in-Struct.result (content_for c.args.reader.now own k c.args.step.now.value)) content
          (contents_at_key c.args.reader.now.origin own c.as_str-name.result.now (formed_content c.args.reader.now (struct_content (fields_of c.deref-in-Struct.result.now))) c.args.step.now.value c.read_struct_variant.result c.at_key-in-Struct.result refl c.as_str-name.ensures.value c.at_key-in-Struct.ensures c.read_struct_variant.ensures.exact);
    }

pub structure::read_by_key-new-index-requires : goal.structure::read_by_key-new-index-requires
structure::read_by_key-new-index-requires t c = ap has_repeat (field_names_are c.args.fields.now) ∙ c.requires

pub structure::read_by_key-step-init : goal.structure::read_by_key-step-init
structure::read_by_key-step-init t c =
    let slots = slots_for c.args.reader.now (fields_of c.args.fields.now) in (
      ap (λ (fs : Bor (List FieldShape)). fs.now) c.new-index.ensures,
      ap (λ (fs : Bor (List FieldShape)). fs.now) c.in_ok-slots.ensures.fields,
      ap (λ (r : Bor Reader). r.now) c.in_ok-slots.ensures.reader,
      ap (each (slots_by (unknown_of c.args.closed)) 0 c.args.elements) c.in_ok-slots.ensures.empty ∙ fill_each (unknown_of c.args.closed) 0 c.args.elements slots,
    )

pub structure::read_by_key-fill_one-requires : goal.structure::read_by_key-fill_one-requires
structure::read_by_key-fill_one-requires t c =
    let kept = c.step.invariant in
    let r = c.args.reader.now in
    let fs = c.args.fields.now in
    let met = laid_fields c.step.slots.reader.now (fields_of c.step.index.items.now) in
    let same : fields_nodes met ≡ fields_nodes (laid_fields r (fields_of fs)) = λ i. fields_nodes (laid_fields (kept.2 i) (fields_of (kept.0 i))) in
    let less : 8 * fields_nodes met + 1 < 8 * fields_nodes (laid_fields r (fields_of fs)) + 3 = omega (arith, same) in
    (search rules, kept.1 ∙ sym kept.0)

pub structure::read_by_key-step-preserved : goal.structure::read_by_key-step-preserved
structure::read_by_key-step-preserved t c =
    let s = c.advance.new.step in
    let first = step_is _ _ c.in_ok-advance.field-0 s c.in_ok-advance.ensures.advanced c.if-branch.true in (
      ap (λ (fs : Bor (List FieldShape)). fs.now) c.in_ok-fill_one.ensures.items ∙ c.step.invariant.0,
      ap (λ (fs : Bor (List FieldShape)). fs.now) c.in_ok-fill_one.ensures.kept ∙ c.step.invariant.1,
      ap (λ (r : Bor Reader). r.now) c.in_ok-fill_one.ensures.reader ∙ c.step.invariant.2,
      each_next (slots_by (unknown_of c.args.closed)) 0 c.step.elements (slots_view c.step.slots) _ c.step.invariant.3 (λ j l n x. refl) (str_piece s.key) s.value c.advance.new.self (slots_view c.fill_one.new.slots) first c.in_ok-fill_one.ensures.exact,
    )

pub structure::fill_one-returns-in_ok-put-in-Ok-clause-exact : goal.structure::fill_one-returns-in_ok-put-in-Ok-clause-exact
structure::fill_one-returns-in_ok-put-in-Ok-clause-exact t c =
    let s = c.args.step.now in
    let key = (str_piece s.key).bytes in
    let i = c.in-Some.place in
    let slots = c.args.slots.now in
    let place = ap (λ xs. place_of (map (λ (f : FieldShape). string_bytes f.name) xs) key) c.requires ∙ sym c.in-Some.ensures.place in
    let f = c.index-fields-place.result in
    let at = ap (λ xs. under key (reads_for slots.reader.now (get_or xs i f).shape s.value)) c.requires in
    value_put slots (unknown_of c.args.closed) key s.value i f place (sym c.if-is_filled.ensures) (marked c.in-Ok.value) (at ∙ ap (under key) c.in-Ok.ensures.exact) ∙ ap Ok (sym c.in_ok-put-in-Ok.ensures.put)

pub structure::fill_one-returns-in-Err-clause-exact : goal.structure::fill_one-returns-in-Err-clause-exact
structure::fill_one-returns-in-Err-clause-exact t c =
    let s = c.args.step.now in
    let key = (str_piece s.key).bytes in
    let i = c.in-Some.place in
    let slots = c.args.slots.now in
    let place = ap (λ xs. place_of (map (λ (f : FieldShape). string_bytes f.name) xs) key) c.requires ∙ sym c.in-Some.ensures.place in
    let f = c.index-fields-place.result in
    let stop = c.under_key.result in
    let here = stops_inside (at_key key) c.in-Err.stop stop (reads_for slots.reader.now (get_or c.args.index.now.items.now i f).shape s.value) c.under_key.ensures.under c.in-Err.ensures.exact in
    value_refused slots (unknown_of c.args.closed) key s.value i f place (sym c.if-is_filled.ensures) stop (subst (λ xs. StopsAs stop (under key (reads_for slots.reader.now (get_or xs i f).shape s.value))) (sym c.requires) here)

pub structure::fill_one-returns-then-is_filled-clause-exact : goal.structure::fill_one-returns-then-is_filled-clause-exact
structure::fill_one-returns-then-is_filled-clause-exact t c =
    let s = c.args.step.now in
    let key = (str_piece s.key).bytes in
    let i = c.in-Some.place in
    let slots = c.args.slots.now in
    let place = ap (λ xs. place_of (map (λ (f : FieldShape). string_bytes f.name) xs) key) c.requires ∙ sym c.in-Some.ensures.place in
    let some : Slot = record { name = key; missing = None; read = λ n. Ok value.unit; value = None } in
    let here : StopsAs c.refused.result (refused {A = Slots} (duplicate_field key)) = search rules in
    subst (λ (r : Reading Slots). StopsAs c.refused.result r) (sym (put_filled slots (unknown_of c.args.closed) key s.value i place (sym c.if-is_filled.ensures) some)) here

pub structure::fill_one-returns-in_default-clause-exact : goal.structure::fill_one-returns-in_default-clause-exact
structure::fill_one-returns-in_default-clause-exact t c =
    let s = c.args.step.now in
    let key = (str_piece s.key).bytes in
    let slots = c.args.slots.now in
    let none = ap (λ xs. place_of (map (λ (f : FieldShape). string_bytes f.name) xs) key) c.requires ∙ sym c.in_default.ensures.place in
    unknown_passed slots (unknown_of c.args.closed) key s.value none c.pass_unknown.result c.pass_unknown.ensures.exact

pub structure::read_struct-returns : goal.structure::read_struct-returns
structure::read_struct-returns t c = record {
  exact = taken (value.structure (made c.args.name.now)) (judged c.args.value.now) (read_structure dropped (slots_for c.args.reader.now (fields_of c.args.fields.now))) _ c.in_ok-fields.ensures.exact ∙ ap Ok (sym c.in_ok-named_struct.ensures.marked);
}

pub structure::read_struct-returns-in_err-fields : goal.structure::read_struct-returns-in_err-fields
structure::read_struct-returns-in_err-fields t c =
    let here = not_taken (value.structure (made c.args.name.now)) (judged c.args.value.now) (read_structure dropped (slots_for c.args.reader.now (fields_of c.args.fields.now))) c.in_err-fields.field-0.0 c.in_err-fields.ensures.exact in
    record { exact = search (rules, here) }

pub structure::read_closed_struct-returns : goal.structure::read_closed_struct-returns
structure::read_closed_struct-returns t c =
    let named = value.structure (made c.args.name.now) in
    let slots = slots_for c.args.reader.now (fields_of c.args.fields.now) in
    record {
      exact = closed_by_key named slots c.args.value.now ∙ ap (λ r. r >>= λ ns. result_map named (fields_by_key denied slots ns)) c.in_ok-elements.ensures.document ∙ ap (result_map named) c.in_ok-fields.ensures.exact ∙ ap Ok (sym c.in_ok-named_struct.ensures.marked);
    }

pub structure::read_closed_struct-returns-in_err-elements : goal.structure::read_closed_struct-returns-in_err-elements
structure::read_closed_struct-returns-in_err-elements t c =
    let here = closed_stops (value.structure (made c.args.name.now)) (slots_for c.args.reader.now (fields_of c.args.fields.now)) c.args.value.now c.in_err-elements.field-0.0 c.in_err-elements.ensures.document in
    record { exact = search (rules, here) }

pub structure::read_closed_struct-returns-in_err-fields : goal.structure::read_closed_struct-returns-in_err-fields
structure::read_closed_struct-returns-in_err-fields t c =
    let here = closed_fields_stop (value.structure (made c.args.name.now)) (slots_for c.args.reader.now (fields_of c.args.fields.now)) c.args.value.now c.in_ok-elements.elements c.in_err-fields.field-0.0 c.in_ok-elements.ensures.document c.in_err-fields.ensures.exact in
    record { exact = search (rules, here) }

pub enumeration::read_struct_variant-returns : goal.enumeration::read_struct_variant-returns
enumeration::read_struct_variant-returns t c = record {
  exact = taken (value.structure_variant (made c.args.name.now)) (judged c.args.value.now) (struct_content_at c.args.reader.now.origin (slots_for c.args.reader.now (fields_of c.args.fields.now))) _ c.in_ok-fields.ensures.exact ∙ ap Ok (sym c.in_ok-named_struct_variant.ensures.marked);
}

pub enumeration::read_struct_variant-returns-in_err-fields : goal.enumeration::read_struct_variant-returns-in_err-fields
enumeration::read_struct_variant-returns-in_err-fields t c =
    let here = not_taken (value.structure_variant (made c.args.name.now)) (judged c.args.value.now) (struct_content_at c.args.reader.now.origin (slots_for c.args.reader.now (fields_of c.args.fields.now))) c.in_err-fields.field-0.0 c.in_err-fields.ensures.exact in
    record { exact = search (rules, here) }

pub enumeration::read_content_fields-returns-in-Bytes : goal.enumeration::read_content_fields-returns-in-Bytes
enumeration::read_content_fields-returns-in-Bytes t c =
    let slots = slots_for c.args.reader.now (fields_of c.args.fields.now) in
    record { exact = subst (λ o. Reaches (λ v. fields_marked v.items) c.read_fields.result (content_fields o slots c.args.value.now)) (sym c.in-Bytes.is) c.read_fields.ensures.exact }

pub enumeration::read_content_fields-returns-in-Tree : goal.enumeration::read_content_fields-returns-in-Tree
enumeration::read_content_fields-returns-in-Tree t c =
    let slots = slots_for c.args.reader.now (fields_of c.args.fields.now) in
    record { exact = subst (λ o. Reaches (λ v. fields_marked v.items) c.read_tree_fields.result (content_fields o slots c.args.value.now)) (sym c.in-Tree.is) c.read_tree_fields.ensures.exact }

pub enumeration::read_tree_fields-returns : goal.enumeration::read_tree_fields-returns
enumeration::read_tree_fields-returns t c =
    let slots = slots_for c.args.reader.now (fields_of c.args.fields.now) in
    let whole = tree_fields slots c.args.value.now ∙ ap (λ r. r >>= fields_by_key dropped slots) c.in_ok-elements.ensures.exact in
    record { exact = subst (λ (r : Reading MarkedFields). Reaches (λ v. fields_marked v.items) c.read_by_key.result r) (sym whole) c.read_by_key.ensures.exact }

pub enumeration::read_tree_fields-returns-in_err-elements : goal.enumeration::read_tree_fields-returns-in_err-elements
enumeration::read_tree_fields-returns-in_err-elements t c =
    let slots = slots_for c.args.reader.now (fields_of c.args.fields.now) in
    let stop = c.in_err-elements.field-0.0 in
    let here = subst (λ (r : Reading MarkedFields). StopsAs stop r) (sym (tree_fields slots c.args.value.now)) (stops_bind stop (document_elements_of c.args.value.now) (fields_by_key dropped slots) c.in_err-elements.ensures.exact) in
    record { exact = search (rules, here) }

pub value::read_mended-returns-in-Bytes : goal.value::read_mended-returns-in-Bytes
value::read_mended-returns-in-Bytes t c =
    let same = ap (λ n. reads_for c.args.reader.now c.args.inner.now n) (c.mended.ensures.mended ∙ ap (λ o. mended_at o c.args.value.now) (sym c.in-Bytes.is)) in
    record { exact = subst (λ (r : Reading Marked). Reaches marked c.read_for.result r) same c.read_for.ensures.exact }

pub value::read_mended-returns-in-Tree : goal.value::read_mended-returns-in-Tree
value::read_mended-returns-in-Tree t c =
    let same = ap (λ o. reads_for c.args.reader.now c.args.inner.now (mended_at o c.args.value.now)) (sym c.in-Tree.is) in
    record { exact = subst (λ (r : Reading Marked). Reaches marked c.read_for-in-Tree.result r) same c.read_for-in-Tree.ensures.exact }

pub map::read_entries-read_key-requires : goal.map::read_entries-read_key-requires
map::read_entries-read_key-requires t c = c.step.invariant.0.text

pub value::read_option-returns-then-is_null : goal.value::read_option-returns-then-is_null
value::read_option-returns-then-is_null t c = record { exact = option_null c.args.value.now (reads_for c.args.reader.now c.args.inner.now c.args.value.now) (sym c.if-is_null.ensures.null) }

pub structure::read_by_place-loop-place-init : goal.structure::read_by_place-loop-place-init
structure::read_by_place-loop-place-init t c =
    let slots = slots_for c.args.reader.now (fields_of c.args.fields.now) in
    (λ i. result_map (values_before (c.new-values.ensures.items i)) (reads_places 0 slots c.args.elements)) ∙ no_values (reads_places 0 slots c.args.elements)

pub structure::read_by_place-loop-place-preserved : goal.structure::read_by_place-loop-place-preserved
structure::read_by_place-loop-place-preserved t c =
    places_step c.args.reader.now c.args.fields.now c.loop-place.place c.loop-place.values.items c.loop-place.elements _ c.loop-place.invariant c.index-fields-place.result c.loop-place-test.true c.index-fields-place.is c.read_next.new.elements c.in_ok-named_field.field-0 c.push.new.self.items
    c.in_ok-value.ensures.rest (c.in_ok-value.ensures.value ∙ ap (λ d. Ok (marked d)) (sym c.in_ok-named_field.ensures.value)) (c.in_ok-named_field.ensures.name ∙ ap made c.as_str.ensures.value) c.in_ok-push.ensures.items

pub structure::read_by_place-returns-in_err-value : goal.structure::read_by_place-returns-in_err-value
structure::read_by_place-returns-in_err-value t c =
    let stop = c.in_err-value.field-0.0 in
    let here = places_stop c.args.reader.now c.args.fields.now c.loop-place.place c.loop-place.values.items c.loop-place.elements _ c.loop-place.invariant c.index-fields-place.result c.loop-place-test.true c.index-fields-place.is stop c.in_err-value.ensures.value in
    record { exact = search (rules, here) }

pub structure::read_by_place-returns : goal.structure::read_by_place-returns
structure::read_by_place-returns t c = record {
  exact = places_end c.args.reader.now c.args.fields.now c.loop-place.place c.loop-place.values.items c.loop-place.elements _ c.loop-place.invariant (omega (arith, c.loop-place-test.false));
}

pub enumeration::read_enum-returns-in_ok-name-in-String : goal.enumeration::read_enum-returns-in_ok-name-in-String
enumeration::read_enum-returns-in_ok-name-in-String t c =
    let is = c.in_ok-other.ensures.judged ∙ ap (λ v. Ok (value_view v)) c.in-String.is in
    let same = c.as_str.ensures.text ∙ ap (λ (p : Piece). p.bytes) c.in_ok-name-in-String.ensures.piece in
    let whole = text_named c.args.reader.now (variants_of c.args.variants.now) c.args.value.now (met_text c.in-String.name) c.as_str.result.now is same in
    record { exact = subst (λ (r : Reading Marked). Reaches marked c.unit_named.result r) (sym whole) c.unit_named.ensures.exact }

pub enumeration::read_enum-returns-in_ok-elements-in_default : goal.enumeration::read_enum-returns-in_ok-elements-in_default
enumeration::read_enum-returns-in_ok-elements-in_default t c =
    let elements = c.in_ok-elements-in_default in
    let whole = elements_read c.args.reader.now (variants_of c.args.variants.now) c.args.value.now _ c.in_ok-other.ensures.judged c.in_default.not-String elements.elements elements.ensures.document in
    record { exact = subst (λ (r : Reading Marked). Reaches marked c.read_variant.result r) (sym whole) c.read_variant.ensures.exact }

pub enumeration::read_enum-returns-in_err-elements-in_default : goal.enumeration::read_enum-returns-in_err-elements-in_default
enumeration::read_enum-returns-in_err-elements-in_default t c =
    let refused = c.in_err-elements-in_default in
    let here = elements_stop c.args.reader.now (variants_of c.args.variants.now) c.args.value.now _ c.in_ok-other.ensures.judged c.in_default.not-String refused.field-0.0 refused.ensures.document in
    record { exact = search (rules, here) }
