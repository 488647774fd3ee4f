use Rattle.std.proofs.Common.{◌≡◌, suc, ◌+◌, ◌<◌, [], ◌∷◌, length, drop, Err, arith, ap, sym, subst, ◌∙◌, drop-cons}
use Rattle.std.proofs.lemmas.Grind.{common_steps}
use Rattle.std.proofs.lemmas.Result.{err_from_is_err_and}
use Rattle.bson_kinds.specs.Reserved.{reserved_kind}
use Rattle.bson_kinds.specs.declared.element_type.ElementType.TheVariants.{Array, EmbeddedDocument}
use Rattle.bson_values.specs.TextView.{text_view}
use Rattle.bson_values.specs.Value.{map, tuple_variant, structure, structure_variant}
use Rattle.bson_datum.specs.View.{view, items_view, entries_view, fields_view}
use Rattle.bson_datum.proofs.Views.{view-TupleVariant, view-Map, view-Struct, view-StructVariant}
use Rattle.bson_io.specs.Output.{Patched}
use Rattle.bson_ser_stream.specs.ContentsView.{contents_view}
use Rattle.bson_ser_stream.proofs.Halted.{gives_err, field_halts, entry_halts, item_halts}
use Rattle.bson_ser_stream.proofs.Containers.{Parts-items, Parts-entries, Parts-fields, puts_container, halts_container, halts_parts}
use Rattle.bson_ser_stream.proofs.Inside.{under_halts, element_halts}
use Rattle.bson_ser_stream.proofs.Behind.{pair_halts, fields_on, entries_on, items_on}
use Rattle.bson_ser_stream.proofs.Growth.{Grows-trans, Grows-appended}
use Rattle.bson_ser_stream.proofs.Elements.{wrote_element}
use Rattle.bson_ser_stream.proofs.Variants.{one_field, wrote_pair, puts_variant}
use Rattle.bson_ser_stream.proofs.Places.{refused_least, field_places, entry_places, item_places, pair_least}
use Rattle.bson_ser_stream.proofs.Arms.{puts_as, puts_array, puts_struct, puts_reserved}
use Rattle.bson_laws.specs.Unwrap.{scoped_code}
use Rattle.bson_laws.specs.Spell.{spell_scoped, scoped_size, spell_as, spell_items_as, spell_entries_as, spell_fields_as, spell_list, size_as, size_items_as, size_entries_as, size_fields_as, size_list}
use Rattle.bson_base.specs.Tree.{document, array, elements, array_elements}
use Rattle.std.specs.Fmt.{decimal}
use Rattle.bson_ser_stream.specs.Writing.{with_element, with_elements, with_array_elements, pair_places, tree_places, count_of}
use Rattle.bson_writing.specs.Halting.{Halts}
use Rattle.bson_laws.proofs.Listed.{no_scope_spelled}
use Rattle.bson_kinds.specs.declared.element_type.ElementType.TheVariants.{JavaScriptCodeWithScope}
use Rattle.bson_values.specs.Cause.{bad_step}
use Rattle.bson_values.specs.Refusal.{unwritable, at_key, at_index}
use Rattle.bson_ser_stream.proofs.Puts.{Grows-none, puts_refusal}
use Rattle.bson_ser_stream.proofs.Scoped.{halts_begin, halts_code, halts_scope, halts_total, puts_total}
use Rattle.bson_ser_stream.proofs.value.+put.Goals as goal

pub put_document-returns-in_err-end : goal.put_document-returns-in_err-end
put_document-returns-in_err-end g t c =
    let p = err_from_is_err_and c.from_residual-in_err-end.result c.from_residual-in_err-end.ensures.1 in
    halts_container (Parts-fields c.args.readable (fields_view c.args.fields.now)) c.args.out.now c.begin.new.out c.put_fields.new.out c.args.levels c.in_ok-document.document.levels c.in_ok-document.document.start _ _ _ c.in_ok-document.ensures.levels c.in_ok-document.ensures.start c.in_ok-document.ensures.ok c.in_ok-put_fields.ensures.grows c.in_ok-put_fields.ensures.bytes EmbeddedDocument c.end.new.out _ _ c.in_err-end.field-0.0 (p.1 ∙ ap Err p.2) c.in_err-end.ensures.err c.in_err-end.ensures.grows

pub put_document-returns : goal.put_document-returns
put_document-returns g t c =
    puts_container (Parts-fields c.args.readable (fields_view c.args.fields.now)) c.args.out.now c.begin.new.out c.put_fields.new.out c.args.levels c.in_ok-document.document.levels c.in_ok-document.document.start _ _ _ c.in_ok-document.ensures.levels c.in_ok-document.ensures.start c.in_ok-document.ensures.ok c.in_ok-put_fields.ensures.grows c.in_ok-put_fields.ensures.bytes EmbeddedDocument c.end.new.out _ c.in_ok-end.ensures.ok c.in_ok-put_fields.ensures.least

pub put_variant-returns-in_err-end : goal.put_variant-returns-in_err-end
put_variant-returns-in_err-end g t c =
    let p = err_from_is_err_and c.from_residual-in_err-end.result c.from_residual-in_err-end.ensures.1 in
    puts_variant c.args.readable (text_view c.args.name.now) (contents_view c.args.contents) c.args.levels _ _ _ _ _ (halts_container (Parts-fields c.args.readable (one_field (text_view c.args.name.now) (contents_view c.args.contents))) c.args.out.now c.begin.new.out c.put_named.new.out c.args.levels c.in_ok-document.document.levels c.in_ok-document.document.start _ _ _ c.in_ok-document.ensures.levels c.in_ok-document.ensures.start c.in_ok-document.ensures.ok c.in_ok-put_named.ensures.grows (wrote_pair c.args.readable (text_view c.args.name.now) (contents_view c.args.contents) c.in_ok-document.document.levels c.begin.new.out.bytes c.put_named.new.out.bytes c.in_ok-put_named.ensures.bytes) EmbeddedDocument c.end.new.out _ _ c.in_err-end.field-0.0 (p.1 ∙ ap Err p.2) c.in_err-end.ensures.err c.in_err-end.ensures.grows)

pub put_variant-returns : goal.put_variant-returns
put_variant-returns g t c =
    puts_variant c.args.readable (text_view c.args.name.now) (contents_view c.args.contents) c.args.levels _ _ _ _ _ (puts_container (Parts-fields c.args.readable (one_field (text_view c.args.name.now) (contents_view c.args.contents))) c.args.out.now c.begin.new.out c.put_named.new.out c.args.levels c.in_ok-document.document.levels c.in_ok-document.document.start _ _ _ c.in_ok-document.ensures.levels c.in_ok-document.ensures.start c.in_ok-document.ensures.ok c.in_ok-put_named.ensures.grows (wrote_pair c.args.readable (text_view c.args.name.now) (contents_view c.args.contents) c.in_ok-document.document.levels c.begin.new.out.bytes c.put_named.new.out.bytes c.in_ok-put_named.ensures.bytes) EmbeddedDocument c.end.new.out _ c.in_ok-end.ensures.ok
    (pair_least c.args.readable (text_view c.args.name.now) (contents_view c.args.contents) c.in_ok-document.document.levels _ _ c.in_ok-put_named.ensures.least))

pub put_map-returns-in_err-end : goal.put_map-returns-in_err-end
put_map-returns-in_err-end g t c =
    let p = err_from_is_err_and c.from_residual-in_err-end.result c.from_residual-in_err-end.ensures.1 in
    halts_container (Parts-entries c.args.readable (entries_view c.args.entries.now)) c.args.out.now c.begin.new.out c.put_entries.new.out c.args.levels c.in_ok-document.document.levels c.in_ok-document.document.start _ _ _ c.in_ok-document.ensures.levels c.in_ok-document.ensures.start c.in_ok-document.ensures.ok c.in_ok-put_entries.ensures.grows c.in_ok-put_entries.ensures.bytes EmbeddedDocument c.end.new.out _ _ c.in_err-end.field-0.0 (p.1 ∙ ap Err p.2) c.in_err-end.ensures.err c.in_err-end.ensures.grows

pub put_map-returns : goal.put_map-returns
put_map-returns g t c =
    puts_container (Parts-entries c.args.readable (entries_view c.args.entries.now)) c.args.out.now c.begin.new.out c.put_entries.new.out c.args.levels c.in_ok-document.document.levels c.in_ok-document.document.start _ _ _ c.in_ok-document.ensures.levels c.in_ok-document.ensures.start c.in_ok-document.ensures.ok c.in_ok-put_entries.ensures.grows c.in_ok-put_entries.ensures.bytes EmbeddedDocument c.end.new.out _ c.in_ok-end.ensures.ok c.in_ok-put_entries.ensures.least

pub put_array-returns-in_err-end : goal.put_array-returns-in_err-end
put_array-returns-in_err-end g t c =
    let p = err_from_is_err_and c.from_residual-in_err-end.result c.from_residual-in_err-end.ensures.1 in
    halts_container (Parts-items c.args.readable (items_view c.args.items.now)) c.args.out.now c.begin.new.out c.put_items.new.out c.args.levels c.in_ok-array.array.levels c.in_ok-array.array.start _ _ _ c.in_ok-array.ensures.levels c.in_ok-array.ensures.start c.in_ok-array.ensures.ok c.in_ok-put_items.ensures.grows c.in_ok-put_items.ensures.bytes Array c.end.new.out _ _ c.in_err-end.field-0.0 (p.1 ∙ ap Err p.2) c.in_err-end.ensures.err c.in_err-end.ensures.grows

pub put_array-returns : goal.put_array-returns
put_array-returns g t c =
    puts_container (Parts-items c.args.readable (items_view c.args.items.now)) c.args.out.now c.begin.new.out c.put_items.new.out c.args.levels c.in_ok-array.array.levels c.in_ok-array.array.start _ _ _ c.in_ok-array.ensures.levels c.in_ok-array.ensures.start c.in_ok-array.ensures.ok c.in_ok-put_items.ensures.grows c.in_ok-put_items.ensures.bytes Array c.end.new.out _ c.in_ok-end.ensures.ok c.in_ok-put_items.ensures.least

pub put_fields-returns-in_err-put_named : goal.put_fields-returns-in_err-put_named
put_fields-returns-in_err-put_named g t c =
    let p = err_from_is_err_and c.from_residual.result c.from_residual.ensures.1 in
    let xs = c.args.fields.now in
    let i = c.loop-field.field-index in
    let x = c.field-item.result in
    let lt : i < length xs = omega (arith, c.loop-field-test.true) in
    let is : fields_view (drop i xs) ≡ fields_view (x ∷ drop (suc i) xs) = ap fields_view (drop-cons xs i x lt ∙ ap (λ y. y ∷ drop (suc i) xs) (sym c.field-item.is)) in
    let kept = c.loop-field.invariant in
    record {
      bytes = gives_err _ _ _ _ c.in_err-put_named.field-0.0 _ (p.1 ∙ ap Err p.2)
          (field_halts c.args.readable c.in_err-put_named.field-0.0 (text_view x.name) (view x.value) (fields_view (drop (suc i) xs)) (fields_view (drop i xs)) (fields_view xs) c.args.levels _ _ c.args.out.now c.loop-field.out is kept.bytes kept.size kept.grows c.in_err-put_named.ensures.bytes);
      grows = Grows-trans _ _ _ _ _ _ kept.grows c.in_err-put_named.ensures.grows;
      least = refused_least _ _ c.in_err-put_named.field-0.0 (p.1 ∙ ap Err p.2);
    }

pub put_entries-returns-in_err-put_entry : goal.put_entries-returns-in_err-put_entry
put_entries-returns-in_err-put_entry g t c =
    let p = err_from_is_err_and c.from_residual.result c.from_residual.ensures.1 in
    let xs = c.args.entries.now in
    let i = c.loop-entry.entry-index in
    let x = c.entry-item.result in
    let lt : i < length xs = omega (arith, c.loop-entry-test.true) in
    let is : entries_view (drop i xs) ≡ entries_view (x ∷ drop (suc i) xs) = ap entries_view (drop-cons xs i x lt ∙ ap (λ y. y ∷ drop (suc i) xs) (sym c.entry-item.is)) in
    let kept = c.loop-entry.invariant in
    record {
      bytes = gives_err _ _ _ _ c.in_err-put_entry.field-0.0 _ (p.1 ∙ ap Err p.2)
          (entry_halts c.args.readable c.in_err-put_entry.field-0.0 (view x.key) (view x.value) (entries_view (drop (suc i) xs)) (entries_view (drop i xs)) (entries_view xs) c.args.levels _ _ c.args.out.now c.loop-entry.out is kept.bytes kept.size kept.grows c.in_err-put_entry.ensures.bytes);
      grows = Grows-trans _ _ _ _ _ _ kept.grows c.in_err-put_entry.ensures.grows;
      least = refused_least _ _ c.in_err-put_entry.field-0.0 (p.1 ∙ ap Err p.2);
    }

pub put_items-returns-in_err-put_item : goal.put_items-returns-in_err-put_item
put_items-returns-in_err-put_item g t c =
    let p = err_from_is_err_and c.from_residual.result c.from_residual.ensures.1 in
    let xs = c.args.items.now in
    let i = c.loop-index.index in
    let x = c.index-items-index.result in
    let lt : i < length xs = omega (arith, c.loop-index-test.true) in
    let is : items_view (drop i xs) ≡ items_view (x ∷ drop (suc i) xs) = ap items_view (drop-cons xs i x lt ∙ ap (λ y. y ∷ drop (suc i) xs) (sym c.index-items-index.is)) in
    let kept = c.loop-index.invariant in
    record {
      bytes = gives_err _ _ _ _ c.in_err-put_item.field-0.0 _ (p.1 ∙ ap Err p.2)
          (item_halts c.args.readable c.in_err-put_item.field-0.0 i (view x) (items_view (drop (suc i) xs)) (items_view (drop i xs)) (items_view xs) c.args.levels _ _ c.args.out.now c.loop-index.out is kept.bytes kept.size kept.grows c.in_err-put_item.ensures.bytes);
      grows = Grows-trans _ _ _ _ _ _ kept.grows c.in_err-put_item.ensures.grows;
      least = refused_least _ _ c.in_err-put_item.field-0.0 (p.1 ∙ ap Err p.2);
    }

pub put_element-returns : goal.put_element-returns
put_element-returns g t c =
    record {
      bytes = wrote_element c.args.out.now c.begin_element.new.out c.put_contents.new.out c.patch_byte.new.self c.args.key.now c.len-start.result _ _ _ _ c.in_ok-kind.kind c.len-start.ensures c.in_ok-begin_element.ensures.ok
          (subst (λ b. Patched c.put_contents.new.out c.patch_byte.new.self c.len-start.result (b ∷ []) c.put_contents.new.steps c.patch_byte.new.steps) c.byte.ensures.byte c.patch_byte.ensures) c.args.readable (contents_view c.args.contents) c.args.levels c.in_ok-kind.ensures.kind c.in_ok-kind.ensures.bytes;
      grows = grind (arith, common_steps);
      least = grind (arith, common_steps);
    }

pub put_value-returns-in-Seq : goal.put_value-returns-in-Seq
put_value-returns-in-Seq g t c = puts_array c.args.readable c.args.levels _ _ _ _ _ c.args.value.now c.in-Seq.items c.deref-in-Seq.result.now c.in-Seq.is c.deref-in-Seq.ensures.value c.put_array.ensures

pub put_value-returns-in-TupleVariant : goal.put_value-returns-in-TupleVariant
put_value-returns-in-TupleVariant g t c =
    let it = c.in-TupleVariant in
    puts_as c.args.readable c.args.levels _ _ _ _ _ c.args.value.now _ (λ xs. tuple_variant (text_view it.variant) (items_view xs)) _ _ it.is c.deref-in-TupleVariant.ensures.value (view-TupleVariant it.variant it.items) c.put_variant-in-TupleVariant.ensures

pub put_value-returns-in-StructVariant : goal.put_value-returns-in-StructVariant
put_value-returns-in-StructVariant g t c =
    let it = c.in-StructVariant in
    puts_as c.args.readable c.args.levels _ _ _ _ _ c.args.value.now _ (λ xs. structure_variant (text_view it.variant) (fields_view xs)) _ _ it.is c.deref-in-StructVariant.ensures.value (view-StructVariant it.variant it.fields) c.put_variant-in-StructVariant.ensures

pub put_value-returns-in-Map : goal.put_value-returns-in-Map
put_value-returns-in-Map g t c = puts_as c.args.readable c.args.levels _ _ _ _ _ c.args.value.now _ (λ xs. map (entries_view xs)) _ _ c.in-Map.is c.deref-in-Map.ensures.value (view-Map c.in-Map.entries) c.put_map.ensures

pub put_value-returns-in-Struct : goal.put_value-returns-in-Struct
put_value-returns-in-Struct g t c =
    let it = c.in-Struct in
    puts_as c.args.readable c.args.levels _ _ _ _ _ c.args.value.now _ (λ xs. structure (text_view it.name) (fields_view xs)) _ _ it.is c.deref-in-Struct.ensures.value (view-Struct it.name it.fields) c.put_struct.ensures

pub put_struct-returns-in-None : goal.put_struct-returns-in-None
put_struct-returns-in-None g t c =
    let free = ap reserved_kind (sym c.as_str.ensures.text) ∙ sym c.in-None.ensures.kind in
    puts_struct c.args.readable c.args.levels _ _ _ _ _ (text_view c.args.name.now) (fields_view c.args.fields.now) free c.put_document.ensures

pub put_struct-returns-in-Some : goal.put_struct-returns-in-Some
put_struct-returns-in-Some g t c =
    let is = ap reserved_kind (sym c.as_str.ensures.text) ∙ sym c.in-Some.ensures.kind in
    puts_reserved c.args.readable c.args.levels _ _ _ _ _ (text_view c.args.name.now) (fields_view c.args.fields.now) c.in-Some.kind is c.put_reserved.ensures

pub put_scoped-returns-in_default : goal.put_scoped-returns-in_default
put_scoped-returns-in_default g t c =
    let fs = fields_view c.args.fields.now in
    puts_refusal JavaScriptCodeWithScope (scoped_size (scoped_code (size_list c.args.readable fs []))) (spell_scoped (scoped_code (spell_list c.args.readable fs c.args.levels []))) c.args.out.now c.args.out.now c.args.steps.now c.args.steps.now (Grows-none c.args.out.now c.args.steps.now) (unwritable bad_step) c.caused.result (ap spell_scoped (no_scope_spelled c.args.readable fs c.args.levels (sym c.in_default.ensures.value))) c.caused.ensures.here

pub put_scoped-returns-in_err-total : goal.put_scoped-returns-in_err-total
put_scoped-returns-in_err-total g t c =
    let p = err_from_is_err_and c.from_residual.result c.from_residual.ensures.1 in
    let it = c.in-Some in
    halts_begin c.args.readable (fields_view c.args.fields.now) c.args.levels it.code.now (view it.scope.now) (sym it.ensures.value) it.ensures.scope c.args.out.now c.begin.new.out c.args.steps.now c.begin.new.steps _ c.in_err-total.field-0.0 _ (p.1 ∙ ap Err p.2) c.in_err-total.ensures.grows c.in_err-total.ensures.start

pub put_scoped-returns-in_err-put_text : goal.put_scoped-returns-in_err-put_text
put_scoped-returns-in_err-put_text g t c =
    let p = err_from_is_err_and c.from_residual-in_err-put_text.result c.from_residual-in_err-put_text.ensures.1 in
    let it = c.in-Some in
    halts_code c.args.readable (fields_view c.args.fields.now) c.args.levels it.code.now (view it.scope.now) (sym it.ensures.value) it.ensures.scope c.args.out.now c.begin.new.out c.args.steps.now c.begin.new.steps c.in_ok-total.ensures.ok c.put_text.new.out c.put_text.new.steps _ c.in_err-put_text.field-0.0 (p.1 ∙ ap Err p.2) c.in_err-put_text.ensures.grows c.in_err-put_text.ensures.bytes

pub put_scoped-returns-in_err-put_scope : goal.put_scoped-returns-in_err-put_scope
put_scoped-returns-in_err-put_scope g t c =
    let p = err_from_is_err_and c.from_residual-in_err-put_scope.result c.from_residual-in_err-put_scope.ensures.1 in
    let it = c.in-Some in
    halts_scope c.args.readable (fields_view c.args.fields.now) c.args.levels it.code.now (view it.scope.now) (sym it.ensures.value) it.ensures.scope c.args.out.now c.begin.new.out c.args.steps.now c.begin.new.steps c.in_ok-total.ensures.ok c.put_text.new.out c.in_ok-total.total.start c.put_text.new.steps c.in_ok-total.ensures.start c.in_ok-put_text.ensures.bytes c.in_ok-put_text.ensures.grows c.put_scope.new.out c.put_scope.new.steps _ c.in_err-put_scope.field-0.0 (p.1 ∙ ap Err p.2) c.in_err-put_scope.ensures.grows c.in_err-put_scope.ensures.bytes

pub put_scoped-returns-in_err-end : goal.put_scoped-returns-in_err-end
put_scoped-returns-in_err-end g t c =
    let p = err_from_is_err_and c.from_residual-in_err-end.result c.from_residual-in_err-end.ensures.1 in
    let it = c.in-Some in
    halts_total c.args.readable (fields_view c.args.fields.now) c.args.levels it.code.now (view it.scope.now) (sym it.ensures.value) it.ensures.scope c.args.out.now c.begin.new.out c.args.steps.now c.begin.new.steps c.in_ok-total.ensures.ok c.put_text.new.out c.in_ok-total.total.start c.put_text.new.steps c.in_ok-total.ensures.start c.in_ok-put_text.ensures.bytes c.in_ok-put_text.ensures.grows c.put_scope.new.out c.put_scope.new.steps c.in_ok-put_scope.ensures.grows c.in_ok-put_scope.ensures.bytes c.end.new.out c.end.new.steps _ c.in_err-end.field-0.0 (p.1 ∙ ap Err p.2) c.in_err-end.ensures.grows c.in_err-end.ensures.err

pub put_scoped-returns : goal.put_scoped-returns
put_scoped-returns g t c =
    let it = c.in-Some in
    puts_total c.args.readable (fields_view c.args.fields.now) c.args.levels it.code.now (view it.scope.now) (sym it.ensures.value) it.ensures.scope c.args.out.now c.begin.new.out c.args.steps.now c.begin.new.steps c.in_ok-total.ensures.ok c.put_text.new.out c.in_ok-total.total.start c.put_text.new.steps c.in_ok-total.ensures.start c.in_ok-put_text.ensures.bytes c.in_ok-put_text.ensures.grows c.put_scope.new.out c.put_scope.new.steps c.in_ok-put_scope.ensures.grows c.in_ok-put_scope.ensures.bytes c.end.new.out c.end.new.steps c.in_ok-end.ensures.ok c.in_ok-put_scope.ensures.least

pub put_document-returns-in_err-put_fields : goal.put_document-returns-in_err-put_fields
put_document-returns-in_err-put_fields g t c =
    let p = err_from_is_err_and c.from_residual-in_err-put_fields.result c.from_residual-in_err-put_fields.ensures.1 in
    let vs = fields_view c.args.fields.now in
    halts_parts document elements (spell_fields_as c.args.readable vs) (size_fields_as c.args.readable vs) c.args.out.now c.begin.new.out c.put_fields.new.out c.args.levels c.in_ok-document.document.levels c.args.steps.now c.begin.new.steps c.put_fields.new.steps c.in_ok-document.ensures.levels c.in_ok-document.ensures.ok
    EmbeddedDocument _ c.in_err-put_fields.field-0.0 (p.1 ∙ ap Err p.2) c.in_err-put_fields.ensures.grows c.in_err-put_fields.ensures.bytes

pub put_map-returns-in_err-put_entries : goal.put_map-returns-in_err-put_entries
put_map-returns-in_err-put_entries g t c =
    let p = err_from_is_err_and c.from_residual-in_err-put_entries.result c.from_residual-in_err-put_entries.ensures.1 in
    let vs = entries_view c.args.entries.now in
    halts_parts document elements (spell_entries_as c.args.readable vs) (size_entries_as c.args.readable vs) c.args.out.now c.begin.new.out c.put_entries.new.out c.args.levels c.in_ok-document.document.levels c.args.steps.now c.begin.new.steps c.put_entries.new.steps c.in_ok-document.ensures.levels c.in_ok-document.ensures.ok
    EmbeddedDocument _ c.in_err-put_entries.field-0.0 (p.1 ∙ ap Err p.2) c.in_err-put_entries.ensures.grows c.in_err-put_entries.ensures.bytes

pub put_array-returns-in_err-put_items : goal.put_array-returns-in_err-put_items
put_array-returns-in_err-put_items g t c =
    let p = err_from_is_err_and c.from_residual-in_err-put_items.result c.from_residual-in_err-put_items.ensures.1 in
    let vs = items_view c.args.items.now in
    halts_parts array (array_elements 0) (spell_items_as c.args.readable 0 vs) (size_items_as c.args.readable 0 vs) c.args.out.now c.begin.new.out c.put_items.new.out c.args.levels c.in_ok-array.array.levels c.args.steps.now c.begin.new.steps c.put_items.new.steps c.in_ok-array.ensures.levels c.in_ok-array.ensures.ok
    Array _ c.in_err-put_items.field-0.0 (p.1 ∙ ap Err p.2) c.in_err-put_items.ensures.grows c.in_err-put_items.ensures.bytes

pub put_variant-returns-in_err-put_named : goal.put_variant-returns-in_err-put_named
put_variant-returns-in_err-put_named g t c =
    let p = err_from_is_err_and c.from_residual-in_err-put_named.result c.from_residual-in_err-put_named.ensures.1 in
    let name = text_view c.args.name.now in
    let v = contents_view c.args.contents in
    puts_variant c.args.readable name v c.args.levels _ _ _ _ _
    (halts_parts document elements (spell_fields_as c.args.readable (one_field name v)) (size_fields_as c.args.readable (one_field name v)) c.args.out.now c.begin.new.out c.put_named.new.out c.args.levels c.in_ok-document.document.levels c.args.steps.now c.begin.new.steps c.put_named.new.steps c.in_ok-document.ensures.levels c.in_ok-document.ensures.ok
    EmbeddedDocument _ c.in_err-put_named.field-0.0 (p.1 ∙ ap Err p.2) c.in_err-put_named.ensures.grows
    (pair_halts c.args.readable c.in_err-put_named.field-0.0 name v c.in_ok-document.document.levels c.begin.new.steps c.begin.new.out c.in_err-put_named.ensures.bytes))

pub put_element-returns-in_err-kind : goal.put_element-returns-in_err-kind
put_element-returns-in_err-kind g t c =
    let p = err_from_is_err_and c.from_residual-in_err-kind.result c.from_residual-in_err-kind.ensures.1 in
    let r = spell_as c.args.readable (contents_view c.args.contents) c.args.levels in
    record {
      bytes = gives_err _ _ _ _ c.in_err-kind.field-0.0 _ (p.1 ∙ ap Err p.2)
          (element_halts (size_as c.args.readable (contents_view c.args.contents)) c.args.key.now r c.in_err-kind.field-0.0 c.args.out.now c.begin_element.new.out c.args.steps.now c.begin_element.new.steps c.in_ok-begin_element.ensures.ok c.in_err-kind.ensures.bytes);
      grows = Grows-trans c.args.out.now c.begin_element.new.out c.put_contents.new.out c.args.steps.now c.begin_element.new.steps c.put_contents.new.steps (Grows-appended c.args.out.now c.begin_element.new.out _ c.args.steps.now c.begin_element.new.steps c.in_ok-begin_element.ensures.ok) c.in_err-kind.ensures.grows;
      least = refused_least _ _ c.in_err-kind.field-0.0 (p.1 ∙ ap Err p.2);
    }

pub put_under_key-returns-in-Err : goal.put_under_key-returns-in-Err
put_under_key-returns-in-Err g t c =
    let r = spell_as c.args.readable (contents_view c.args.contents) c.args.levels in
    record {
      bytes = under_halts (length c.args.key.now + 2 + size_as c.args.readable (contents_view c.args.contents)) c.args.out.now.spare (at_key c.args.key.now) c.args.out.now.bytes c.args.key.now r c.in-Err.halt c.under_key.result c.under_key.ensures.under c.in-Err.ensures.bytes;
      grows = c.in-Err.ensures.grows;
      least = tt;
    }

pub put_item-returns-in-Err : goal.put_item-returns-in-Err
put_item-returns-in-Err g t c =
    let i = c.args.index in
    let n = size_as c.args.readable (view c.args.item.now) in
    let r = spell_as c.args.readable (view c.args.item.now) c.args.levels in
    record {
      bytes = under_halts (length (decimal i) + 2 + n) c.args.out.now.spare (at_index i) c.args.out.now.bytes (decimal i) r c.in-Err.halt c.under_index.result c.under_index.ensures.under
          (subst (λ key. Halts (length key + 2 + n) c.args.out.now.spare (with_element c.args.out.now.bytes key r) c.in-Err.halt) c.format.ensures.text c.in-Err.ensures.bytes);
      grows = c.in-Err.ensures.grows;
      least = tt;
    }

pub put_fields-loop-field-preserved : goal.put_fields-loop-field-preserved
put_fields-loop-field-preserved g t c =
    let xs = c.args.fields.now in
    let i = c.loop-field.field-index in
    let x = c.field-item.result in
    let lt : i < length xs = omega (arith, c.loop-field-test.true) in
    let next : suc i ≡ i + 1 = omega arith in
    let is : fields_view (drop i xs) ≡ fields_view (x ∷ drop (i + 1) xs) = ap fields_view (drop-cons xs i x lt ∙ ap (λ y. y ∷ drop (suc i) xs) (sym c.field-item.is) ∙ ap (λ k. x ∷ drop k xs) next) in
    let kept = c.loop-field.invariant in
    record {
      bytes = fields_on c.args.readable (text_view x.name) (view x.value) (fields_view (drop (i + 1) xs)) c.args.levels c.loop-field.out.bytes c.put_named.new.out.bytes c.in_ok-put_named.ensures.bytes
          ∙ ap (λ l. with_elements c.loop-field.out.bytes (spell_fields_as c.args.readable l c.args.levels)) (sym is) ∙ kept.bytes;
      size = omega (arith, kept.size, ap (size_fields_as c.args.readable) is);
      grows = Grows-trans _ _ _ _ _ _ kept.grows c.in_ok-put_named.ensures.grows;
      least = omega (arith, kept.least, c.in_ok-put_named.ensures.least, ap (λ l. count_of pair_places (spell_fields_as c.args.readable l c.args.levels)) is, field_places c.args.readable (text_view x.name) (view x.value) (fields_view (drop (i + 1) xs)) c.args.levels);
    }

pub put_entries-loop-entry-preserved : goal.put_entries-loop-entry-preserved
put_entries-loop-entry-preserved g t c =
    let xs = c.args.entries.now in
    let i = c.loop-entry.entry-index in
    let x = c.entry-item.result in
    let lt : i < length xs = omega (arith, c.loop-entry-test.true) in
    let next : suc i ≡ i + 1 = omega arith in
    let is : entries_view (drop i xs) ≡ entries_view (x ∷ drop (i + 1) xs) = ap entries_view (drop-cons xs i x lt ∙ ap (λ y. y ∷ drop (suc i) xs) (sym c.entry-item.is) ∙ ap (λ k. x ∷ drop k xs) next) in
    let kept = c.loop-entry.invariant in
    record {
      bytes = entries_on c.args.readable (view x.key) (view x.value) (entries_view (drop (i + 1) xs)) c.args.levels c.loop-entry.out.bytes c.put_entry.new.out.bytes c.in_ok-put_entry.ensures.bytes
          ∙ ap (λ l. with_elements c.loop-entry.out.bytes (spell_entries_as c.args.readable l c.args.levels)) (sym is) ∙ kept.bytes;
      size = omega (arith, kept.size, ap (size_entries_as c.args.readable) is);
      grows = Grows-trans _ _ _ _ _ _ kept.grows c.in_ok-put_entry.ensures.grows;
      least = omega (arith, kept.least, c.in_ok-put_entry.ensures.least, ap (λ l. count_of pair_places (spell_entries_as c.args.readable l c.args.levels)) is, entry_places c.args.readable (view x.key) (view x.value) (entries_view (drop (i + 1) xs)) c.args.levels);
    }

pub put_items-loop-index-preserved : goal.put_items-loop-index-preserved
put_items-loop-index-preserved g t c =
    let xs = c.args.items.now in
    let i = c.loop-index.index in
    let x = c.index-items-index.result in
    let lt : i < length xs = omega (arith, c.loop-index-test.true) in
    let next : suc i ≡ i + 1 = omega arith in
    let is : items_view (drop i xs) ≡ items_view (x ∷ drop (i + 1) xs) = ap items_view (drop-cons xs i x lt ∙ ap (λ y. y ∷ drop (suc i) xs) (sym c.index-items-index.is) ∙ ap (λ k. x ∷ drop k xs) next) in
    let kept = c.loop-index.invariant in
    record {
      bytes = ap (λ k. with_array_elements c.put_item.new.out.bytes k (spell_items_as c.args.readable k (items_view (drop (i + 1) xs)) c.args.levels)) (sym next)
          ∙ items_on c.args.readable i (view x) (items_view (drop (i + 1) xs)) c.args.levels c.loop-index.out.bytes c.put_item.new.out.bytes c.in_ok-put_item.ensures.bytes
          ∙ ap (λ l. with_array_elements c.loop-index.out.bytes i (spell_items_as c.args.readable i l c.args.levels)) (sym is) ∙ kept.bytes;
      size = omega (arith, kept.size, ap (size_items_as c.args.readable i) is, ap (λ k. size_items_as c.args.readable k (items_view (drop (i + 1) xs))) next);
      grows = Grows-trans _ _ _ _ _ _ kept.grows c.in_ok-put_item.ensures.grows;
      least = omega (arith, kept.least, c.in_ok-put_item.ensures.least, ap (λ l. count_of tree_places (spell_items_as c.args.readable i l c.args.levels)) is, item_places c.args.readable i (view x) (items_view (drop (i + 1) xs)) c.args.levels, ap (λ k. count_of tree_places (spell_items_as c.args.readable k (items_view (drop (i + 1) xs)) c.args.levels)) next);
    }
