use Rattle.std.proofs.Common.{◌≡◌, rules, suc, Ok, refl, ap, sym, subst, ◌∙◌, ◌+◌, ◌*◌, ◌-◌, ◌<◌, arith}
use Rattle.bson_kinds.specs.Outcome.{◌>>=◌, result_map}
use Rattle.bson_kinds.specs.declared.element_type.ElementType.TheVariants.{EmbeddedDocument, Array}
use Rattle.bson_rawdoc.specs.DocumentView.{array_bytes, document_bytes}
use Rattle.bson_rawdoc.specs.Next as walks
use Rattle.bson_rawdoc.specs.Node.{node_in, inner_node, value_node, nodes_with, opened}
use Rattle.bson_kinds.specs.Piece.{borrowed}
use Rattle.bson_rawdoc.specs.Walk.{Element, walk, then_walk}
use Rattle.bson_rawdoc.specs.ValueView.{raw_value}
use Rattle.bson_values.specs.Cause.{raw}
use Rattle.bson_values.specs.Marked.{Marked}
use Rattle.bson_datum.specs.MarkedView.{marked}
use Rattle.bson_values.specs.Refusal.{at_key, at_index, under, under_index}
use Rattle.bson_values.specs.Stop.{IsUnderKey}
use Rattle.bson_values.specs.Value as value
use Rattle.bson_values.specs.Value.{no_entries}
use Rattle.bson_shape.specs.ShapeView.{form_view}
use Rattle.bson_laws.specs.Judged.{Reading}
use Rattle.bson_laws.specs.ReadsLeaf.{read_any, any_items, any_entries}
use Rattle.bson_laws.proofs.Tame.{judged_is}
use Rattle.bson_met.specs.ContainerView.{array_items, document_elements}
use Rattle.bson_met.specs.Gives.{Reaches}
use Rattle.bson_met.specs.MetView.{document_at}
use Rattle.bson_met.specs.OpenedView.{extended_view}
use Rattle.bson_met.specs.PieceView.{str_piece}
use Rattle.bson_met.specs.Sizes.{count, size, sizes, scope_size}
use Rattle.bson_met.specs.ValueView.{value_view}
use Rattle.bson_met.proofs.Judging.{seen, judged_good, judged_bad}
use Rattle.bson_met.proofs.Refusals.{StopsAs, stops_inside, refused_stops}
use Rattle.bson_leaves.specs.Any.{any_at, any_within, any_items_at, any_entries_at}
use Rattle.bson_leaves.specs.KeyValues.{key_value}
use Rattle.bson_texts.specs.ListsMarked.{items_marked, entries_marked}
use Rattle.bson_leaves.proofs.AnyRead.{array_within, document_within, any_array_is, any_document_is, any_inner_document_is, any_opened_is, any_items_are, as_str, any_entries_are, next_is, walk_first, document_smaller}
use Rattle.bson_texts.proofs.Each.{each, step_is, item_is, each_step, each_next, each_stop}
use Rattle.bson_texts.proofs.Loops.{items_by, items_each, items_push, item_done, item_stops, entries_by, entries_each, entry_done, entry_stops}
use Rattle.bson_texts.proofs.Mapped.{reaches_map}
use Rattle.bson_texts.proofs.MarkedLists.{marked-Seq, marked-Map}
use Rattle.bson_leaves.proofs.any.+any.Goals as goal

pub any_items-step-init : goal.any_items-step-init
any_items-step-init t c =
    let ns = c.args.elements in (
      omega (arith, c.start-item.ensures.few),
      omega arith,
      (λ i. each (items_by any_at) 0 ns (items_marked (c.new-items.ensures.items i))) ∙ items_each any_at ns ∙ sym (any_items_are 0 ns),
    )

pub any_items-step-preserved : goal.any_items-step-preserved
any_items-step-preserved t c =
    let v = c.advance.new.value in
    let i = c.step.index in
    let old = items_marked c.step.items.items in
    let first = item_is _ _ c.in_ok-advance.field-0 v c.in_ok-advance.ensures.advanced c.if-branch.true in (
      omega (arith, c.step.invariant.0, ap count first.first),
      omega (arith, c.step.invariant.1, ap sizes first.first),
      ap (each (items_by any_at) (i + 1) c.advance.new.self) (ap items_marked c.in_ok-push-in-Ok.ensures.items ∙ items_push c.step.items.items c.in-Ok.value)
          ∙ each_step (items_by any_at) i c.step.elements old _ c.step.invariant.2 first.key v c.advance.new.self _ first.first (item_done any_at i first.key v old (marked c.in-Ok.value) (ap (under_index i) c.in-Ok.ensures.exact)),
    )

pub any_items-returns-in-Err : goal.any_items-returns-in-Err
any_items-returns-in-Err t c =
    let v = c.advance.new.value in
    let i = c.step.index in
    let old = items_marked c.step.items.items in
    let first = item_is _ _ c.in_ok-advance.field-0 v c.in_ok-advance.ensures.advanced c.if-branch.true in
    record {
      exact = each_stop (items_by any_at) i c.step.elements old _ c.step.invariant.2 first.key v c.advance.new.self c.under_index.result first.first
          (item_stops any_at i first.key v old c.under_index.result (stops_inside (at_index i) c.in-Err.stop c.under_index.result (any_at v) c.under_index.ensures.under c.in-Err.ensures.exact));
    }

pub any_entries-step-init : goal.any_entries-step-init
any_entries-step-init t c =
    let ns = c.args.elements in (
      omega arith,
      c.new-entries.ensures.indexed,
      ap form_view c.new-entries.ensures.key,
      (λ i. each (entries_by as_str any_at) 0 ns (entries_marked (c.new-entries.ensures.none i))) ∙ entries_each as_str any_at 0 ns no_entries ∙ sym (any_entries_are ns no_entries),
    )

pub any_entries-put-requires : goal.any_entries-put-requires
any_entries-put-requires t c = record {
  indexed = c.step.invariant.1;
  key = ap (λ s. key_value s c.advance.new.step.key.text.now) c.step.invariant.2 ∙ ap (λ p. Ok (value.str p.bytes)) (sym c.in_ok-name.ensures.piece);
}

pub any_entries-step-preserved : goal.any_entries-step-preserved
any_entries-step-preserved t c =
    let s = c.advance.new.step in
    let old = entries_marked c.step.entries.entries.items in
    let v = marked c.in-Ok.value in
    let put = c.in_ok-put-in-Ok.ensures in
    let first = step_is _ _ c.in_ok-advance.field-0 s c.in_ok-advance.ensures.advanced c.if-branch.true in (
      omega (arith, c.step.invariant.0, ap sizes first),
      put.indexed,
      ap form_view put.key ∙ c.step.invariant.2,
      ap (each (entries_by as_str any_at) 0 c.advance.new.self) put.entries
          ∙ each_next (entries_by as_str any_at) 0 c.step.elements old _ c.step.invariant.3 (λ j k n x. refl) (str_piece s.key) s.value c.advance.new.self _ first
          (entry_done as_str any_at 0 (str_piece s.key) s.value old _ v (ap (λ p. Ok (value.str p)) (sym c.in_ok-name.ensures.piece)) (ap (under (str_piece s.key).bytes) c.in-Ok.ensures.exact)),
    )

pub any_entries-returns-in-Err : goal.any_entries-returns-in-Err
any_entries-returns-in-Err t c =
    let s = c.advance.new.step in
    let old = entries_marked c.step.entries.entries.items in
    let first = step_is _ _ c.in_ok-advance.field-0 s c.in_ok-advance.ensures.advanced c.if-branch.true in
    record {
      exact = each_stop (entries_by as_str any_at) 0 c.step.elements old _ c.step.invariant.3 (str_piece s.key) s.value c.advance.new.self c.under_key.result first
          (entry_stops as_str any_at 0 (str_piece s.key) s.value old (value.str (str_piece s.key)) c.under_key.result refl
          (stops_inside (at_key (str_piece s.key).bytes) c.in-Err.stop c.under_key.result (any_at s.value) c.under_key.ensures.under c.in-Err.ensures.exact));
    }

pub any_array-step-init : goal.any_array-step-init
any_array-step-init t c =
    let bytes = array_bytes c.args.array in
    let some : 0 < c.args.levels = omega (arith, c.if-levels-eq0.false) in
    let see = node_in (c.args.levels - 1) in
    let elements = c.iter_elements-elements.ensures.walk ∙ ap walk c.as_doc.ensures.bytes in
    let within = array_within c.args.levels bytes some in
    let ns = nodes_with see (walk bytes) in (
      some,
      omega (arith, c.iter_elements-elements.ensures.few),
      omega (arith, ap size within, ap (λ w. sizes (nodes_with see w)) elements),
      (λ i. each (items_by any_at) 0 (nodes_with see (elements i)) (items_marked (c.new-items.ensures.items i))) ∙ items_each any_at ns ∙ sym (any_items_are 0 ns) ∙ ap any_items_at (sym within),
    )

pub any_array-step-preserved : goal.any_array-step-preserved
any_array-step-preserved t c =
    let e = c.in-Some.element in
    let see = node_in (c.args.levels - 1) in
    let n = see e.kind e.value in
    let i = c.step.index in
    let old = items_marked c.step.items.items in
    let walked : c.step.elements ≡ then_walk e c.next_element.new.elements = next_is _ _ c.in_ok-element.field-0 e c.in_ok-element.ensures.next c.in-Some.is in
    let first = walk_first see c.step.elements c.next_element.new.elements e walked in (
      c.step.invariant.0,
      omega (arith, c.step.invariant.1, ap walks.count walked),
      omega (arith, c.step.invariant.2, ap sizes first),
      ap (each (items_by any_at) (i + 1) (nodes_with see c.next_element.new.elements)) (ap items_marked c.in_ok-push-in-Ok.ensures.items ∙ items_push c.step.items.items c.in-Ok.value)
          ∙ each_step (items_by any_at) i (nodes_with see c.step.elements) old _ c.step.invariant.3 (borrowed e.key) n (nodes_with see c.next_element.new.elements) _ first
          (item_done any_at i (borrowed e.key) n old (marked c.in-Ok.value) (ap (under_index i) c.in-Ok.ensures.exact)),
    )

pub any_array-returns-in-Err : goal.any_array-returns-in-Err
any_array-returns-in-Err t c =
    let e = c.in-Some.element in
    let see = node_in (c.args.levels - 1) in
    let n = see e.kind e.value in
    let i = c.step.index in
    let old = items_marked c.step.items.items in
    let walked : c.step.elements ≡ then_walk e c.next_element.new.elements = next_is _ _ c.in_ok-element.field-0 e c.in_ok-element.ensures.next c.in-Some.is in
    let first = walk_first see c.step.elements c.next_element.new.elements e walked in
    record {
      exact = each_stop (items_by any_at) i (nodes_with see c.step.elements) old _ c.step.invariant.3 (borrowed e.key) n (nodes_with see c.next_element.new.elements) c.under_index.result first
          (item_stops any_at i (borrowed e.key) n old c.under_index.result (stops_inside (at_index i) c.in-Err.stop c.under_index.result (any_at n) c.under_index.ensures.under c.in-Err.ensures.exact));
    }

pub any_document-step-init : goal.any_document-step-init
any_document-step-init t c =
    let bytes = document_bytes c.args.document in
    let some : 0 < c.args.levels = omega (arith, c.if-levels-eq0.false) in
    let see = node_in (c.args.levels - 1) in
    let elements = c.iter_elements-elements.ensures.walk in
    let within = document_within c.args.levels bytes some in
    let ns = nodes_with see (walk bytes) in (
      some,
      omega (arith, ap size within, ap (λ w. sizes (nodes_with see w)) elements),
      c.new-entries.ensures.indexed,
      ap form_view c.new-entries.ensures.key,
      (λ i. each (entries_by as_str any_at) 0 (nodes_with see (elements i)) (entries_marked (c.new-entries.ensures.none i))) ∙ entries_each as_str any_at 0 ns no_entries ∙ sym (any_entries_are ns no_entries)
          ∙ ap any_entries_at (sym within),
    )

pub any_document-put-requires : goal.any_document-put-requires
any_document-put-requires t c = record { indexed = c.step.invariant.2; key = ap (λ s. key_value s c.key-key.result.now) c.step.invariant.3 }

pub any_document-step-preserved : goal.any_document-step-preserved
any_document-step-preserved t c =
    let e = c.in-Some.element in
    let see = node_in (c.args.levels - 1) in
    let n = see e.kind e.value in
    let key = borrowed e.key in
    let old = entries_marked c.step.entries.entries.items in
    let v = marked c.in-Ok.value in
    let put = c.in_ok-put-in-Ok.ensures in
    let walked : c.step.elements ≡ then_walk e c.next_element.new.elements = next_is _ _ c.in_ok-element.field-0 e c.in_ok-element.ensures.next c.in-Some.is in
    let first = walk_first see c.step.elements c.next_element.new.elements e walked in
    let named : as_str key ≡ Ok (value.str (borrowed c.key-key.result.now)) = ap (λ k. Ok (value.str (borrowed k))) (sym c.key-key.ensures.key) in (
      c.step.invariant.0,
      omega (arith, c.step.invariant.1, ap sizes first),
      put.indexed,
      ap form_view put.key ∙ c.step.invariant.3,
      ap (each (entries_by as_str any_at) 0 (nodes_with see c.next_element.new.elements)) put.entries
          ∙ each_next (entries_by as_str any_at) 0 (nodes_with see c.step.elements) old _ c.step.invariant.4 (λ j k m x. refl) key n (nodes_with see c.next_element.new.elements) _ first
          (entry_done as_str any_at 0 key n old _ v named (ap (under e.key) c.in-Ok.ensures.exact)),
    )

pub any_document-returns-in-Err : goal.any_document-returns-in-Err
any_document-returns-in-Err t c =
    let e = c.in-Some.element in
    let see = node_in (c.args.levels - 1) in
    let n = see e.kind e.value in
    let key = borrowed e.key in
    let old = entries_marked c.step.entries.entries.items in
    let walked : c.step.elements ≡ then_walk e c.next_element.new.elements = next_is _ _ c.in_ok-element.field-0 e c.in_ok-element.ensures.next c.in-Some.is in
    let first = walk_first see c.step.elements c.next_element.new.elements e walked in
    let out = subst (λ k. IsUnderKey k c.in-Err.stop c.under_key.result) c.key-key.ensures.key c.under_key.ensures.under in
    record {
      exact = each_stop (entries_by as_str any_at) 0 (nodes_with see c.step.elements) old _ c.step.invariant.4 key n (nodes_with see c.next_element.new.elements) c.under_key.result first
          (entry_stops as_str any_at 0 key n old (value.str key) c.under_key.result refl (stops_inside (at_key e.key) c.in-Err.stop c.under_key.result (any_at n) out c.in-Err.ensures.exact));
    }

pub any_element-returns-in-Ok : goal.any_element-returns-in-Ok
any_element-returns-in-Ok t c =
    let e = c.args.element.now in
    let good = judged_good c.args.levels e.kind e.value (raw_value c.in-Ok.value) c.in-Ok.ensures.value in
    record { exact = subst (λ (r : Reading Marked). Reaches marked c.any_value.result r) (sym (ap (λ r. r >>= read_any) good)) c.any_value.ensures.exact }

pub any_element-returns-in-Err : goal.any_element-returns-in-Err
any_element-returns-in-Err t c =
    let e = c.args.element.now in
    let bad = judged_bad c.args.levels e.kind e.value c.in-Err.fault c.in-Err.ensures.value in
    record { exact = subst (λ (r : Reading Marked). StopsAs c.refused.result r) (sym (ap (λ r. r >>= read_any) bad)) (refused_stops Marked (raw c.in-Err.fault) c.refused.result c.refused.ensures.here) }

pub any_elsewhere-any_items-requires : goal.any_elsewhere-any_items-requires
any_elsewhere-any_items-requires t c =
    let n = c.args.value.now in
    let same : size n ≡ suc (sizes (array_items c.in-Array.array)) = ap size (judged_is n _ c.in_ok-boolean.ensures.judged ∙ ap value_view c.in-Array.is) in
    let less : 5 * sizes c.of_array.result < 5 * size n + 3 = omega (arith, same, ap sizes c.of_array.ensures.elements) in
    (search rules, tt)

pub any_elsewhere-any_entries-requires : goal.any_elsewhere-any_entries-requires
any_elsewhere-any_entries-requires t c =
    let n = c.args.value.now in
    let same : size n ≡ suc (sizes (document_elements c.in-Document.document)) = ap size (judged_is n _ c.in_ok-boolean.ensures.judged ∙ ap value_view c.in-Document.is) in
    let less : 5 * sizes c.of_document.result < 5 * size n + 3 = omega (arith, same, ap sizes c.of_document.ensures.elements) in
    (search rules, tt)

pub any_elsewhere-any_entries-requires-in-Extended : goal.any_elsewhere-any_entries-requires-in-Extended
any_elsewhere-any_entries-requires-in-Extended t c =
    let n = c.args.value.now in
    let x = extended_view c.in-Extended.value in
    let same : size n ≡ suc (scope_size x + sizes (opened x)) = ap size (judged_is n _ c.in_ok-boolean.ensures.judged ∙ ap value_view c.in-Extended.is) in
    let less : 5 * sizes c.of_extended.result < 5 * size n + 3 = omega (arith, same, ap sizes c.of_extended.ensures.opened) in
    (search rules, tt)

pub any_elsewhere-returns-in_ok-any_items-in-Array : goal.any_elsewhere-returns-in_ok-any_items-in-Array
any_elsewhere-returns-in_ok-any_items-in-Array t c = record {
  exact = ap (λ r. r >>= read_any) (c.in_ok-boolean.ensures.judged ∙ ap (λ v. Ok (value_view v)) c.in-Array.is)
      ∙ ap (result_map value.sequence) (ap (any_items 0) (sym c.of_array.ensures.elements) ∙ c.in_ok-any_items-in-Array.ensures.exact) ∙ ap Ok (sym (marked-Seq c.in_ok-any_items-in-Array.field-0));
}

pub any_elsewhere-returns-in_ok-any_entries-in-Document : goal.any_elsewhere-returns-in_ok-any_entries-in-Document
any_elsewhere-returns-in_ok-any_entries-in-Document t c = record {
  exact = ap (λ r. r >>= read_any) (c.in_ok-boolean.ensures.judged ∙ ap (λ v. Ok (value_view v)) c.in-Document.is)
      ∙ ap (result_map value.map) (ap (λ ns. any_entries ns no_entries) (sym c.of_document.ensures.elements) ∙ c.in_ok-any_entries-in-Document.ensures.exact) ∙ ap Ok (sym (marked-Map c.in_ok-any_entries-in-Document.field-0));
}

pub any_elsewhere-returns-in_ok-any_entries-in-Extended : goal.any_elsewhere-returns-in_ok-any_entries-in-Extended
any_elsewhere-returns-in_ok-any_entries-in-Extended t c = record {
  exact = ap (λ r. r >>= read_any) (c.in_ok-boolean.ensures.judged ∙ ap (λ v. Ok (value_view v)) c.in-Extended.is)
      ∙ ap (result_map value.map) (ap (λ ns. any_entries ns no_entries) (sym c.of_extended.ensures.opened) ∙ c.in_ok-any_entries-in-Extended.ensures.exact) ∙ ap Ok (sym (marked-Map c.in_ok-any_entries-in-Extended.field-0));
}

pub any_opened-any_entries-requires : goal.any_opened-any_entries-requires
any_opened-any_entries-requires t c =
    let n = node_in c.args.levels c.args.element.kind c.args.element.value in
    let ns = c.in_ok-elements.elements in
    let smaller = document_smaller n ns (ap document_at (sym c.of_element.ensures.node) ∙ c.in_ok-elements.ensures.document) in
    let less : 5 * sizes ns < 5 * size n = omega (arith, smaller) in
    (search rules, tt)

pub any_value-any_array-requires : goal.any_value-any_array-requires
any_value-any_array-requires t c =
    let e = c.args.element.now in
    let n = node_in c.args.levels e.kind e.value in
    let a = inner_node c.args.levels Array (array_bytes c.in-Array.array) in
    let same : size n ≡ size a = ap size (seen c.args.levels e.kind e.value (raw_value c.args.value) c.requires.value ∙ ap (λ v. value_node (inner_node c.args.levels) (raw_value v)) c.in-Array.is) in
    let less : 5 * size a < 5 * size n + 2 = omega (arith, same) in
    (search rules, tt)

pub any_value-any_document-requires : goal.any_value-any_document-requires
any_value-any_document-requires t c =
    let e = c.args.element.now in
    let n = node_in c.args.levels e.kind e.value in
    let d = inner_node c.args.levels EmbeddedDocument (document_bytes c.in-Document.document) in
    let same : size n ≡ size d = ap size (seen c.args.levels e.kind e.value (raw_value c.args.value) c.requires.value ∙ ap (λ v. value_node (inner_node c.args.levels) (raw_value v)) c.in-Document.is) in
    let less : 5 * size d < 5 * size n + 2 = omega (arith, same) in
    (search rules, tt)

pub any_value-returns-in_ok-any_array-in-Array : goal.any_value-returns-in_ok-any_array-in-Array
any_value-returns-in_ok-any_array-in-Array t c = record {
  exact = ap (λ v. any_within c.args.levels (raw_value v)) c.in-Array.is ∙ any_array_is c.args.levels (array_bytes c.in-Array.array) ∙ ap (result_map value.sequence) c.in_ok-any_array-in-Array.ensures.exact
      ∙ ap Ok (sym (marked-Seq c.in_ok-any_array-in-Array.field-0));
}

pub any_value-returns-in_ok-any_document-in-Document : goal.any_value-returns-in_ok-any_document-in-Document
any_value-returns-in_ok-any_document-in-Document t c = record {
  exact = ap (λ v. any_within c.args.levels (raw_value v)) c.in-Document.is ∙ any_document_is c.args.levels (document_bytes c.in-Document.document) ∙ ap (result_map value.map) c.in_ok-any_document-in-Document.ensures.exact
      ∙ ap Ok (sym (marked-Map c.in_ok-any_document-in-Document.field-0));
}

pub read_any-returns-in-Some-raw_document : goal.read_any-returns-in-Some-raw_document
read_any-returns-in-Some-raw_document t c = record {
  exact = ap any_at c.in-Some-raw_document.ensures.document ∙ any_inner_document_is c.in-Some-raw_document.levels (document_bytes c.in-Some-raw_document.document) ∙ ap (result_map value.map) c.in_ok-any_document.ensures.exact
      ∙ ap Ok (sym (marked-Map c.in_ok-any_document.field-0));
}

pub any_other-returns : goal.any_other-returns
any_other-returns t c =
    let e = c.args.element.now in
    let levels = c.args.levels in
    let v = raw_value c.args.value in
    let is = any_opened_is levels e.kind e.value v c.requires.value c.requires.opened ∙ ap (λ (x : Element). result_map value.map (any_entries_at (node_in levels x.kind x.value))) (sym c.clone.ensures.same) in
    record {
      exact = subst (λ (r : Reading Marked). Reaches (λ v. value.map (entries_marked v.items)) c.any_opened.result r) (sym is)
          (reaches_map (λ v. entries_marked v.items) value.map c.any_opened.result (any_entries_at (node_in levels c.clone.result.kind c.clone.result.value)) c.any_opened.ensures.exact);
    }

pub any_value-returns-in_ok-any_other-in_default : goal.any_value-returns-in_ok-any_other-in_default
any_value-returns-in_ok-any_other-in_default t c = record { exact = c.in_ok-any_other-in_default.ensures.exact ∙ ap Ok (sym (marked-Map c.in_ok-any_other-in_default.field-0)) }
