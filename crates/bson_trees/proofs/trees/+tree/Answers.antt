use Rattle.std.proofs.Common.{◌≡◌, true, rules, suc, Ok, refl, ap, sym, subst, ◌∙◌, ◌+◌, ◌*◌, ◌<◌, arith}
use Rattle.bson_kinds.specs.Outcome.{◌>>=◌, result_map}
use Rattle.std.specs.Prelude.{string_bytes}
use Rattle.bson_base.specs.Tree as tree
use Rattle.bson_base.specs.Tree.{Tree, no_pairs}
use Rattle.bson_kinds.proofs.Outcomes.{map_ok}
use Rattle.bson_rawdoc.specs.Node as node
use Rattle.bson_rawdoc.specs.Node.{opened}
use Rattle.bson_kinds.specs.Piece.{made}
use Rattle.bson_shape.specs.ShapeView.{form_view}
use Rattle.bson_values.specs.Marked.{Marked}
use Rattle.bson_datum.specs.MarkedView.{marked}
use Rattle.bson_values.specs.Refusal.{at_index, under_index}
use Rattle.bson_values.specs.Value as value
use Rattle.bson_laws.specs.Datum.{datum, pair_data}
use Rattle.bson_laws.specs.Judged.{Reading, scope_key}
use Rattle.bson_laws.specs.ReadsLeaf.{put_entry}
use Rattle.bson_laws.specs.Trees as laws
use Rattle.bson_laws.specs.Trees.{as_tree, read_tree, array_trees, pairs_in}
use Rattle.bson_laws.specs.Wrapped.{meaning}
use Rattle.bson_laws.proofs.Tame.{judged_is}
use Rattle.bson_met.specs.ContainerView.{array_items, document_elements}
use Rattle.bson_met.specs.Gives.{Reaches}
use Rattle.bson_met.specs.OpenedView.{extended_view}
use Rattle.bson_met.specs.PieceView.{str_piece, met_text}
use Rattle.bson_met.specs.Sizes.{count, size, sizes, scope_size}
use Rattle.bson_met.specs.ValueView.{value_view}
use Rattle.bson_met.proofs.Refusals.{StopsAs, stops_inside}
use Rattle.bson_texts.specs.ListsMarked.{items_marked, entries_marked}
use Rattle.bson_texts.proofs.Each.{each, step_is, item_is, each_step, each_stop}
use Rattle.bson_texts.proofs.Loops.{items_by, items_each, items_push, item_done, item_stops}
use Rattle.bson_texts.proofs.MarkedLists.{marked-Seq, marked-Map}
use Rattle.bson_wrapped.specs.Bodies.{is_body}
use Rattle.bson_wrapped.specs.Data.{scoped_datum}
use Rattle.bson_wrapped.proofs.Made.{stops_through}
use Rattle.bson_trees.specs.Trees.{tree_at, elements_from, wrapped_at, code_from, extended_at}
use Rattle.bson_trees.proofs.TreeData.{trees_are, array_made, array_stops, pair_read, pair_stops, wrapped_read, body_wrapped, scope_then, scope_stops, scoped_read, scoped_stops, code_scoped, extended_scoped, list_ends}
use Rattle.bson_trees.proofs.ReadKinds.{read_not_raw}
use Rattle.bson_trees.proofs.trees.+tree.Goals as goal

pub read_items-step-init : goal.read_items-step-init
read_items-step-init t c =
    let ns = c.args.elements in (
      omega (arith, c.start-item.ensures.few),
      omega arith,
      (λ i. each (items_by tree_at) 0 ns (items_marked (c.new-items.ensures.items i))) ∙ items_each tree_at ns ∙ sym (trees_are 0 ns),
    )

pub read_items-step-preserved : goal.read_items-step-preserved
read_items-step-preserved t c =
    let v = c.advance.new.value in
    let i = c.step.index in
    let old = items_marked c.step.items.items in
    let first = item_is _ _ c.in_ok-advance.field-0 v c.in_ok-advance.ensures.advanced c.if-branch.true in (
      omega (arith, c.step.invariant.0, ap count first.first),
      omega (arith, c.step.invariant.1, ap sizes first.first),
      ap (each (items_by tree_at) (i + 1) c.advance.new.self) (ap items_marked c.in_ok-push-in-Ok.ensures.items ∙ items_push c.step.items.items c.in-Ok.value)
          ∙ each_step (items_by tree_at) i c.step.elements old _ c.step.invariant.2 first.key v c.advance.new.self _ first.first (item_done tree_at i first.key v old (marked c.in-Ok.value) (ap (under_index i) c.in-Ok.ensures.exact)),
    )

pub read_items-returns-in-Err : goal.read_items-returns-in-Err
read_items-returns-in-Err t c =
    let v = c.advance.new.value in
    let i = c.step.index in
    let old = items_marked c.step.items.items in
    let first = item_is _ _ c.in_ok-advance.field-0 v c.in_ok-advance.ensures.advanced c.if-branch.true in
    record {
      exact = each_stop (items_by tree_at) i c.step.elements old _ c.step.invariant.2 first.key v c.advance.new.self c.under_index.result first.first
          (item_stops tree_at i first.key v old c.under_index.result (stops_inside (at_index i) c.in-Err.stop c.under_index.result (tree_at v) c.under_index.ensures.under c.in-Err.ensures.exact));
    }

pub read_elements-step-init : goal.read_elements-step-init
read_elements-step-init t c = (
  omega arith,
  c.new-entries.ensures.indexed,
  ap form_view c.new-entries.ensures.key,
  (no_pairs, ap entries_marked c.new-entries.ensures.none, refl),
)

pub read_elements-step-preserved : goal.read_elements-step-preserved
read_elements-step-preserved t c =
    let s = c.advance.new.step in
    let key = str_piece s.key in
    let new = c.advance.new.self in
    let ps = c.step.invariant.3.0 in
    let v = marked c.in_ok-value.value in
    let first = step_is _ _ c.in_ok-advance.field-0 s c.in_ok-advance.ensures.advanced c.if-branch.true in
    let next = pair_read key s.value new ps c.in_default.ensures.wrapper v c.in_ok-value.ensures.exact in
    let put = c.in_ok-put.ensures in (
      omega (arith, c.step.invariant.0, ap sizes first),
      put.indexed,
      ap form_view put.key ∙ c.step.invariant.2,
      (next.0, put.entries ∙ (λ i. put_entry (value.str (made (c.in_ok-key.ensures.ok i))) v (c.step.invariant.3.1 i)) ∙ next.2, ap (result_map (datum made)) (sym next.1) ∙ ap (λ ns. elements_from ns ps) (sym first) ∙ c.step.invariant.3.2),
    )

pub read_elements-returns-in-Some : goal.read_elements-returns-in-Some
read_elements-returns-in-Some t c =
    let s = c.advance.new.step in
    let key = str_piece s.key in
    let new = c.advance.new.self in
    let ps = c.step.invariant.3.0 in
    let first = step_is _ _ c.in_ok-advance.field-0 s c.in_ok-advance.ensures.advanced c.if-branch.true in
    record {
      exact = subst (λ (r : Reading Marked). Reaches marked c.read_wrapped.result r)
          (wrapped_read key s.value new ps c.in-Some.wrapper c.in-Some.ensures.wrapper ∙ ap (λ ns. elements_from ns ps) (sym first) ∙ c.step.invariant.3.2) c.read_wrapped.ensures.exact;
    }

pub read_elements-returns-in_err-value : goal.read_elements-returns-in_err-value
read_elements-returns-in_err-value t c =
    let s = c.advance.new.step in
    let key = str_piece s.key in
    let new = c.advance.new.self in
    let ps = c.step.invariant.3.0 in
    let stop = c.in_err-value.field-0.0 in
    let first = step_is _ _ c.in_ok-advance.field-0 s c.in_ok-advance.ensures.advanced c.if-branch.true in
    let here = subst (λ (r : Reading Marked). StopsAs stop r) (ap (λ ns. elements_from ns ps) (sym first) ∙ c.step.invariant.3.2) (pair_stops key s.value new ps c.in_default.ensures.wrapper stop c.in_err-value.ensures.exact) in
    record { exact = search (rules, here) }

pub read_elements-returns : goal.read_elements-returns
read_elements-returns t c =
    let ps = c.step.invariant.3.0 in
    let over = list_ends _ _ c.in_ok-advance.field-0 c.advance.new.step c.in_ok-advance.ensures.advanced c.if-branch.false in
    record {
      exact = sym c.step.invariant.3.2 ∙ ap (λ ns. elements_from ns ps) over ∙ ap (λ es. Ok (value.map es)) (sym c.step.invariant.3.1 ∙ ap entries_marked (sym c.finish.ensures)) ∙ ap Ok (sym (marked-Map c.finish.result));
    }

pub after_code-returns-in_err-scope : goal.after_code-returns-in_err-scope
after_code-returns-in_err-scope t c =
    let s = c.advance.new.step in
    let key = str_piece s.key in
    let text = string_bytes c.args.code in
    let stop = c.in_err-scope.field-0.0 in
    let more : c.in_ok-advance.field-0 ≡ true = search rules in
    let first = step_is _ _ c.in_ok-advance.field-0 s c.in_ok-advance.ensures.advanced more in
    let whole = ap (code_from text) first ∙ code_scoped text key s.value c.advance.new.self (sym c.eq.ensures ∙ c.if-eq.true) in
    let here = subst (λ (r : Reading Marked). StopsAs stop r) (sym whole) (scoped_stops text key.bytes s.value stop c.in_err-scope.ensures.exact) in
    record { exact = search (rules, here) }

pub after_code-returns-then-eq : goal.after_code-returns-then-eq
after_code-returns-then-eq t c =
    let s = c.advance.new.step in
    let key = str_piece s.key in
    let text = string_bytes c.args.code in
    let more : c.in_ok-advance.field-0 ≡ true = search rules in
    let first = step_is _ _ c.in_ok-advance.field-0 s c.in_ok-advance.ensures.advanced more in
    record {
      exact = ap (code_from text) first ∙ code_scoped text key s.value c.advance.new.self (sym c.eq.ensures ∙ c.if-eq.true) ∙ scoped_read text key.bytes s.value (entries_marked c.in_ok-scope.scope.items) c.in_ok-scope.ensures.exact
          ∙ ap Ok (sym c.in_ok-scoped_code.ensures.datum);
    }

pub read_extended_value-returns-in_err-scope : goal.read_extended_value-returns-in_err-scope
read_extended_value-returns-in_err-scope t c =
    let p = met_text c.in-JavaScriptCodeWithScope.code in
    let n = c.of_scope.result in
    let stop = c.in_err-scope.field-0.0 in
    let whole = ap (λ x. extended_at (extended_view x)) c.in-JavaScriptCodeWithScope.is ∙ ap (λ m. extended_at (node.javascript_code_with_scope p m)) (sym c.of_scope.ensures.node) ∙ extended_scoped p n in
    let here = subst (λ (r : Reading Marked). StopsAs stop r) (sym whole) (scoped_stops p.bytes scope_key n stop c.in_err-scope.ensures.exact) in
    record { exact = search (rules, here) }

pub read_extended_value-returns : goal.read_extended_value-returns
read_extended_value-returns t c =
    let p = met_text c.in-JavaScriptCodeWithScope.code in
    let n = c.of_scope.result in
    let es = entries_marked c.in_ok-scope.scope.items in
    record {
      exact = ap (λ x. extended_at (extended_view x)) c.in-JavaScriptCodeWithScope.is ∙ ap (λ m. extended_at (node.javascript_code_with_scope p m)) (sym c.of_scope.ensures.node) ∙ extended_scoped p n
          ∙ scoped_read p.bytes scope_key n es c.in_ok-scope.ensures.exact ∙ ap (λ b. Ok (scoped_datum b es)) (sym c.in_ok-code.ensures.text) ∙ ap Ok (sym c.in_ok-scoped_code.ensures.datum);
    }

pub read_entries-returns : goal.read_entries-returns
read_entries-returns t c =
    let n = c.args.value.now in
    let m = map_ok (datum made) (read_tree n) _ c.in_ok-value.ensures.exact in
    record {
      exact = subst (λ (r : Reading Tree). Reaches (λ v. entries_marked v.items) c.entries_of.result (result_map (pair_data made) (r >>= pairs_in))) (sym m.1) (c.entries_of.ensures.exact m.0 (read_not_raw n m.0 m.1) m.2);
    }

pub read_entries-returns-in_err-value : goal.read_entries-returns-in_err-value
read_entries-returns-in_err-value t c =
    let stop = c.in_err-value.field-0.0 in
    let here = stops_through stop (datum made) (read_tree c.args.value.now) pairs_in (pair_data made) c.in_err-value.ensures.exact in
    record { exact = search (rules, here) }

pub read_tree-read_items-requires : goal.read_tree-read_items-requires
read_tree-read_items-requires t c =
    let n = c.args.value.now in
    let same : size n ≡ suc (sizes (array_items c.in-Array.array)) = ap size (judged_is n _ c.in_ok-boolean.ensures.judged ∙ ap value_view c.in-Array.is) in
    let less : 8 * sizes c.of_array.result < 8 * size n + 1 = omega (arith, same, ap sizes c.of_array.ensures.elements) in
    (search rules, tt)

pub read_tree-read_elements-requires : goal.read_tree-read_elements-requires
read_tree-read_elements-requires t c =
    let n = c.args.value.now in
    let same : size n ≡ suc (sizes (document_elements c.in-Document.document)) = ap size (judged_is n _ c.in_ok-boolean.ensures.judged ∙ ap value_view c.in-Document.is) in
    let less : 8 * sizes c.of_document.result < 8 * size n + 1 = omega (arith, same, ap sizes c.of_document.ensures.elements) in
    (search rules, tt)

pub read_tree-read_extended_value-requires : goal.read_tree-read_extended_value-requires
read_tree-read_extended_value-requires t c =
    let n = c.args.value.now in
    let x = extended_view c.in-Extended.value in
    let same : size n ≡ suc (scope_size x + sizes (opened x)) = ap size (judged_is n _ c.in_ok-boolean.ensures.judged ∙ ap value_view c.in-Extended.is) in
    let less : 8 * scope_size x + 5 < 8 * size n + 1 = omega (arith, same) in
    (search rules, tt)

pub read_tree-returns-in_ok-read_items-in-Array : goal.read_tree-returns-in_ok-read_items-in-Array
read_tree-returns-in_ok-read_items-in-Array t c = record {
  exact = ap (λ r. result_map (datum made) (r >>= as_tree)) (c.in_ok-boolean.ensures.judged ∙ ap (λ v. Ok (value_view v)) c.in-Array.is)
      ∙ ap (λ ns. result_map (datum made) (result_map tree.array (array_trees 0 ns))) (sym c.of_array.ensures.elements)
      ∙ array_made (array_trees 0 c.of_array.result) _ c.in_ok-read_items-in-Array.ensures.exact ∙ ap Ok (sym (marked-Seq c.in_ok-read_items-in-Array.field-0));
}

pub read_tree-returns-in_err-read_items-in-Array : goal.read_tree-returns-in_err-read_items-in-Array
read_tree-returns-in_err-read_items-in-Array t c =
    let stop = c.in_err-read_items-in-Array.field-0.0 in
    let whole =
    ap (λ r. result_map (datum made) (r >>= as_tree)) (c.in_ok-boolean.ensures.judged ∙ ap (λ v. Ok (value_view v)) c.in-Array.is)
    ∙ ap (λ ns. result_map (datum made) (result_map tree.array (array_trees 0 ns))) (sym c.of_array.ensures.elements) in
    let here = subst (λ (r : Reading Marked). StopsAs stop r) (sym whole) (array_stops stop (array_trees 0 c.of_array.result) c.in_err-read_items-in-Array.ensures.exact) in
    record { exact = search (rules, here) }

pub read_wrapped-returns-in_err-scope-in-Scope : goal.read_wrapped-returns-in_err-scope-in-Scope
read_wrapped-returns-in_err-scope-in-Scope t c =
    let s = c.args.step.now in
    let key = (str_piece s.key).bytes in
    let ns = c.args.rest in
    let stop = c.in_err-scope-in-Scope.field-0.0 in
    let here = subst (λ w. StopsAs stop (wrapped_at w key s.value ns)) (sym c.in-Scope.is) (scope_stops key s.value stop (λ ps. laws.after_scope ps ns) (datum made) c.in_err-scope-in-Scope.ensures.exact) in
    record { exact = search (rules, here) }

pub read_wrapped-returns-in_ok-scope-in-Scope : goal.read_wrapped-returns-in_ok-scope-in-Scope
read_wrapped-returns-in_ok-scope-in-Scope t c =
    let s = c.args.step.now in
    let key = (str_piece s.key).bytes in
    let ns = c.args.rest in
    let m = scope_then key s.value ns (entries_marked c.in_ok-scope-in-Scope.scope.items) c.in_ok-scope-in-Scope.ensures.exact in
    record {
      exact = subst (λ w. Reaches marked c.after_scope.result (wrapped_at w key s.value ns)) (sym c.in-Scope.is) (subst (λ (r : Reading Marked). Reaches marked c.after_scope.result r) m.2 (c.after_scope.ensures.exact m.0 m.1));
    }

pub read_wrapped-returns-in_default : goal.read_wrapped-returns-in_default
read_wrapped-returns-in_default t c =
    let s = c.args.step.now in
    let key = (str_piece s.key).bytes in
    let w = c.args.wrapper in
    let there : is_body (meaning w) ≡ true = search rules in
    record {
      exact = subst (λ (r : Reading Marked). Reaches marked c.read_body.result r)
          (body_wrapped w (meaning w) key s.value (read_tree s.value) (λ x. laws.after_code x c.args.rest) (λ ps. laws.after_scope ps c.args.rest) there) c.read_body.ensures.exact;
    }
