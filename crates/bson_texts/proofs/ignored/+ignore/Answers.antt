use Rattle.std.proofs.Common.{rules, refl, ◌≡◌, suc, ◌+◌, ◌*◌, ◌<◌, ap, sym, subst, ◌∙◌, arith}
use Rattle.bson_values.specs.Refusal.{at_key, under}
use Rattle.bson_rawdoc.specs.Node.{opened}
use Rattle.bson_laws.specs.Judged.{Reading, at_its_key, at_its_index, scope_key, pass_scope}
use Rattle.bson_laws.proofs.Tame.{judged_is}
use Rattle.bson_met.specs.ContainerView.{array_items, document_elements}
use Rattle.bson_met.specs.OpenedView.{extended_view, scope_node}
use Rattle.bson_met.specs.PieceView.{str_piece}
use Rattle.bson_met.specs.Sizes.{size, sizes, scope_size}
use Rattle.bson_met.specs.ValueView.{value_view}
use Rattle.bson_met.proofs.Refusals.{StopsAs, stops_inside}
use Rattle.bson_texts.specs.Passes.{pass_at}
use Rattle.bson_texts.proofs.Each.{step_is, each_next}
use Rattle.bson_texts.proofs.Loops.{ignored_at, pass_by, pass_each}
use Rattle.bson_texts.proofs.ignored.+ignore.Goals as goal

pub ignore_other-ignore_elements-requires : goal.ignore_other-ignore_elements-requires
ignore_other-ignore_elements-requires t c =
    let n = c.args.value.now in
    let same : size n ≡ suc (sizes (document_elements c.in-Document.document)) = ap size (judged_is n _ c.in_ok-document.ensures.judged ∙ ap value_view c.in-Document.is) in
    let less : 3 * sizes c.of_document.result < 3 * size n = omega (arith, same, ap sizes c.of_document.ensures.elements) in
    (search rules, tt)

pub ignore_other-ignore_items-requires : goal.ignore_other-ignore_items-requires
ignore_other-ignore_items-requires t c =
    let n = c.args.value.now in
    let same : size n ≡ suc (sizes (array_items c.in-Array.array)) = ap size (judged_is n _ c.in_ok-document.ensures.judged ∙ ap value_view c.in-Array.is) in
    let less : 3 * sizes c.of_array.result < 3 * size n = omega (arith, same, ap sizes c.of_array.ensures.elements) in
    (search rules, tt)

pub ignore_other-ignore_scope-requires : goal.ignore_other-ignore_scope-requires
ignore_other-ignore_scope-requires t c =
    let n = c.args.value.now in
    let x = extended_view c.in-Extended.value in
    let same : size n ≡ suc (scope_size x + sizes (opened x)) = ap size (judged_is n _ c.in_ok-document.ensures.judged ∙ ap value_view c.in-Extended.is) in
    let less : 3 * scope_size x + 2 < 3 * size n = omega (arith, same) in
    (search rules, tt)

pub ignore_elements-step-init : goal.ignore_elements-step-init
ignore_elements-step-init t c = (omega arith, pass_each at_its_key 0 c.args.elements)

pub ignore_elements-step-preserved : goal.ignore_elements-step-preserved
ignore_elements-step-preserved t c =
    let s = c.advance.new.step in
    let first = step_is _ _ c.in_ok-advance.field-0 s c.in_ok-advance.ensures.advanced c.if-branch.true in (
      omega (arith, c.step.invariant.0, ap sizes first),
      each_next (pass_by at_its_key) 0 c.step.elements tt _ c.step.invariant.1 (λ j k n x. refl) (str_piece s.key) s.value c.advance.new.self tt first (ap (under (str_piece s.key).bytes) c.in_default.ensures.exact),
    )

pub ignore_items-step-init : goal.ignore_items-step-init
ignore_items-step-init t c = (omega (arith, c.start-value.ensures.few), omega arith, pass_each at_its_index 0 c.args.items)

pub ignore_scope-returns-in-Ok : goal.ignore_scope-returns-in-Ok
ignore_scope-returns-in-Ok t c =
    let n = scope_node c.in-JavaScriptCodeWithScope.scope in
    let done = sym (ignored_at n) ∙ ap pass_at (sym c.of_scope.ensures.node) ∙ c.in-Ok.ensures.exact in
    record { exact = ap (λ v. pass_scope (extended_view v)) c.in-JavaScriptCodeWithScope.is ∙ ap (under scope_key) done }

pub ignore_scope-returns-in-Err : goal.ignore_scope-returns-in-Err
ignore_scope-returns-in-Err t c =
    let n = scope_node c.in-JavaScriptCodeWithScope.scope in
    let here = subst (λ (r : Reading (Unit {0})). StopsAs c.in-Err.stop r) (ap pass_at c.of_scope.ensures.node ∙ ignored_at n) c.in-Err.ensures.exact in
    record {
      exact = subst (λ (r : Reading (Unit {0})). StopsAs c.under_key.result r) (sym (ap (λ v. pass_scope (extended_view v)) c.in-JavaScriptCodeWithScope.is))
          (stops_inside (at_key scope_key) c.in-Err.stop c.under_key.result _ c.under_key.ensures.under here);
    }
