use Rattle.std.proofs.Common.{◌≡◌, ◌+◌, length, take, drop, [], ◌∷◌, ◌++◌, Ok, ap, sym, refl, subst, ◌∙◌, arith}
use Rattle.bson_kinds.specs.Kind.{byte}
use Rattle.bson_kinds.specs.Text.{Bytes}
use Rattle.bson_kinds.specs.Outcome.{result_map}
use Rattle.bson_base.specs.Tree.{enclosed}
use Rattle.bson_rawdoc.specs.DocumentView.{document_bytes}
use Rattle.bson_rawdoc.specs.Envelope.{inside}
use Rattle.bson_rawdoc.specs.Walk.{walk_elements}
use Rattle.bson_pass_parts.proofs.Runs.{head_at}
use Rattle.bson_editing.specs.Edited.{each_edited, joined, edited_by, edited_in}
use Rattle.bson_editing.specs.Plan.{is_for}
use Rattle.bson_editing.specs.PlanView.{name_of, steps_of}
use Rattle.bson_editing.specs.AroundView.{around_of}
use Rattle.bson_editing.specs.Answers.{Appends}
use Rattle.bson_editing.proofs.Edits.{IsFilled, into_nested, nested_put, by_front, next_filled, next_put, at_limit, room, at_end}
use Rattle.bson_editing.proofs.edit.+edit.Goals as goal

pub edit_as-returns-in-InsideIt : goal.edit_as-returns-in-InsideIt
edit_as-returns-in-InsideIt g t c =
    into_nested g.C.Changes.tells (g.C.Changes.changing c.args.changes.now) c.args.edit.now c.in-InsideIt.steps c.deref-in-InsideIt.result.now c.args.levels c.args.key.now (record { kind = c.args.kind; bytes = c.args.bytes.now }) _ _ _
    c.in-InsideIt.is c.deref-in-InsideIt.ensures.value c.edit_nested.ensures

pub edit_nested-returns : goal.edit_nested-returns
edit_nested-returns g t c =
    let old = c.args.out.now.items in
    let front = c.in_ok-put_front.ensures ∙ ap (λ key. old ++ (byte c.args.kind ∷ (key ++ 0 ∷ []))) c.as_bytes.ensures.value in
    nested_put g.C.Changes.tells (edited_in (g.C.Changes.changing c.args.changes.now) (steps_of c.args.steps.now)) c.args.levels c.saturating_sub.result c.args.key.now (record { kind = c.args.kind; bytes = c.args.bytes.now })
    c.in-Some.array c.in-Ok.document.bytes.now old c.put_front.new.out.items _ c.edit_elements.result c.in-Some.ensures c.in-Ok.ensures.envelope c.saturating_sub.ensures front c.edit_elements.ensures

pub edit_next-returns-in-Ok : goal.edit_next-returns-in-Ok
edit_next-returns-in-Ok g t c =
    let s = c.step-item.result in
    by_front g.C.Changes.tells (g.C.Changes.changing c.args.changes.now) c.args.steps.now c.loop-step.step-index (around_of c.args.around.now) c.args.index c.args.element.now c.args.out.now.items c.extend_from_slice.new.self.items
    c.args.pending.now c.edit_by.new.out.items _ s _ c.loop-step.invariant.1 c.loop-step-test.true c.step-item.is (ap (is_for c.args.around.now.array (name_of s.name)) (sym c.key.ensures.key) ∙ sym c.is_for.ensures ∙ c.if-is_for.true)
    (c.in_ok-extend_from_slice.ensures.items ∙ ap (λ b. b ++ c.args.pending.now) c.loop-step.invariant.0) c.in-Ok.ensures

pub edit_each-loop-step-preserved : goal.edit_each-loop-step-preserved
edit_each-loop-step-preserved g t c =
    let f = edited_by (g.C.Changes.changing c.args.changes.now) (steps_of c.args.steps.now) (around_of c.args.around.now) in
    let n = c.element_len-at.result in
    let at = c.loop-step.at in
    subst (λ m. IsFilled f c.args.elements.now c.args.out.now.items c.edit_next.new.out.items (c.loop-step.index + 1) m (at + n)) (sym c.run_start-from.ensures)
    (next_filled g.C.Changes.tells f c.args.elements.now c.args.out.now.items c.loop-step.out.items c.edit_next.new.out.items c.loop-step.index c.loop-step.from at n c.in-Ok.element c.in_ok-taken.taken (f c.loop-step.index c.in-Ok.element) refl
    c.loop-step.invariant (head_at c.args.elements.now at c.in-Ok.element c.element_len-at.ensures.head) c.element_len-at.ensures.size c.in_ok-taken.ensures)

pub edit_elements-returns-then-len-start-ge-MOST : goal.edit_elements-returns-then-len-start-ge-MOST
edit_elements-returns-then-len-start-ge-MOST g t c =
    let a = around_of c.args.around.now in
    let r = g.C.Changes.changing c.args.changes.now in
    let steps = steps_of c.args.steps.now in
    let begun = c.extend_from_slice.new.self.items in
    let filled = c.edit_each.new.out.items in
    at_limit g.C.Changes.tells r steps a (document_bytes c.args.around.now.document) c.args.out.now.items begun filled c.put_missing.new.out.items tt tt refl c.in_ok-extend_from_slice.ensures.items
    (subst (λ (b : Bytes). Appends g.C.Changes.tells begun filled (Ok tt) (result_map joined (each_edited (edited_by r steps a) 0 (walk_elements b)))) (c.inside.ensures ∙ ap inside c.as_bytes.ensures.bytes) c.in_ok-edit_each.ensures)
    c.in_ok-put_missing.ensures c.here.result c.here.ensures.here (omega arith)

pub edit_elements-close-requires : goal.edit_elements-close-requires
edit_elements-close-requires g t c =
    let a = around_of c.args.around.now in
    let r = g.C.Changes.changing c.args.changes.now in
    let steps = steps_of c.args.steps.now in
    let begun = c.extend_from_slice.new.self.items in
    let filled = c.edit_each.new.out.items in
    let fits = room g.C.Changes.tells r steps a (document_bytes c.args.around.now.document) c.args.out.now.items begun filled c.put_missing.new.out.items tt tt refl c.in_ok-extend_from_slice.ensures.items
    (subst (λ (b : Bytes). Appends g.C.Changes.tells begun filled (Ok tt) (result_map joined (each_edited (edited_by r steps a) 0 (walk_elements b)))) (c.inside.ensures ∙ ap inside c.as_bytes.ensures.bytes) c.in_ok-edit_each.ensures)
    c.in_ok-put_missing.ensures in
    omega (arith, fits)

pub edit_elements-returns-in-Some : goal.edit_elements-returns-in-Some
edit_elements-returns-in-Some g t c =
    let a = around_of c.args.around.now in
    let r = g.C.Changes.changing c.args.changes.now in
    let steps = steps_of c.args.steps.now in
    let begun = c.extend_from_slice.new.self.items in
    let filled = c.edit_each.new.out.items in
    let start : c.len-start.result ≡ length c.args.out.now.items = omega arith in
    at_end g.C.Changes.tells r steps a (document_bytes c.args.around.now.document) c.args.out.now.items begun filled c.put_missing.new.out.items tt tt refl c.in_ok-extend_from_slice.ensures.items
    (subst (λ (b : Bytes). Appends g.C.Changes.tells begun filled (Ok tt) (result_map joined (each_edited (edited_by r steps a) 0 (walk_elements b)))) (c.inside.ensures ∙ ap inside c.as_bytes.ensures.bytes) c.in_ok-edit_each.ensures)
    c.in_ok-put_missing.ensures c.close.new.made.items tt (omega arith) (subst (λ n. c.close.new.made.items ≡ take n c.put_missing.new.out.items ++ enclosed (drop (n + 4) c.put_missing.new.out.items)) start c.in-Some.ensures)

pub put_missing-loop-step-preserved : goal.put_missing-loop-step-preserved
put_missing-loop-step-preserved g t c =
    next_put g.C.Changes.tells (g.C.Changes.changing c.args.changes.now) c.args.steps.now c.loop-step.step-index (around_of c.args.around.now) c.step-item.result _ c.args.out.now.items c.loop-step.out.items c.put_absent.new.out.items
    tt _ c.loop-step-test.true c.step-item.is c.loop-step.invariant c.in_ok-put_absent.ensures
