use Rattle.std.proofs.Common.{◌≡◌, ◌-◌, Ok, ap, subst, ◌∙◌, refl, arith}
use Rattle.bson_rawdoc.specs.Node.{node_in, nodes_with}
use Rattle.bson_rawdoc.specs.Walk.{walk}
use Rattle.bson_laws.specs.Judged.{ignores}
use Rattle.bson_pass_parts.specs.Free.{ArePassed}
use Rattle.bson_pass_parts.proofs.Passed.{passed_step, document_passed, array_passed, scoped_passed}
use Rattle.bson_pass_parts.proofs.dropped.+dropped.Goals as goal

pub are_passed-loop-element-preserved : goal.are_passed-loop-element-preserved
are_passed-loop-element-preserved t c =
    let m = c.args.levels - 1 in
    let e = c.in-Ok.element in
    let step = rw c.in-Ok.is at c.in-Some.ensures.steps in
    let ignored : ignores (node_in m e.kind e.value) ≡ Ok tt = ap ignores c.in-Some-value_of.ensures ∙ c.if-not-is_passed.ensures refl in (
      tt,
      tt,
      λ rest. c.loop-element.invariant.2 (passed_step m c.loop-element.element-iterator c.next.new.self e step ignored rest),
    )

pub is_passed-returns-in-Document : goal.is_passed-returns-in-Document
is_passed-returns-in-Document t c = λ h.
    let m = c.args.levels - 1 in
    rw c.in-Document.is (document_passed c.args.levels m _ (omega (arith, c.are_passed.ensures.level h)) (subst (λ w. ArePassed (nodes_with (node_in m) w)) c.iter_elements.ensures.walk (c.are_passed.ensures.passed h)))

pub is_passed-returns-in-Array : goal.is_passed-returns-in-Array
is_passed-returns-in-Array t c = λ h.
    let m = c.args.levels - 1 in
    rw c.in-Array.is (array_passed c.args.levels m _ (omega (arith, c.are_passed-in-Array.ensures.level h)) (subst (λ w. ArePassed (nodes_with (node_in m) w)) (c.iter_elements-in-Array.ensures.walk ∙ ap walk c.as_doc.ensures.bytes) (c.are_passed-in-Array.ensures.passed h)))

pub is_passed-returns-then-is_text-2 : goal.is_passed-returns-then-is_text-2
is_passed-returns-then-is_text-2 t c = λ h.
    let m = c.args.levels - 1 in
    rw c.in-JavaScriptCodeWithScope.is
    (scoped_passed c.in-JavaScriptCodeWithScope.code.now c.args.levels m _ (omega (arith, c.are_passed-then-is_text-2.ensures.level h)) c.is_text-in-JavaScriptCodeWithScope.ensures
    (subst (λ w. ArePassed (nodes_with (node_in m) w)) c.iter_elements-then-is_text-2.ensures.walk (c.are_passed-then-is_text-2.ensures.passed h)))
