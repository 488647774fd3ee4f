use Rattle.std.proofs.Common.{◌-◌, ◌∙◌, arith}
use Rattle.bson_salvaging.specs.Looks.{within, look_deep}
use Rattle.bson_salvaging.proofs.Elements.{look_begun, look_ended, look_faulty, look_used_up, look_next, look_bad}
use Rattle.bson_salvaging.proofs.looking.+look.Goals as goal

pub look_deep-loop-element-init : goal.look_deep-loop-element-init
look_deep-loop-element-init t c = (
  tt,
  tt,
  look_begun c.args.levels c.args.looks c.args.bytes.now c.in-Ok.document.bytes.now c.into_iter-element-iterator.result (omega (arith, c.if-levels-eq0.false)) c.in-Ok.ensures.envelope
      (c.into_iter-element-iterator.ensures.into_iter_gives ∙ c.iter_elements-element-items.ensures.walk),
)

pub look_deep-returns-in_default-element : goal.look_deep-returns-in_default-element
look_deep-returns-in_default-element t c =
    c.fault-in_default-element.ensures ∙ look_faulty (within (look_deep (c.args.levels - 1))) c.loop-element.left c.loop-element.element-iterator _ c.loop-element.invariant.2 c.in_default-element.field-0
    (rw c.in_default-element.is at c.in-Some.ensures.steps).0

pub look_deep-returns-then-left-eq0 : goal.look_deep-returns-then-left-eq0
look_deep-returns-then-left-eq0 t c =
    c.fault-then-left-eq0.ensures ∙ look_used_up (within (look_deep (c.args.levels - 1))) c.loop-element.left c.loop-element.element-iterator _ c.loop-element.invariant.2 c.in-Ok-element.element c.next.new.self
    (omega (arith, c.if-left-eq0.true)) (rw c.in-Ok-element.is at c.in-Some.ensures.steps)

pub look_deep-returns-then-not-inner : goal.look_deep-returns-then-not-inner
look_deep-returns-then-not-inner t c =
    look_bad (within (look_deep (c.args.levels - 1))) c.loop-element.left c.loop-element.element-iterator _ c.loop-element.invariant.2 c.in-Ok-element.element c.next.new.self c.look_within-inner.result
    (omega (arith, c.if-left-eq0.false)) (rw c.in-Ok-element.is at c.in-Some.ensures.steps) c.look_within-inner.ensures c.if-not-inner.true

pub look_deep-loop-element-preserved : goal.look_deep-loop-element-preserved
look_deep-loop-element-preserved t c = (
  tt,
  tt,
  look_next (within (look_deep (c.args.levels - 1))) c.loop-element.left c.loop-element.element-iterator _ c.loop-element.invariant.2 c.in-Ok-element.element c.next.new.self c.look_within-inner.result
      (omega (arith, c.if-left-eq0.false)) (rw c.in-Ok-element.is at c.in-Some.ensures.steps) c.look_within-inner.ensures c.if-not-inner.false,
)

pub look_deep-returns : goal.look_deep-returns
look_deep-returns t c = c.fine.ensures ∙ look_ended (within (look_deep (c.args.levels - 1))) c.loop-element.left c.loop-element.element-iterator _ c.loop-element.invariant.2 c.in-None.ensures.steps.0
