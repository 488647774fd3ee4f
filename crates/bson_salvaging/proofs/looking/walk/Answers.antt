use Rattle.std.proofs.Common.{◌∙◌, sym, arith}
use Rattle.bson_salvaging.proofs.Elements.{walk_begun, walk_ended, walk_stopped, walk_next}
use Rattle.bson_salvaging.proofs.looking.walk.Goals as goal

pub loop-element-init : goal.loop-element-init
loop-element-init c = (
  tt,
  tt,
  walk_begun c.args.bytes.now c.in-Ok.document.bytes.now c.into_iter-element-iterator.result c.in-Ok.ensures.envelope (c.into_iter-element-iterator.ensures.into_iter_gives ∙ c.iter_elements-element-items.ensures.walk)
      (rw (sym c.into_iter-element-iterator.ensures.into_iter_gives) at c.iter_elements-element-items.ensures.few),
)

pub returns-then-is_err-clause-fine : goal.returns-then-is_err-clause-fine
returns-then-is_err-clause-fine c =
    (walk_stopped c.args.bytes.now c.loop-element.count c.loop-element.element-iterator c.loop-element.invariant.2 c.in-Some.element c.next.new.self c.in-Some.ensures.steps c.if-is_err.ensures.value).0

pub returns-then-is_err-clause-count : goal.returns-then-is_err-clause-count
returns-then-is_err-clause-count c =
    (walk_stopped c.args.bytes.now c.loop-element.count c.loop-element.element-iterator c.loop-element.invariant.2 c.in-Some.element c.next.new.self c.in-Some.ensures.steps c.if-is_err.ensures.value).1

pub overflow_add-count : goal.overflow_add-count
overflow_add-count c = omega (arith, (walk_next c.args.bytes.now c.loop-element.count c.loop-element.element-iterator c.loop-element.invariant.2 c.in-Some.element c.next.new.self c.in-Some.ensures.steps c.if-is_err.ensures.value).few)

pub loop-element-preserved : goal.loop-element-preserved
loop-element-preserved c = (
  tt,
  tt,
  walk_next c.args.bytes.now c.loop-element.count c.loop-element.element-iterator c.loop-element.invariant.2 c.in-Some.element c.next.new.self c.in-Some.ensures.steps c.if-is_err.ensures.value,
)

pub returns-clause-fine : goal.returns-clause-fine
returns-clause-fine c = (walk_ended c.args.bytes.now c.loop-element.count c.loop-element.element-iterator c.loop-element.invariant.2 c.in-None.ensures.steps.0).0

pub returns-clause-count : goal.returns-clause-count
returns-clause-count c = (walk_ended c.args.bytes.now c.loop-element.count c.loop-element.element-iterator c.loop-element.invariant.2 c.in-None.ensures.steps.0).1
