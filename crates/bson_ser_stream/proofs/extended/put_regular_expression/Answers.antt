use Rattle.std.proofs.Common.{length, ap, refl, arith}
use Rattle.bson_base.specs.Sorted.{sorted}
use Rattle.bson_base.proofs.Lengths.{length-regular_expression}
use Rattle.bson_ser_stream.proofs.Expressions.{length-sorted, spells_expression, wrote_expression}
use Rattle.bson_ser_stream.proofs.Growth.{Grows-trans, Grows-appended}
use Rattle.bson_ser_stream.proofs.Puts.{Grows-none, puts_value, out_of_memory, puts_too_long, size_expected, no_room}
use Rattle.bson_ser_stream.proofs.extended.put_regular_expression.Goals as goal

pub returns-then-pattern-options : goal.returns-then-pattern-options
returns-then-pattern-options g c =
    let expected = spells_expression c.args.pattern.now c.args.options.now c.if-has_zero.ensures c.if-has_zero-2.ensures in
    puts_too_long _ _ _ _ _ _ _ (Grows-none _ _)
    (omega (arith, size_expected _ _ expected, length-regular_expression c.args.pattern.now (sorted c.args.options.now), length-sorted c.args.options.now c.utf8.options, c.if-pattern-options.true))

pub returns-in_err-push_sorted : goal.returns-in_err-push_sorted
returns-in_err-push_sorted g c =
    let expected = spells_expression c.args.pattern.now c.args.options.now c.if-has_zero.ensures c.if-has_zero-2.ensures in
    let front = Grows-trans _ _ _ _ _ _ (Grows-appended _ _ _ _ _ c.in_ok-push_all.ensures.ok) (Grows-appended _ _ _ _ _ c.in_ok-push.ensures.ok) in
    out_of_memory _ _ _ _ _ _ _ (Grows-trans _ _ _ _ _ _ front c.in_err-push_sorted.ensures.grows) _ c.from_residual-in_err-push_sorted.ensures.1
    (λ ok. omega (arith, size_expected _ _ expected, length-regular_expression c.args.pattern.now (sorted c.args.options.now), ap length c.as_bytes.ensures.value, c.in_ok-push_all.ensures.ok.spare, c.in_ok-push.ensures.ok.spare, no_room _ _ c.in_err-push_sorted.ensures.free))

pub returns : goal.returns
returns g c =
    let expected = spells_expression c.args.pattern.now c.args.options.now c.if-has_zero.ensures c.if-has_zero-2.ensures in
    let whole = wrote_expression c.args.out.now c.push_all.new.self c.push.new.self c.push_sorted.new.out c.push-2.new.self c.args.pattern.now _ _ _ _ _ _ _ c.as_bytes.ensures.value c.in_ok-push_all.ensures.ok c.in_ok-push.ensures.ok c.in_ok-push_sorted.ensures.ok c.in_ok-push-2.ensures.ok in
    puts_value _ _ _ _ _ _ _ (Grows-appended _ _ _ _ _ whole) _ expected whole.bytes
    (omega (arith, size_expected _ _ expected, length-regular_expression c.args.pattern.now (sorted c.args.options.now), length-sorted c.args.options.now c.utf8.options, c.if-pattern-options.false)) refl
