use Rattle.std.proofs.Common.{true, false, refl, subst, arith}
use Rattle.bson_values.specs.Refusal.{at_key}
use Rattle.bson_datum.specs.View.{view}
use Rattle.bson_writing.specs.Halting.{IsUnder}
use Rattle.bson_ser_stream.proofs.Puts.{Grows-none}
use Rattle.bson_ser_parts.proofs.VariantCalls.{item_took, item_refuses, item_long, no_element, not_open, not_both}
use Rattle.bson_ser_parts.proofs.variant.VariantWriter.element.Goals as goal

-- after a refusal

pub returns-then-self-clause-takes : goal.returns-then-self-clause-takes
returns-then-self-clause-takes g c = λ begun readable name before after has. absurd (not_open begun readable name true c.args.self.now c.if-self.true has.still)

pub returns-then-self-clause-wrong_form : goal.returns-then-self-clause-wrong_form
returns-then-self-clause-wrong_form g c = λ begun readable name fs has. absurd (not_open begun readable name false c.args.self.now c.if-self.true has.still)

pub returns-then-self-clause-failed : goal.returns-then-self-clause-failed
returns-then-self-clause-failed g c = λ begun h. (h, c.failed_before.ensures)

-- on a struct variant

pub returns-then-not-self-clause-takes : goal.returns-then-not-self-clause-takes
returns-then-not-self-clause-takes g c = λ begun readable name before after has. absurd (not_both c.args.self.now.tuple has.still.holds c.if-not-self.true)

pub returns-then-not-self-clause-wrong_form : goal.returns-then-not-self-clause-wrong_form
returns-then-not-self-clause-wrong_form g c =
    no_element c.args.self.now c.fail.new.self c.fail.result c.caused.result c.args.steps.now (record { failed = c.fail.ensures.failed; grows = Grows-none c.args.self.now.out.now c.args.steps.now; cut = c.fail.ensures.cut }) c.caused.ensures.here c.fail.ensures.placed

pub returns-then-not-self-clause-failed : goal.returns-then-not-self-clause-failed
returns-then-not-self-clause-failed g c = λ begun h. absurd (not_both c.args.self.now.failed h.0 c.if-self.false)

-- no index is left

pub returns-in_default-clause-takes : goal.returns-in_default-clause-takes
returns-in_default-clause-takes g c =
    item_long c.args.self.now c.fail-in_default.new.self (view c.args.value.now) c.fail-in_default.result c.args.steps.now (record { failed = c.fail-in_default.ensures.failed; grows = Grows-none c.args.self.now.out.now c.args.steps.now; cut = c.fail-in_default.ensures.cut })
    (omega (arith, c.in_default.ensures)) c.fail-in_default.ensures.placed

pub returns-in_default-clause-wrong_form : goal.returns-in_default-clause-wrong_form
returns-in_default-clause-wrong_form g c = λ begun readable name fs has. absurd (not_both c.args.self.now.tuple c.if-not-self.false has.still.holds)

pub returns-in_default-clause-failed : goal.returns-in_default-clause-failed
returns-in_default-clause-failed g c = λ begun h. absurd (not_both c.args.self.now.failed h.0 c.if-self.false)

-- the value was taken

pub returns-in-Ok-clause-takes : goal.returns-in-Ok-clause-takes
returns-in-Ok-clause-takes g c = item_took c.args.self.now _ (view c.args.value.now) (record { failed = refl; form = refl; pair = refl; name = refl; tuple = refl }) c.in-Some.ensures.1 c.in-Ok.ensures.bytes

pub returns-in-Ok-clause-wrong_form : goal.returns-in-Ok-clause-wrong_form
returns-in-Ok-clause-wrong_form g c = λ begun readable name fs has. absurd (not_both c.args.self.now.tuple c.if-not-self.false has.still.holds)

pub returns-in-Ok-clause-failed : goal.returns-in-Ok-clause-failed
returns-in-Ok-clause-failed g c = λ begun h. absurd (not_both c.args.self.now.failed h.0 c.if-self.false)

-- the value was refused

pub returns-in-Err-clause-takes : goal.returns-in-Err-clause-takes
returns-in-Err-clause-takes g c =
    item_refuses c.args.self.now c.fail-in-Err.new.self (view c.args.value.now) c.fail-in-Err.result c.in-Err.halt c.under_key-halt.result c.put_item.new.out c.args.steps.now c.put_item.new.steps
    (record { failed = c.fail-in-Err.ensures.failed; grows = c.in-Err.ensures.grows; cut = c.fail-in-Err.ensures.cut }) c.in-Err.ensures.bytes
    (subst (λ name. IsUnder (at_key name) c.in-Err.halt c.under_key-halt.result) c.as_str.ensures.value c.under_key-halt.ensures.under) c.fail-in-Err.ensures.placed

pub returns-in-Err-clause-wrong_form : goal.returns-in-Err-clause-wrong_form
returns-in-Err-clause-wrong_form g c = λ begun readable name fs has. absurd (not_both c.args.self.now.tuple c.if-not-self.false has.still.holds)

pub returns-in-Err-clause-failed : goal.returns-in-Err-clause-failed
returns-in-Err-clause-failed g c = λ begun h. absurd (not_both c.args.self.now.failed h.0 c.if-self.false)
