use Rattle.std.proofs.Common.{true, false, refl, subst}
use Rattle.bson_values.specs.Refusal.{at_key}
use Rattle.bson_datum.specs.View.{view}
use Rattle.bson_writing.specs.Halting.{IsUnder}
use Rattle.bson_ser_stream.proofs.Puts.{Grows-none}
use Rattle.bson_ser_parts.proofs.VariantCalls.{field_took, field_refuses, no_entry, not_open, not_both}
use Rattle.bson_ser_parts.proofs.variant.VariantWriter.entry.Goals as goal

-- after a refusal

pub returns-then-self-clause-takes : goal.returns-then-self-clause-takes
returns-then-self-clause-takes g c = λ begun readable name before after has. absurd (not_open begun readable name false c.args.self.now c.if-self.true has.still)

pub returns-then-self-clause-wrong_form : goal.returns-then-self-clause-wrong_form
returns-then-self-clause-wrong_form g c = λ begun readable name vs has. absurd (not_open begun readable name true c.args.self.now c.if-self.true has.still)

pub returns-then-self-clause-failed : goal.returns-then-self-clause-failed
returns-then-self-clause-failed g c = λ begun h. (h, c.failed_before.ensures)

-- on a tuple variant

pub returns-then-self-2-clause-takes : goal.returns-then-self-2-clause-takes
returns-then-self-2-clause-takes g c = λ begun readable name before after has. absurd (not_both c.args.self.now.tuple c.if-self-2.true has.still.holds)

pub returns-then-self-2-clause-wrong_form : goal.returns-then-self-2-clause-wrong_form
returns-then-self-2-clause-wrong_form g c =
    no_entry c.args.self.now c.fail.new.self c.fail.result c.caused.result c.args.steps.now (record { failed = c.fail.ensures.failed; grows = Grows-none c.args.self.now.out.now c.args.steps.now; cut = c.fail.ensures.cut }) c.caused.ensures.here c.fail.ensures.placed

pub returns-then-self-2-clause-failed : goal.returns-then-self-2-clause-failed
returns-then-self-2-clause-failed g c = λ begun h. absurd (not_both c.args.self.now.failed h.0 c.if-self.false)

-- the field was taken

pub returns-in-Ok-clause-takes : goal.returns-in-Ok-clause-takes
returns-in-Ok-clause-takes g c = field_took c.args.self.now _ c.args.key.now (view c.args.value.now) (record { failed = refl; form = refl; pair = refl; name = refl; tuple = refl }) c.in-Ok.ensures.bytes

pub returns-in-Ok-clause-wrong_form : goal.returns-in-Ok-clause-wrong_form
returns-in-Ok-clause-wrong_form g c = λ begun readable name vs has. absurd (not_both c.args.self.now.tuple has.still.holds c.if-self-2.false)

pub returns-in-Ok-clause-failed : goal.returns-in-Ok-clause-failed
returns-in-Ok-clause-failed g c = λ begun h. absurd (not_both c.args.self.now.failed h.0 c.if-self.false)

-- the field was refused

pub returns-in-Err-clause-takes : goal.returns-in-Err-clause-takes
returns-in-Err-clause-takes g c =
    field_refuses c.args.self.now c.fail-in-Err.new.self c.args.key.now (view c.args.value.now) c.fail-in-Err.result c.in-Err.halt c.under_key-halt.result c.put_struct_field.new.out c.args.steps.now c.put_struct_field.new.steps
    (record { failed = c.fail-in-Err.ensures.failed; grows = c.in-Err.ensures.grows; cut = c.fail-in-Err.ensures.cut }) c.in-Err.ensures.bytes
    (subst (λ name. IsUnder (at_key name) c.in-Err.halt c.under_key-halt.result) c.as_str.ensures.value c.under_key-halt.ensures.under) c.fail-in-Err.ensures.placed

pub returns-in-Err-clause-wrong_form : goal.returns-in-Err-clause-wrong_form
returns-in-Err-clause-wrong_form g c = λ begun readable name vs has. absurd (not_both c.args.self.now.tuple has.still.holds c.if-self-2.false)

pub returns-in-Err-clause-failed : goal.returns-in-Err-clause-failed
returns-in-Err-clause-failed g c = λ begun h. absurd (not_both c.args.self.now.failed h.0 c.if-self.false)
