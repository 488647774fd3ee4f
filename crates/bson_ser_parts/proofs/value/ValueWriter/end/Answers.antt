use Rattle.std.proofs.Common.{Ok, Err, subst}
use Rattle.bson_datum.specs.View.{fields_view}
use Rattle.bson_ser_parts.proofs.ValueCalls.{PutsFields, fields_ended, fields_unended, not_going, not_both}
use Rattle.bson_ser_parts.proofs.value.ValueWriter.end.Goals as goal

-- after a refusal, or after the end

pub returns-then-self-clause-whole : goal.returns-then-self-clause-whole
returns-then-self-clause-whole g c = λ begun name fs has. absurd (not_going begun name fs c.args.self.now c.if-self.true has)

pub returns-then-self-clause-failed : goal.returns-then-self-clause-failed
returns-then-self-clause-failed g c = λ begun h. (h, c.failed_before.ensures)

-- the value was appended

pub returns-in-Ok-clause-whole : goal.returns-in-Ok-clause-whole
returns-in-Ok-clause-whole g c =
    let w = c.args.self.now in
    fields_ended w c.put_reserved.new.out c.args.steps.now c.put_reserved.new.steps c.in-Ok.field-0
    (subst (λ xs. PutsFields w.kind (fields_view xs) w.out.now c.put_reserved.new.out c.args.steps.now c.put_reserved.new.steps (Ok c.in-Ok.field-0)) c.deref.ensures.value c.in-Ok.ensures)

pub returns-in-Ok-clause-failed : goal.returns-in-Ok-clause-failed
returns-in-Ok-clause-failed g c = λ begun h. absurd (not_both c.args.self.now.failed h.0 c.if-self.false)

-- the value was refused

pub returns-in-Err-clause-whole : goal.returns-in-Err-clause-whole
returns-in-Err-clause-whole g c =
    let w = c.args.self.now in
    fields_unended w c.put_reserved.new.out c.args.steps.now c.put_reserved.new.steps c.take_back.new.out.bytes c.take_back.result c.in-Err.halt c.len-start.result c.len-start.ensures
    (subst (λ xs. PutsFields w.kind (fields_view xs) w.out.now c.put_reserved.new.out c.args.steps.now c.put_reserved.new.steps (Err c.in-Err.halt)) c.deref.ensures.value c.in-Err.ensures)
    c.take_back.ensures.cut c.take_back.ensures.placed

pub returns-in-Err-clause-failed : goal.returns-in-Err-clause-failed
returns-in-Err-clause-failed g c = λ begun h. absurd (not_both c.args.self.now.failed h.0 c.if-self.false)
