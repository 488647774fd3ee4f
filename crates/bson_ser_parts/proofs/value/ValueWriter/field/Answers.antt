use Rattle.std.proofs.Common.{◌≡◌, refl, sym, subst, ap, ◌∙◌}
use Rattle.bson_values.specs.ErrorView.{write_failure}
use Rattle.bson_datum.specs.View.{view, fields_view}
use Rattle.bson_writing.specs.Joined.{with_field}
use Rattle.bson_ser_parts.specs.Fronts.{AreFirst}
use Rattle.bson_ser_parts.proofs.ValueCalls.{field_took, field_refuses, field_lacks_memory, not_going, not_both, if_no_error}
use Rattle.bson_ser_parts.proofs.value.ValueWriter.field.Goals as goal

-- after a refusal

pub returns-then-self-clause-takes : goal.returns-then-self-clause-takes
returns-then-self-clause-takes g c = λ begun name before has. absurd (not_going begun name before c.args.self.now c.if-self.true has)

pub returns-then-self-clause-failed : goal.returns-then-self-clause-failed
returns-then-self-clause-failed g c = λ begun h. (h, c.failed_before.ensures)

-- no memory for a copy

pub returns-then-is_err-clause-takes : goal.returns-then-is_err-clause-takes
returns-then-is_err-clause-takes g c = field_lacks_memory c.args.self.now c.args.key.now (view c.args.value.now)

pub returns-then-is_err-clause-failed : goal.returns-then-is_err-clause-failed
returns-then-is_err-clause-failed g c = λ begun h. absurd (not_both c.args.self.now.failed h.0 c.if-self.false)

-- the field was taken

pub returns-then-begins-clause-takes : goal.returns-then-begins-clause-takes
returns-then-begins-clause-takes g c =
    let old = c.args.self.now in
    let pushed : fields_view c.push_owned-copied.new.fields.items ≡ with_field (fields_view old.fields.items) c.args.key.now (view c.args.value.now) =
    if_no_error c.push_owned-copied.result c.push_owned-copied.ensures (sym c.is_err.ensures.value ∙ c.if-is_err.false) in
    field_took old _ c.args.key.now (view c.args.value.now) refl refl refl pushed
    (subst (λ fs. AreFirst old.kind fs) (ap fields_view c.deref.ensures.value ∙ pushed) (c.begins.ensures.0 c.if-begins.true))

pub returns-then-begins-clause-failed : goal.returns-then-begins-clause-failed
returns-then-begins-clause-failed g c = λ begun h. absurd (not_both c.args.self.now.failed h.0 c.if-self.false)

-- no list that the name takes begins so

pub returns-clause-takes : goal.returns-clause-takes
returns-clause-takes g c =
    let old = c.args.self.now in
    let pushed : fields_view c.push_owned-copied.new.fields.items ≡ with_field (fields_view old.fields.items) c.args.key.now (view c.args.value.now) =
    if_no_error c.push_owned-copied.result c.push_owned-copied.ensures (sym c.is_err.ensures.value ∙ c.if-is_err.false) in
    field_refuses old c.args.key.now (view c.args.value.now) (write_failure c.refused_for.result)
    (λ first. not_both c.begins.result (c.begins.ensures.1 (subst (λ fs. AreFirst old.kind fs) (sym (ap fields_view c.deref.ensures.value ∙ pushed)) first)) c.if-begins.false)
    c.refused_for.ensures

pub returns-clause-failed : goal.returns-clause-failed
returns-clause-failed g c = λ begun h. absurd (not_both c.args.self.now.failed h.0 c.if-self.false)
