use Rattle.std.proofs.Common.{rules, ◌≡◌, ◌<◌, [], None, get_or, length, ap, sym, subst, ◌∙◌, arith}
use Rattle.std.proofs.lemmas.List.{nil_from_length}
use Rattle.bson_laws.specs.Slots.{finish}
use Rattle.bson_slots.specs.SlotsView.{slots_view}
use Rattle.bson_slots.specs.FieldSlots.{field_slots}
use Rattle.bson_slots.proofs.Finished.{all_finished, first_given, first_missing, none_more}
use Rattle.bson_met.proofs.Refusals.{StopsAs}
use Rattle.bson_slots.proofs.slots.Slots.finish_later.Goals as goal

pub loop-value-init : goal.loop-value-init
loop-value-init c =
    let s = c.args.self in
    let start = c.into_iter-value-iterator.ensures.into_iter_gives in (
      s.named,
      omega (arith, s.within, ap length start.0),
      omega (arith, start.1, ap length start.0),
      ap (λ later. finish (field_slots s.reader.now s.fields.now s.first.items later)) start.0,
    )

pub push-requires-clause-within : goal.push-requires-clause-within
push-requires-clause-within c = omega (arith, c.loop-value.invariant.1, ap length c.in-Some.ensures.steps.0)

pub push-requires-clause-named : goal.push-requires-clause-named
push-requires-clause-named c = c.loop-value.invariant.0

pub bounds-fields-len : goal.bounds-fields-len
bounds-fields-len c = omega (arith, c.loop-value.invariant.1, ap length c.in-Some.ensures.steps.0)

pub returns-in_err-value : goal.returns-in_err-value
returns-in_err-value c =
    let fs = c.args.self.fields.now in
    let first = c.loop-value.first.items in
    let kept = c.loop-value.invariant in
    let step = c.in-Some.ensures.steps in
    let field = c.index-fields-len.result in
    let count : c.len.result ≡ length first = omega arith in
    let stop = c.in_err-value.field-0.0 in
    let refuses : StopsAs stop (finish (slots_view c.args.self)) =
    subst (StopsAs stop) (ap (λ later. finish (field_slots c.args.self.reader.now fs first later)) (sym step.0) ∙ kept.3)
    (first_missing c.args.self.reader.now fs first c.in-Some.value c.next.new.self.rest.items field stop (omega (arith, kept.1, ap length step.0)) (c.index-fields-len.is ∙ ap (λ n. get_or fs n field) count) c.in_err-value.ensures.exact) in
    search (rules, refuses)

pub loop-value-preserved : goal.loop-value-preserved
loop-value-preserved c =
    let fs = c.args.self.fields.now in
    let first = c.loop-value.first.items in
    let kept = c.loop-value.invariant in
    let step = c.in-Some.ensures.steps in
    let left = c.next.new.self.rest.items in
    let one = ap length step.0 in
    let field = c.index-fields-len.result in
    let count : c.len.result ≡ length first = omega arith in (
      c.push.ensures.named,
      omega (arith, kept.1, one, c.push.ensures.within),
      omega (arith, kept.2, one, step.1),
      ap (λ vs. finish vs) (c.in_ok-push.ensures.pushed c.args.self.reader.now left)
          ∙ first_given c.args.self.reader.now fs first c.in-Some.value left field c.in_ok-value.value (omega (arith, kept.1, one)) (c.index-fields-len.is ∙ ap (λ n. get_or fs n field) count) c.in_ok-value.ensures.exact
          ∙ ap (λ later. finish (field_slots c.args.self.reader.now fs first later)) (sym step.0)
          ∙ kept.3,
    )

pub loop-field-init : goal.loop-field-init
loop-field-init c =
    let fs = c.args.self.fields.now in
    let first = c.loop-value.first.items in
    let kept = c.loop-value.invariant in
    let none = nil_from_length c.loop-value.value-iterator.rest.items (sym kept.2 ∙ c.in-None.ensures.steps.0) in
    (kept.0, omega (arith, kept.1), ap (λ later. finish (field_slots c.args.self.reader.now fs first later)) (sym none) ∙ kept.3)

pub returns-in_err-value-2 : goal.returns-in_err-value-2
returns-in_err-value-2 c =
    let fs = c.args.self.fields.now in
    let first = c.loop-field.first.items in
    let kept = c.loop-field.invariant in
    let found = c.in-Some-get.ensures.lookup in
    let field = c.in-Some-get.field.now in
    let count : c.len-in-loop-field.result ≡ length first = omega arith in
    let stop = c.in_err-value-2.field-0.0 in
    let refuses : StopsAs stop (finish (slots_view c.args.self)) =
    subst (StopsAs stop) (ap (λ vs. finish vs) (none_more c.args.self.reader.now fs first []) ∙ kept.2)
    (first_missing c.args.self.reader.now fs first None [] field stop (omega (arith, found.3.0)) (found.1 ∙ ap (λ n. get_or fs n field) count) c.in_err-value-2.ensures.exact) in
    search (rules, refuses)

pub loop-field-preserved : goal.loop-field-preserved
loop-field-preserved c =
    let fs = c.args.self.fields.now in
    let first = c.loop-field.first.items in
    let kept = c.loop-field.invariant in
    let found = c.in-Some-get.ensures.lookup in
    let field = c.in-Some-get.field.now in
    let count : c.len-in-loop-field.result ≡ length first = omega arith in
    let lt : length first < length fs = omega (arith, found.3.0) in (
      c.push-in-Some-get.ensures.named,
      omega (arith, lt, c.push-in-Some-get.ensures.within),
      ap (λ vs. finish vs) (c.in_ok-push-2.ensures.pushed c.args.self.reader.now [])
          ∙ first_given c.args.self.reader.now fs first None [] field c.in_ok-value-2.value lt (found.1 ∙ ap (λ n. get_or fs n field) count) c.in_ok-value-2.ensures.exact
          ∙ ap (λ vs. finish vs) (none_more c.args.self.reader.now fs first [])
          ∙ kept.2,
    )

pub returns : goal.returns
returns c =
    let fs = c.args.self.fields.now in
    let kept = c.loop-field.invariant in
    record { exact = sym kept.2 ∙ all_finished c.args.self.reader.now fs c.loop-field.first.items [] kept.0 (omega (arith, c.in_default.ensures.lookup)) }
