use Rattle.std.proofs.Common.{[], ◌∷◌, refl, sym, ◌∙◌}
use Rattle.std.specs.Prelude.{option_map}
use Rattle.bson_shape.specs.Form.{dropped}
use Rattle.bson_met.specs.PieceView.{str_piece}
use Rattle.bson_texts.proofs.Each.{step_is, each_next}
use Rattle.bson_wrapped.specs.Fields.{field_slot, two_slots}
use Rattle.bson_texts.proofs.SlotsFilled.{slots_by, fill_each}
use Rattle.bson_wrapped.proofs.Filled.{put_here, put_further, put_dropped}
use Rattle.bson_wrapped.proofs.fields.two_by_key.Goals as goal

pub step-init : goal.step-init
step-init g c = fill_each dropped 0 c.args.elements (two_slots g.A.FieldValue.form c.args.first.now g.B.FieldValue.form c.args.second.now)

pub step-preserved-in-Continue-branch-2 : goal.step-preserved-in-Continue-branch-2
step-preserved-in-Continue-branch-2 g c =
    let s = c.advance.new.step in
    let key = str_piece s.key in
    let one = field_slot g.A.FieldValue.form c.args.first.now (option_map g.A.FieldValue.seen c.step.one) in
    let other = field_slot g.B.FieldValue.form c.args.second.now (option_map g.B.FieldValue.seen c.step.other) in
    let filled = field_slot g.A.FieldValue.form c.args.first.now (option_map g.A.FieldValue.seen c.put_value.new.kept) in
    let first = step_is _ _ c.in_ok-advance.field-0 s c.in_ok-advance.ensures.advanced c.if-branch.true in
    each_next (slots_by dropped) 0 c.step.elements (one ∷ other ∷ []) _ c.step.invariant (λ j l n x. refl) key s.value c.advance.new.self (filled ∷ other ∷ []) first
    (put_here key.bytes s.value one filled (other ∷ []) (sym c.eq.ensures ∙ c.if-eq.true) (c.in_ok-put_value.ensures.exact c.args.first.now))

pub step-preserved-in-Continue-branch-3 : goal.step-preserved-in-Continue-branch-3
step-preserved-in-Continue-branch-3 g c =
    let s = c.advance.new.step in
    let key = str_piece s.key in
    let one = field_slot g.A.FieldValue.form c.args.first.now (option_map g.A.FieldValue.seen c.step.one) in
    let other = field_slot g.B.FieldValue.form c.args.second.now (option_map g.B.FieldValue.seen c.step.other) in
    let filled = field_slot g.B.FieldValue.form c.args.second.now (option_map g.B.FieldValue.seen c.put_value-then-eq-2.new.kept) in
    let first = step_is _ _ c.in_ok-advance.field-0 s c.in_ok-advance.ensures.advanced c.if-branch.true in
    each_next (slots_by dropped) 0 c.step.elements (one ∷ other ∷ []) _ c.step.invariant (λ j l n x. refl) key s.value c.advance.new.self (one ∷ filled ∷ []) first
    (put_further key.bytes s.value one (other ∷ []) (filled ∷ []) (sym c.eq.ensures ∙ c.if-eq.false)
    (put_here key.bytes s.value other filled [] (sym c.eq-else-eq.ensures ∙ c.if-eq-2.true) (c.in_ok-put_value-2.ensures.exact c.args.second.now)))

pub step-preserved : goal.step-preserved
step-preserved g c =
    let s = c.advance.new.step in
    let key = str_piece s.key in
    let one = field_slot g.A.FieldValue.form c.args.first.now (option_map g.A.FieldValue.seen c.step.one) in
    let other = field_slot g.B.FieldValue.form c.args.second.now (option_map g.B.FieldValue.seen c.step.other) in
    let first = step_is _ _ c.in_ok-advance.field-0 s c.in_ok-advance.ensures.advanced c.if-branch.true in
    each_next (slots_by dropped) 0 c.step.elements (one ∷ other ∷ []) _ c.step.invariant (λ j l n x. refl) key s.value c.advance.new.self (one ∷ other ∷ []) first
    (put_further key.bytes s.value one (other ∷ []) (other ∷ []) (sym c.eq.ensures ∙ c.if-eq.false)
    (put_further key.bytes s.value other [] [] (sym c.eq-else-eq.ensures ∙ c.if-eq-2.false) (put_dropped key.bytes s.value c.in_ok-drop_value.ensures.exact)))
