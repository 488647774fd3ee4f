use Rattle.std.proofs.Common.{[], ◌∷◌, refl, sym, ◌∙◌}
use Rattle.std.specs.Prelude.{option_map}
use Rattle.bson_shape.specs.Form.{dropped}
use Rattle.bson_met.specs.PieceView.{str_piece}
use Rattle.bson_texts.proofs.Each.{step_is, each_next}
use Rattle.bson_wrapped.specs.Fields.{field_slot, one_slot}
use Rattle.bson_texts.proofs.SlotsFilled.{slots_by, fill_each}
use Rattle.bson_wrapped.proofs.Filled.{put_here, put_further, put_dropped}
use Rattle.bson_wrapped.proofs.fields.one_by_key.Goals as goal

pub step-init : goal.step-init
step-init g c = fill_each dropped 0 c.args.elements (one_slot g.T.FieldValue.form c.args.name.now)

pub step-preserved-in-Continue-branch-2 : goal.step-preserved-in-Continue-branch-2
step-preserved-in-Continue-branch-2 g c =
    let s = c.advance.new.step in
    let key = str_piece s.key in
    let name = c.args.name.now in
    let slot = field_slot g.T.FieldValue.form name (option_map g.T.FieldValue.seen c.step.found) in
    let filled = field_slot g.T.FieldValue.form name (option_map g.T.FieldValue.seen c.put_value.new.kept) in
    let first = step_is _ _ c.in_ok-advance.field-0 s c.in_ok-advance.ensures.advanced c.if-branch.true in
    each_next (slots_by dropped) 0 c.step.elements (slot ∷ []) _ c.step.invariant (λ j l n x. refl) key s.value c.advance.new.self (filled ∷ []) first
    (put_here key.bytes s.value slot filled [] (sym c.eq.ensures ∙ c.if-eq.true) (c.in_ok-put_value.ensures.exact name))

pub step-preserved : goal.step-preserved
step-preserved g c =
    let s = c.advance.new.step in
    let key = str_piece s.key in
    let name = c.args.name.now in
    let slot = field_slot g.T.FieldValue.form name (option_map g.T.FieldValue.seen c.step.found) in
    let first = step_is _ _ c.in_ok-advance.field-0 s c.in_ok-advance.ensures.advanced c.if-branch.true in
    each_next (slots_by dropped) 0 c.step.elements (slot ∷ []) _ c.step.invariant (λ j l n x. refl) key s.value c.advance.new.self (slot ∷ []) first
    (put_further key.bytes s.value slot [] [] (sym c.eq.ensures ∙ c.if-eq.false) (put_dropped key.bytes s.value c.in_ok-drop_value.ensures.exact))
