use Rattle.std.proofs.Common.{◌≡◌, [], ◌∷◌}
use Rattle.std.specs.Prelude.{option_map}
use Rattle.bson_shape.specs.Form.{dropped}
use Rattle.bson_laws.specs.Slots.{fill}
use Rattle.bson_met.specs.Sizes.{count}
use Rattle.bson_texts.proofs.Each.{each}
use Rattle.bson_wrapped.specs.Fields.{field_slot, two_slots}
use Rattle.bson_texts.proofs.SlotsFilled.{slots_by}
use Rattle.bson_wrapped.proofs.fields.two_by_key.Given as goal

-- what is left of the document, put to the values so far, is all that is in it
abbrev pub invariant-step : goal.invariant-step
invariant-step g l =
    each (slots_by dropped) 0 l.elements (field_slot g.A.FieldValue.form l.first (option_map g.A.FieldValue.seen l.one) ∷ field_slot g.B.FieldValue.form l.second (option_map g.B.FieldValue.seen l.other) ∷ [])
    ≡ fill dropped l.fn.elements (two_slots g.A.FieldValue.form l.first g.B.FieldValue.form l.second)

abbrev pub decreases-step : goal.decreases-step
decreases-step g l = count l.elements
