use Rattle.std.proofs.Common.{◌≡◌, [], ◌∷◌}
use Rattle.std.specs.Prelude.{option_map}
use Rattle.bson_shape.specs.Form.{dropped}
use Rattle.bson_laws.specs.Slots.{fill}
use Rattle.bson_met.specs.Sizes.{count}
use Rattle.bson_texts.proofs.Each.{each}
use Rattle.bson_wrapped.specs.Fields.{field_slot, one_slot}
use Rattle.bson_texts.proofs.SlotsFilled.{slots_by}
use Rattle.bson_wrapped.proofs.fields.one_by_key.Given as goal

-- what is left of the document, put to the value so far, is all that is in it
abbrev pub invariant-step : goal.invariant-step
invariant-step g l =
    each (slots_by dropped) 0 l.elements (field_slot g.T.FieldValue.form l.name (option_map g.T.FieldValue.seen l.found) ∷ []) ≡ fill dropped l.fn.elements (one_slot g.T.FieldValue.form l.name)

abbrev pub decreases-step : goal.decreases-step
decreases-step g l = count l.elements
