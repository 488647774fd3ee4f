use Rattle.std.proofs.Common.{ap, ◌∙◌}
use Rattle.bson_slots.specs.FieldSlots.{field_slots}
use Rattle.bson_slots.proofs.Finished.{none_more}
use Rattle.bson_slots.proofs.slots.Slots.reach.Goals as goal

pub loop-self-preserved : goal.loop-self-preserved
loop-self-preserved c =
    let s = c.loop-self.self in
    let kept = c.loop-self.invariant in
    (kept.0, kept.1, kept.2, ap (field_slots s.reader.now s.fields.now s.first.items) c.in_ok-push.ensures.items ∙ none_more s.reader.now s.fields.now s.first.items s.later.items ∙ kept.3)
