use Rattle.std.proofs.Common.{◌+◌, length, ap, sym, ◌∙◌}
use Rattle.bson_datum.specs.MarkedView.{marked}
use Rattle.bson_slots.specs.FieldSlots.{with_value}
use Rattle.bson_slots.proofs.Finished.{later_kept}
use Rattle.bson_slots.proofs.slots.Slots.put_later.Goals as goal

pub returns-in-Ok-clause-put : goal.returns-in-Ok-clause-put
returns-in-Ok-clause-put c =
    let s = c.reach.new.self in
    let i = length c.args.self.now.first.items + c.args.place in
    rw c.replace.ensures.after (later_kept s.reader.now s.fields.now s.first.items s.later.items i c.args.place c.args.value (ap (λ v. length v.items + c.args.place) (sym c.reach.ensures.first)) c.in-Ok.ensures.reached)
    ∙ ap (λ slots. with_value slots i (marked c.args.value)) c.reach.ensures.slots
