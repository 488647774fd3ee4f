use Rattle.std.proofs.Common.{◌≡◌, ◌+◌, ◌-◌, length}
use Rattle.bson_slots.specs.SlotsView.{slots_view}
use Rattle.bson_slots.proofs.slots.Slots.reach.Given as goal

-- room for more values changes nothing
abbrev pub invariant-loop-self : goal.invariant-loop-self
invariant-loop-self l =
    (l.self.fields ≡ l.initial.self.fields) × (l.self.reader ≡ l.initial.self.reader) × (l.self.first ≡ l.initial.self.first) × (slots_view l.self ≡ slots_view l.initial.self)

abbrev pub decreases-loop-self : goal.decreases-loop-self
decreases-loop-self l = l.place + 1 - length l.self.later.items
