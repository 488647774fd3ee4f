use Rattle.std.proofs.Common.{◌≡◌, ◌≤◌, ◌+◌, ◌-◌, [], length}
use Rattle.bson_laws.specs.Slots.{finish}
use Rattle.bson_slots.specs.FieldSlots.{AreFirst, field_slots}
use Rattle.bson_slots.specs.SlotsView.{slots_view}
use Rattle.bson_slots.proofs.slots.Slots.finish_later.Given as goal

-- the first so far, and the values that are left, are finished as what was read
abbrev pub invariant-loop-value : goal.invariant-loop-value
invariant-loop-value l =
    let left = l.value-iterator.rest in
    AreFirst l.fields l.first.items
    × (length l.first.items + length left.items ≤ length l.fields)
    × (left.len ≡ length left.items)
    × (finish (field_slots l.fn.self.reader.now l.fields l.first.items left.items) ≡ finish (slots_view l.fn.self))

-- so are the first so far alone
abbrev pub invariant-loop-field : goal.invariant-loop-field
invariant-loop-field l =
    AreFirst l.fields l.first.items
    × (length l.first.items ≤ length l.fields)
    × (finish (field_slots l.fn.self.reader.now l.fields l.first.items []) ≡ finish (slots_view l.fn.self))

abbrev pub decreases-loop-field : goal.decreases-loop-field
decreases-loop-field l = length l.fields - length l.first.items
