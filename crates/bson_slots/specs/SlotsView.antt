-- What contracts see of the slots of a struct. Source: this library's own types.
use Rattle.bson_laws.specs.Slots.{Slots}
use Rattle.bson_slots.specs.FieldSlots.{field_slots}
use Rattle.bson_slots.specs.declared.slots.Slots as code

-- the slots of the fields, with the values that were read so far
abbrev pub slots_view : code.Slots → Slots
slots_view s = field_slots s.reader.now s.fields.now s.first.items s.later.items
