-- What contracts see of the fields of a struct that are read. Source: MongoDB's extended JSON, version 2.
use Rattle.std.specs.Prelude.{[], ◌∷◌, Option, None}
use Rattle.bson_kinds.specs.Text.{Utf8}
use Rattle.bson_rawdoc.specs.Node.{Node}
use Rattle.bson_shape.specs.Form.{Form}
use Rattle.bson_values.specs.Marked.{Marked}
use Rattle.bson_values.specs.Refusal.{under}
use Rattle.bson_laws.specs.Judged.{Reading, ignores}
use Rattle.bson_laws.specs.ReadsLeaf.{no_extended}
use Rattle.bson_laws.specs.Shaped.{reads}
use Rattle.bson_laws.specs.Slots.{Slot, Slots}

-- the slot of a field of this shape and name, with what was read for it
abbrev pub field_slot : Form → Utf8 → Option Marked → Slot
field_slot s name v = record { name = name; missing = None; read = reads no_extended s; value = v }

-- the value at a key, dropped
abbrev pub drop_at : Utf8 → Node → Reading (Unit {0})
drop_at key n = under key (ignores n)

-- the slots of one field and of two, for which no value has been read yet
abbrev pub one_slot : Form → Utf8 → Slots
one_slot s name = field_slot s name None ∷ []

abbrev pub two_slots : Form → Utf8 → Form → Utf8 → Slots
two_slots s name r other = field_slot s name None ∷ field_slot r other None ∷ []
