-- Reading a value at an unrolled form, for a reader who is not human: a value with two forms is read in its compact one. Source: serde's `is_human_readable`.
use Rattle.std.specs.Prelude.{ℕ, false, Option}
use Rattle.bson_rawdoc.specs.Node.{Node, Nodes}
use Rattle.bson_shape.specs.Form.{Form, Fields, Parts}
use Rattle.bson_values.specs.Value.{ValueOf}
use Rattle.bson_values.specs.Marked.{Marked, MarkedItems}
use Rattle.bson_laws.specs.CompactReads.{reads_at}
use Rattle.bson_laws.specs.Judged.{Reading}
use Rattle.bson_laws.specs.Reads as at_settled
use Rattle.bson_laws.specs.Settled.{settled, settled_fields, settled_parts}
use Rattle.bson_laws.specs.Slots as slots
use Rattle.bson_laws.specs.Slots.{Slots}

-- the value that a node is
abbrev pub reads : Form → Node → Reading Marked
reads s = reads_at s

-- ---- its parts: those of a tuple, the fields of a struct, and the value of a field that is missing

abbrev pub reads_parts : Parts → ℕ → Nodes → Reading MarkedItems
reads_parts ps = at_settled.reads_parts (settled_parts false ps)

abbrev pub slots_of : Fields → Slots
slots_of fs = at_settled.slots_of (settled_fields false fs)

abbrev pub missing_value : {T : Type 0} → Form → Option (ValueOf T)
missing_value s = slots.missing_value (settled false s)
