-- What contracts see of the fields of a struct that are read, each into its slot. Source: serde's data model.
use Rattle.std.specs.Prelude.{Bool, if◌then◌else◌}
use Rattle.bson_kinds.specs.Outcome.{◌>>=◌}
use Rattle.bson_rawdoc.specs.Node.{Node, Nodes}
use Rattle.bson_shape.specs.Form.{UnknownFields, dropped, denied}
use Rattle.bson_values.specs.Marked.{MarkedFields}
use Rattle.bson_laws.specs.Judged.{Reading, judged}
use Rattle.bson_laws.specs.Slots.{Slots, fill, finish, read_structure}

-- what becomes of an unknown field, at a struct that is closed or not
abbrev pub unknown_of : (closed : Bool) → UnknownFields
unknown_of closed = if closed then denied else dropped

-- the fields of a value at a struct that is not closed, and those from the elements of a document at each struct
abbrev pub fields_read : Slots → Node → Reading MarkedFields
fields_read slots n = judged n >>= read_structure dropped slots

abbrev pub fields_by_key : UnknownFields → Slots → Nodes → Reading MarkedFields
fields_by_key u slots ns = fill u ns slots >>= finish
