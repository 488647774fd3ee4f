-- What contracts see of values without a shape. Source: serde's data model.
use Rattle.std.specs.Prelude.{ℕ, zero, Bool, true, false}
use Rattle.bson_kinds.specs.Outcome.{◌>>=◌}
use Rattle.bson_rawdoc.specs.Node.{Node, inner_node, value_node}
use Rattle.bson_rawdoc.specs.RawValue.{RawValue, double, string, document, array, binary, boolean, null, int32, int64}
use Rattle.bson_values.specs.Marked.{Marked, MarkedItems, MarkedEntries}
use Rattle.bson_values.specs.Value.{no_entries}
use Rattle.bson_laws.specs.Judged.{Reading, judged, with_level}
use Rattle.bson_laws.specs.ReadsLeaf.{read_any, any_items, any_entries}
use Rattle.bson_met.specs.MetView.{array_at, document_at}

-- a value, judged and read without a shape
abbrev pub any_at : Node → Reading Marked
any_at n = judged n >>= read_any

-- a value of the input without a fault, where so many levels are left for it
abbrev pub any_within : ℕ → RawValue → Reading Marked
any_within levels v = with_level (value_node (inner_node levels) v) >>= read_any

-- a value of the input that is read as the document that it is opened to
abbrev pub is_opened : RawValue → Bool
is_opened (double d) = false
is_opened (string t) = false
is_opened (document d) = false
is_opened (array d) = false
is_opened (binary zero d) = false
is_opened (boolean b) = false
is_opened null = false
is_opened (int32 n) = false
is_opened (int64 n) = false
is_opened v = true

-- the values in the array that a node is
abbrev pub any_items_at : Node → Reading MarkedItems
any_items_at n = array_at n >>= any_items 0

-- the entries of the document that a node is or is opened to
abbrev pub any_entries_at : Node → Reading MarkedEntries
any_entries_at n = document_at n >>= λ ns. any_entries ns no_entries
