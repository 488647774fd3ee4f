-- Reading arrays, maps, enums and options, whose parts are read by what is passed for them. Source: serde's data model.
use Rattle.std.specs.Prelude.{ℕ, suc, Option, Some, None, Ok, Err}
use Rattle.bson_kinds.specs.Text.{Utf8}
use Rattle.bson_kinds.specs.Outcome.{◌>>=◌, result_map}
use Rattle.bson_kinds.specs.declared.element_type.ElementType.TheVariants.{String}
use Rattle.bson_rawdoc.specs.Node.{Node, string, null, Nodes, ended, faulty, then_node}
use Rattle.bson_kinds.specs.Piece.{Piece, made}
use Rattle.bson_shape.specs.Form.{Form, leaf, enumeration, Content, unit_content, Variants}
use Rattle.bson_values.specs.Value as value
use Rattle.bson_values.specs.Value.{no_items, item}
use Rattle.bson_values.specs.Marked.{Marked, MarkedItems, MarkedEntries}
use Rattle.bson_values.specs.Cause.{raw, invalid_type, invalid_length, unknown_variant, contents_wanted}
use Rattle.bson_values.specs.Refusal.{end_of_stream, here, under, under_index}
use Rattle.bson_laws.specs.Leaves.{leaf_kind}
use Rattle.bson_laws.specs.Variants.{content_of}
use Rattle.bson_laws.specs.Judged.{Reading, refused}
use Rattle.bson_laws.specs.Taken.{document_of}
use Rattle.bson_laws.specs.ReadsLeaf.{put_entry, borrows, no_extended, read_leaf_with}

-- ---- options

-- null at an option, and a value of its form elsewhere; an option looks at the kind alone
abbrev pub reads_option : Node → Reading Marked → Reading Marked
reads_option null r = Ok value.none
reads_option n r = result_map value.some r

-- ---- arrays

-- the values in an array from this index on, up to the fault that ends their list
abbrev pub reads_items : (Node → Reading Marked) → ℕ → Nodes → Reading MarkedItems
reads_items read i ended = Ok no_items
reads_items read i (faulty e) = refused (raw e)
reads_items read i (then_node key n ns) = under_index i (read n) >>= λ v. result_map (item v) (reads_items read (suc i) ns)

-- the next element, at an index; where none is left, a fault that ends the list comes before that there are too few
abbrev pub next_node : ℕ → Nodes → Reading Node
next_node i ended = refused (invalid_length i)
next_node i (faulty e) = refused (raw e)
next_node i (then_node key n ns) = Ok n

-- what is left behind it
abbrev pub behind_first : Nodes → Nodes
behind_first ended = ended
behind_first (faulty e) = ended
behind_first (then_node key n ns) = ns

-- its value
abbrev pub next_value : ℕ → (Node → Reading Marked) → Nodes → Reading Marked
next_value i read ns = next_node i ns >>= λ n. under_index i (read n)

-- its value, and then what is read from the others
abbrev pub reads_next : {A : Type 0} → ℕ → (Node → Reading Marked) → (Marked → Nodes → Reading A) → Nodes → Reading A
reads_next i read others ns = next_value i read ns >>= λ v. others v (behind_first ns)

-- ---- enums

-- the unit variant that a text names
abbrev pub unit_of : Utf8 → Option Content → Reading Marked
unit_of name None = refused (unknown_variant name)
unit_of name (Some unit_content) = Ok (value.unit_variant (made name))
unit_of name (Some c) = refused contents_wanted

abbrev pub reads_unit : Variants → Piece → Reading Marked
reads_unit vs t = unit_of t.bytes (content_of vs t.bytes)

-- a value with its key
pub record Pair : Type 0 where
  pub key : Piece
  pub value : Node

-- the first element of a document; an empty document has none, and further elements stay unread
abbrev pub first_of : Nodes → Reading Pair
first_of ended = Err (here end_of_stream)
first_of (faulty e) = refused (raw e)
first_of (then_node k n ns) = Ok (record { key = k; value = n })

-- the same at the variant that its key names
abbrev pub read_first : (Utf8 → Node → Reading Marked) → Nodes → Reading Marked
read_first contents ns = first_of ns >>= λ (p : Pair). contents p.key.bytes p.value

-- a text at the unit variant that it names, a document at the variant with contents that its first key names
abbrev pub read_enum : (Piece → Reading Marked) → (Utf8 → Node → Reading Marked) → Node → Reading Marked
read_enum unit contents (string name) = unit name
read_enum unit contents n = document_of n >>= read_first contents

-- ---- maps

-- the key of a map, read at the shape of keys as the text of an element would be; it is never mended, and its refusal is that of the map. The makers of maps
-- let through `str`, `string`, `char` and enums of unit variants; no other shape of keys occurs
abbrev pub reads_key : Form → Piece → Reading Marked
reads_key (leaf l) key = read_leaf_with no_extended (borrows l) (leaf_kind l) (string key)
reads_key (enumeration vs) key = reads_unit vs key
reads_key s key = refused (invalid_type String)

-- The entries of a map from the elements of a document, put to those before them, up to the fault that ends the list. A key is read before its
-- value, and its refusal is that of the document.
abbrev pub reads_entries : (Piece → Reading Marked) → (Node → Reading Marked) → Nodes → MarkedEntries → Reading MarkedEntries
reads_entries read_key read ended es = Ok es
reads_entries read_key read (faulty e) es = refused (raw e)
reads_entries read_key read (then_node key n ns) es = read_key key >>= λ k. under key.bytes (read n) >>= λ v. reads_entries read_key read ns (put_entry k v es)
