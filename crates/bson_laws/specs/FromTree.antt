-- The rows of reading that depend on what a value is read from: bytes, or a tree in memory. Source: serde's data model.
use Rattle.std.specs.Prelude.{Some, None, Option, Ok, Err}
use Rattle.bson_kinds.specs.Text.{Utf8}
use Rattle.bson_kinds.specs.Outcome.{◌>>=◌}
use Rattle.bson_kinds.specs.declared.element_type.ElementType.TheVariants as kinds
use Rattle.bson_rawdoc.specs.Node.{Node, string, document, Nodes, ended, faulty, then_node, kind_of, mended}
use Rattle.bson_kinds.specs.Piece.{Piece, made}
use Rattle.bson_shape.specs.Form.{dropped, Content, unit_content, Variants}
use Rattle.bson_values.specs.Value as value
use Rattle.bson_values.specs.Marked.{Marked, MarkedFields}
use Rattle.bson_values.specs.Cause.{raw, invalid_type, unknown_variant, unit_in_document, empty_enum, extra_key}
use Rattle.bson_values.specs.Refusal.{end_of_stream, here, under}
use Rattle.bson_laws.specs.declared.origin.Origin.{Origin}
use Rattle.bson_laws.specs.declared.origin.Origin.TheVariants.{Bytes, Tree}
use Rattle.bson_laws.specs.Variants.{content_of}
use Rattle.bson_laws.specs.Judged.{Reading, refused}
use Rattle.bson_laws.specs.Taken.{document_of}
use Rattle.bson_laws.specs.Containers.{Pair, unit_of, reads_unit, read_first, read_enum}
use Rattle.bson_laws.specs.Slots.{Slots, fill, finish, read_structure}

-- ---- texts that are mended

-- a value whose texts are mended; those of a tree are texts as they are
abbrev pub mended_at : Origin → Node → Node
mended_at Bytes n = mended n
mended_at Tree n = n

-- ---- enums

-- the unit variant that a text of a tree names; where the variant has contents, the text ends before them
abbrev pub tree_unit_of : Utf8 → Option Content → Reading Marked
tree_unit_of name None = refused (unknown_variant name)
tree_unit_of name (Some unit_content) = Ok (value.unit_variant (made name))
tree_unit_of name (Some c) = Err (here end_of_stream)

abbrev pub reads_tree_unit : Variants → Piece → Reading Marked
reads_tree_unit vs t = tree_unit_of t.bytes (content_of vs t.bytes)

-- the unit variant of a name, of which these are the contents
abbrev pub unit_named : Origin → Utf8 → Option Content → Reading Marked
unit_named Bytes = unit_of
unit_named Tree = tree_unit_of

abbrev pub unit_at : Origin → Variants → Piece → Reading Marked
unit_at Bytes = reads_unit
unit_at Tree = reads_tree_unit

-- the one element of a document of a tree (whose list has no fault)
abbrev pub only_of : Nodes → Reading Pair
only_of ended = refused empty_enum
only_of (faulty e) = refused (raw e)
only_of (then_node k n ended) = Ok (record { key = k; value = n })
only_of (then_node k n (faulty e)) = refused (raw e)
only_of (then_node k n (then_node other m ns)) = refused (extra_key other.bytes)

-- the same at the variant that its key names; that there is none, or a second one, is seen before the name
abbrev pub read_only : (Utf8 → Node → Reading Marked) → Nodes → Reading Marked
read_only contents ns = only_of ns >>= λ (p : Pair). contents p.key.bytes p.value

abbrev pub element_at : Origin → (Utf8 → Node → Reading Marked) → Nodes → Reading Marked
element_at Bytes = read_first
element_at Tree = read_only

-- a text at the unit variant that it names, a document at the variant that its one key names
abbrev pub read_tree_enum : (Piece → Reading Marked) → (Utf8 → Node → Reading Marked) → Node → Reading Marked
read_tree_enum unit contents (string name) = unit name
read_tree_enum unit contents n = document_of n >>= read_only contents

abbrev pub enum_at : Origin → (Piece → Reading Marked) → (Utf8 → Node → Reading Marked) → Node → Reading Marked
enum_at Bytes = read_enum
enum_at Tree = read_tree_enum

-- ---- the contents of variants

-- A unit variant has no contents: in bytes it is refused at the document, before the value is looked at. In a tree it has some, which are read as a tree and
-- dropped.
abbrev pub unit_content_at : Origin → Utf8 → (contents : Reading Marked) → Reading Marked
unit_content_at Bytes name contents = refused unit_in_document
unit_content_at Tree name contents = under name contents >>= λ _. Ok (value.unit_variant (made name))

-- the contents of a tuple variant are an array, which is not empty in a tree, and whose list has no fault there
abbrev pub tuple_content_at : Origin → (Nodes → Reading Marked) → Nodes → Reading Marked
tuple_content_at Bytes read ns = read ns
tuple_content_at Tree read ended = refused (invalid_type kinds.Null)
tuple_content_at Tree read (faulty e) = refused (raw e)
tuple_content_at Tree read (then_node key n ns) = read (then_node key n ns)

-- the contents of a struct variant are taken as a struct's are; in a tree they are a document
abbrev pub struct_content_at : Origin → Slots → Node → Reading MarkedFields
struct_content_at Bytes slots n = read_structure dropped slots n
struct_content_at Tree slots (document slice ns) = fill dropped ns slots >>= finish
struct_content_at Tree slots n = refused (invalid_type (kind_of n))
