-- Reading from a tree in memory by example: what differs from reading in bytes.
use Rattle.std.proofs.Common.{◌≡◌, pos, [], ◌∷◌, true, false, Ok, Err, refl, arith}
use Rattle.std.specs.Prelude.{codes}
use Rattle.std.specs.Str.{is_utf8}
use Rattle.bson_kinds.specs.Text.{Bytes, Utf8}
use Rattle.bson_base.specs.Tree as tree
use Rattle.bson_base.specs.Tree.{Tree, le32, le64, enc}
use Rattle.bson_kinds.specs.declared.element_type.ElementType.TheVariants.{EmbeddedDocument, Array, Null, ObjectId, Int32}
use Rattle.bson_rawdoc.specs.Node.{Node, string, null, boolean, int32, made_document, too_deep, ended, then_node}
use Rattle.bson_kinds.specs.Piece.{made}
use Rattle.bson_shape.specs.Form.{dropped, Form, leaf, lossy, map, structure, enumeration, Parts, no_parts, no_fields, field, unit_content, tuple_content, struct_content, no_variants, variant}
use Rattle.bson_shape.specs.declared.leaf.Leaf.TheVariants as leaves
use Rattle.bson_shape.proofs.TextStates.{text-one}
use Rattle.bson_values.specs.Value as value
use Rattle.bson_values.specs.Value.{no_field_values, field_value}
use Rattle.bson_values.specs.Cause as causes
use Rattle.bson_values.specs.Wrapper.{of_key}
use Rattle.bson_values.specs.Refusal.{at_key, end_of_stream, here, unreadable}
use Rattle.bson_laws.specs.declared.origin.Origin.TheVariants as origins
use Rattle.bson_values.specs.Marked.{Marked}
use Rattle.bson_laws.specs.Judged.{Reading}
use Rattle.bson_laws.specs.ReadsFrom.{reads_from, reads_tree}

-- a tree in memory, read at a form
abbrev from_tree : Form → Node → Reading Marked
from_tree = reads_from origins.Tree

-- ---- what is borrowed

-- a text or a byte string cannot be borrowed, whatever the value is; a document where no level is left is too deep first
str_of_null : from_tree (leaf leaves.Str) null ≡ Err (here (unreadable causes.not_borrowed))
str_of_null = refl

bytes_of_number : from_tree (leaf leaves.Bytes) (int32 (pos 5)) ≡ Err (here (unreadable causes.not_borrowed))
bytes_of_number = refl

str_too_deep : from_tree (leaf leaves.Str) (too_deep EmbeddedDocument) ≡ Err (here (unreadable causes.too_deep))
str_too_deep = refl

-- nor can a key be, whose refusal is that of the map
key_of_map : (k : Utf8) (t : Tree) → reads_tree false (map (leaf leaves.Str) (leaf leaves.Any)) (tree.document (tree.pair k t tree.no_pairs)) ≡ Err (here (unreadable causes.not_borrowed))
key_of_map k t = refl

-- a text without a shape is owned
text_owned : (t : Utf8) → is_utf8 t ≡ true → reads_tree false (leaf leaves.Any) (tree.string t) ≡ Ok (value.str (made t))
text_owned t h = rw h refl

-- a mark makes nothing of a tree
mark_unseen : (s : Form) (n : Node) → from_tree (lossy s) n ≡ from_tree s n
mark_unseen s n = refl

-- ---- enums

abbrev one_unit : Form
one_unit = enumeration (variant (codes "A") unit_content no_variants)

abbrev one_tuple : Parts → Form
one_tuple ps = enumeration (variant (codes "T") (tuple_content ps) no_variants)

abbrev one_struct : Form
one_struct = enumeration (variant (codes "S") (struct_content no_fields) no_variants)

-- an empty document, and one of two keys, are refused before any name is looked at
enum_empty : from_tree one_unit (made_document ended) ≡ Err (here (unreadable causes.empty_enum))
enum_empty = refl

enum_two : (n m : Node) → from_tree one_unit (made_document (then_node (made (codes "B")) n (then_node (made (codes "C")) m ended))) ≡ Err (here (unreadable (causes.extra_key (codes "C"))))
enum_two n m = refl

enum_unknown : (n : Node) → from_tree one_unit (made_document (then_node (made (codes "B")) n ended)) ≡ Err (here (unreadable (causes.unknown_variant (codes "B"))))
enum_unknown n = refl

-- the contents of a unit variant are read as a tree and dropped
unit_dropped : from_tree one_unit (made_document (then_node (made (codes "A")) (boolean true) ended)) ≡ Ok (value.unit_variant (made (codes "A")))
unit_dropped = refl

unit_too_deep : from_tree one_unit (made_document (then_node (made (codes "A")) (too_deep Array) ended)) ≡ Err (record { path = at_key (codes "A") ∷ []; fault = unreadable causes.too_deep })
unit_too_deep = refl

-- a text that names a variant with contents ends before them
text_ends : from_tree (one_tuple no_parts) (string (made (codes "T"))) ≡ Err (here end_of_stream)
text_ends = rw (text-one 84 (omega arith)) refl

-- an empty array is no contents of a tuple variant, not even of one without parts
tuple_empty : reads_tree false (one_tuple no_parts) (tree.document (tree.pair (codes "T") (tree.array tree.no_trees) tree.no_pairs)) ≡ Err (record { path = at_key (codes "T") ∷ []; fault = unreadable (causes.invalid_type Null) })
tuple_empty = refl

-- an array is no contents of a struct variant, nor is an extended value
struct_of_array : reads_tree false one_struct (tree.document (tree.pair (codes "S") (tree.array tree.no_trees) tree.no_pairs)) ≡ Err (record { path = at_key (codes "S") ∷ []; fault = unreadable (causes.invalid_type Array) })
struct_of_array = refl

struct_of_id : (id : Bytes) → reads_tree false one_struct (tree.document (tree.pair (codes "S") (tree.object_id id) tree.no_pairs)) ≡ Err (record { path = at_key (codes "S") ∷ []; fault = unreadable (causes.invalid_type ObjectId) })
struct_of_id id = refl

struct_of_document : reads_tree false one_struct (tree.document (tree.pair (codes "S") (tree.document tree.no_pairs) tree.no_pairs)) ≡ Ok (value.structure_variant (made (codes "S")) no_field_values)
struct_of_document = refl

-- ---- what is put in bytes

-- a document in its bytes, which are owned
raw_empty : reads_tree false (leaf leaves.RawDocument) (tree.document tree.no_pairs) ≡ Ok (value.raw_document (made (5 ∷ 0 ∷ 0 ∷ 0 ∷ 0 ∷ [])))
unfolding le32
raw_empty = refl

-- an array is built first, and of another kind then
raw_array_at_document : reads_tree false (leaf leaves.RawDocument) (tree.array tree.no_trees) ≡ Err (here (unreadable (causes.invalid_type Array)))
unfolding le32
raw_array_at_document = refl

-- one that opening makes is a document as it stands
raw_of_opening : reads_tree false (structure dropped (codes "D") (field (codes "$timestamp") (leaf leaves.RawDocument) no_fields)) (tree.timestamp 1 2)
    ≡ Ok (value.structure (made (codes "D")) (field_value (made (codes "$timestamp")) (value.raw_document (made (enc (tree.document (tree.pair (codes "t") (tree.int64 (pos 1)) (tree.pair (codes "i") (tree.int64 (pos 2)) tree.no_pairs)))))) no_field_values))
unfolding of_key le32 le64
raw_of_opening = refl

-- a number stays what it is
raw_number : reads_tree false (leaf leaves.RawBson) (tree.int32 (pos 5)) ≡ Ok (value.integer value.i32 (pos 5))
raw_number = refl

raw_number_at_document : reads_tree false (leaf leaves.RawDocument) (tree.int32 (pos 5)) ≡ Err (here (unreadable (causes.invalid_type Int32)))
raw_number_at_document = refl
