-- Reading a value at a shape, in bytes or from a tree, whatever its leaves take. Source: serde's data model.
use Rattle.std.specs.Prelude.{ℕ, suc, Bool, false, [], ◌∷◌, if◌then◌else◌, None, Ok}
use Rattle.std.specs.Str.{bytes_eq}
use Rattle.bson_kinds.specs.Text.{Utf8}
use Rattle.bson_kinds.specs.Outcome.{◌>>=◌, result_map}
use Rattle.bson_rawdoc.specs.Node.{Node, Nodes}
use Rattle.bson_kinds.specs.Piece.{made}
use Rattle.bson_shape.specs.Form.{Form, leaf, optional, lossy, human_readable, by_mode, sequence, newtype, unit_structure, map, tuple, tuple_structure, structure, enumeration, reference, definitions, Fields, no_fields, field, Parts, no_parts, part, Content, unit_content, newtype_content, tuple_content, struct_content, Variants, no_variants, variant}
use Rattle.bson_values.specs.Value as value
use Rattle.bson_values.specs.Value.{readable_newtype, no_items, item, no_entries}
use Rattle.bson_values.specs.Marked.{Marked, MarkedItems}
use Rattle.bson_values.specs.Cause.{unknown_variant, unknown_reference}
use Rattle.bson_values.specs.Refusal.{under}
use Rattle.bson_laws.specs.declared.origin.Origin.{Origin}
use Rattle.bson_laws.specs.Leaves.{LeafKind, extended_values, trees, leaf_kind}
use Rattle.bson_laws.specs.Judged.{Reading, refused, judged}
use Rattle.bson_laws.specs.Taken.{null_of, document_of, array_of}
use Rattle.bson_laws.specs.ReadsLeaf.{borrows}
use Rattle.bson_laws.specs.Containers.{reads_option, reads_items, reads_next, reads_key, reads_entries}
use Rattle.bson_laws.specs.Slots.{Slots, missing_value, read_structure}
use Rattle.bson_laws.specs.FromTree.{mended_at, unit_at, enum_at, unit_content_at, tuple_content_at, struct_content_at}

-- how a judged value is read at a leaf of a kind, which borrows its text or not, is given
module _ (origin : Origin) (read_leaf : (is_borrowing : Bool) → LeafKind → Node → Reading Marked) where
  abbrev mutual
    -- The value that a node is at a settled form, whose two forms of a value are the same. At a form whose texts are mended it is what the mended value is. A
    -- reference here is one that has no definition, and definitions are seen through: other references are replaced before.
    pub reads : Form → Node → Reading Marked
    reads (leaf l) n = judged n >>= read_leaf (borrows l) (leaf_kind l)
    reads (optional s) n = reads_option n (reads s n)
    reads (lossy s) n = reads s (mended_at origin n)
    reads (human_readable s) n = result_map (value.newtype (made readable_newtype)) (reads s n)
    reads (by_mode readable compact) n = reads compact n
    reads (newtype name s) n = result_map (value.newtype (made name)) (reads s n)
    reads (unit_structure name) n = judged n >>= null_of >>= λ _. Ok (value.unit_structure (made name))
    reads (sequence s) n = judged n >>= array_of >>= λ ns. result_map value.sequence (reads_items (reads s) 0 ns)
    reads (map key s) n = judged n >>= document_of >>= λ ns. result_map value.map (reads_entries (reads_key key) (reads s) ns no_entries)
    reads (tuple ps) n = judged n >>= array_of >>= λ ns. result_map value.tuple (reads_parts ps 0 ns)
    reads (tuple_structure name ps) n = judged n >>= array_of >>= λ ns. result_map (value.tuple_structure (made name)) (reads_parts ps 0 ns)
    reads (structure u name fs) n = judged n >>= λ m. result_map (value.structure (made name)) (read_structure u (slots_of fs) m)
    reads (enumeration vs) n = judged n >>= enum_at origin (unit_at origin vs) (reads_variant vs)
    reads (reference name) n = judged n >>= λ _. refused (unknown_reference name)
    reads (definitions h s) n = reads s n

    -- the parts of a tuple in their order from the elements of an array from this index on; further elements and a fault behind them stay unread
    pub reads_parts : Parts → ℕ → Nodes → Reading MarkedItems
    reads_parts no_parts i ns = Ok no_items
    reads_parts (part s ps) i ns = reads_next i (reads s) (λ v rest. result_map (item v) (reads_parts ps (suc i) rest)) ns

    -- the fields of a struct, for which no value has been read yet
    pub slots_of : Fields → Slots
    slots_of no_fields = []
    slots_of (field name s fs) = record { name = name; missing = missing_value s; read = reads s; value = None } ∷ slots_of fs

    -- the value at a key at the variant that the key names
    pub reads_variant : Variants → Utf8 → Node → Reading Marked
    reads_variant no_variants key n = refused (unknown_variant key)
    reads_variant (variant name c vs) key n = if bytes_eq name key then reads_content name c n else reads_variant vs key n

    -- the contents of a variant
    pub reads_content : Utf8 → Content → Node → Reading Marked
    reads_content name unit_content n = unit_content_at origin name (judged n >>= read_leaf false (extended_values trees))
    reads_content name (newtype_content s) n = under name (result_map (value.newtype_variant (made name)) (reads s n))
    reads_content name (tuple_content ps) n = under name (judged n >>= array_of >>= λ ns. tuple_content_at origin (λ ms. result_map (value.tuple_variant (made name)) (reads_parts ps 0 ms)) ns)
    reads_content name (struct_content fs) n = under name (judged n >>= λ m. result_map (value.structure_variant (made name)) (struct_content_at origin (slots_of fs) m))
