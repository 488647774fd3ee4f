-- What contracts see of values at the leaves of extended kinds. Source: serde's data model.
use Rattle.std.specs.Prelude.{Bool, true, false}
use Rattle.bson_kinds.specs.Outcome.{◌>>=◌, result_map}
use Rattle.bson_kinds.specs.Text.{Bytes, Utf8}
use Rattle.bson_base.specs.Tree as tree
use Rattle.bson_base.specs.Tree.{Tree, Pairs}
use Rattle.bson_kinds.specs.declared.element_type.ElementType.{ElementType}
use Rattle.bson_rawdoc.specs.Node.{Node, Nodes}
use Rattle.bson_kinds.specs.Piece.{made}
use Rattle.bson_values.specs.Marked.{Marked}
use Rattle.bson_values.specs.declared.wrapper.Wrapper.{Wrapper}
use Rattle.bson_values.specs.declared.wrapper.Wrapper.TheVariants.{Oid, Binary, Uuid}
use Rattle.bson_laws.specs.Datum.{datum, uuid_datum}
use Rattle.bson_laws.specs.Judged.{Reading, judged}
use Rattle.bson_laws.specs.ReadsExtended.{object_id_at, uuid_at, uuid_in, tree_of_kind, with_length}
use Rattle.bson_laws.specs.Trees.{as_tree, document_tree, pairs_in, or_bad}
use Rattle.bson_laws.specs.Wrapped.{id_of_text}
use Rattle.bson_trees.specs.Trees.{tree_under, wrapped_tree}

-- a value of a kind, and a tree of it
abbrev pub kind_from : ElementType → Node → Reading Marked
kind_from k n = judged n >>= λ m. result_map (datum made) (as_tree m >>= tree_of_kind k)

abbrev pub kind_of_tree : ElementType → Tree → Reading Marked
kind_of_tree k t = result_map (datum made) (tree_of_kind k t)

-- a document
abbrev pub documents_from : Node → Reading Marked
documents_from n = judged n >>= λ m. result_map (λ ps. datum made (tree.document ps)) (as_tree m >>= pairs_in)

-- an ObjectId, that of digits, and that of bytes
abbrev pub object_id_from : Node → Reading Marked
object_id_from n = judged n >>= λ m. result_map (datum made) (object_id_at m)

abbrev pub id_of_digits : Utf8 → Reading Marked
id_of_digits t = result_map (datum made) (or_bad Oid (id_of_text t))

abbrev pub id_of_bytes : Bytes → Reading Marked
id_of_bytes b = result_map (datum made) (result_map tree.object_id (with_length 12 b))

-- ---- UUIDs

abbrev pub uuid_from : Node → Reading Bytes
uuid_from n = judged n >>= uuid_at

abbrev pub uuid_datum_from : Node → Reading Marked
uuid_datum_from n = judged n >>= λ m. result_map (uuid_datum made) (uuid_at m)

-- from the elements of a document, after the pairs of those before them
abbrev pub uuid_elements : Nodes → Pairs → Reading Bytes
uuid_elements ns ps = document_tree ns ps >>= uuid_in

-- from a wrapper key on: the key, its value, and the elements behind it
abbrev pub uuid_wrapped : Wrapper → Utf8 → Node → Nodes → Reading Bytes
uuid_wrapped w key n ns = wrapped_tree w key n ns >>= uuid_in

-- the value at a key, read as a tree and dropped
abbrev pub tree_passed : Utf8 → Node → Reading (Unit {0})
tree_passed key n = result_map (λ _. tt) (tree_under key n)

-- whether a wrapper key makes binaries
abbrev pub makes_binary : Wrapper → Bool
makes_binary Binary = true
makes_binary Uuid = true
makes_binary w = false
