-- Reading a value at an extended leaf. Source: the extended types of MongoDB's crate bson, version 2.
use Rattle.std.specs.Prelude.{ℕ, ◌&&◌, ◌||◌, if◌then◌else◌, Option, Some, None, Ok, length, nat_eq}
use Rattle.uuid.specs.Text.{parsed}
use Rattle.bson_kinds.specs.Kind.{byte}
use Rattle.bson_kinds.specs.Outcome.{◌>>=◌, result_map}
use Rattle.bson_kinds.specs.Text.{Bytes}
use Rattle.bson_base.specs.Tree as tree
use Rattle.bson_base.specs.Tree.{Tree, kind}
use Rattle.bson_kinds.specs.declared.element_type.ElementType.{ElementType}
use Rattle.bson_kinds.specs.declared.element_type.ElementType.TheVariants as kinds
use Rattle.bson_rawdoc.specs.Node.{Node, string, document, bytes, extended, binary, object_id, kind_of}
use Rattle.bson_kinds.specs.Piece.{made}
use Rattle.bson_values.specs.Cause as cause
use Rattle.bson_values.specs.Cause.{invalid_type, invalid_length, bad_body, wrong_kind}
use Rattle.bson_values.specs.Marked.{Marked}
use Rattle.bson_values.specs.declared.wrapper.Wrapper.TheVariants.{Oid, Uuid}
use Rattle.bson_laws.specs.Datum.{datum, uuid_datum}
use Rattle.bson_laws.specs.Judged.{Reading, refused}
use Rattle.bson_laws.specs.Leaves.{ExtendedLeaf, object_ids, uuids, of_kind, trees, documents}
use Rattle.bson_laws.specs.Trees.{as_tree, pairs_in, or_bad}
use Rattle.bson_laws.specs.Wrapped.{id_of_text}

-- a tree of this kind
abbrev pub tree_of_kind : ElementType → Tree → Reading Tree
tree_of_kind k t = if nat_eq (byte (kind t)) (byte k) then Ok t else refused (wrong_kind (kind t))

-- as many bytes as these
abbrev pub with_length : ℕ → Bytes → Reading Bytes
with_length n b = if nat_eq (length b) n then Ok b else refused (invalid_length (length b))

-- an ObjectId, its digits, its twelve bytes, or a document that stands for one
abbrev pub object_id_at : Node → Reading Tree
object_id_at (extended (object_id id) ns) = Ok (tree.object_id id.bytes)
object_id_at (string t) = or_bad Oid (id_of_text t.bytes)
object_id_at (bytes u b) = result_map tree.object_id (with_length 12 b.bytes)
object_id_at (document slice ns) = as_tree (document slice ns) >>= tree_of_kind kinds.ObjectId
object_id_at n = refused (invalid_type (kind_of n))

abbrev pub or_bad_uuid : Option Bytes → Reading Bytes
or_bad_uuid (Some b) = Ok b
or_bad_uuid None = refused (bad_body Uuid)

-- the sixteen bytes of a binary that may be a UUID
abbrev pub uuid_in : Tree → Reading Bytes
uuid_in (tree.binary subtype b) = if (nat_eq subtype 0 || nat_eq subtype 4) && nat_eq (length b) 16 then Ok b else refused (wrong_kind kinds.Binary)
uuid_in t = refused (wrong_kind (kind t))

-- a binary of subtype 4, the text of a UUID, or a document that stands for a binary
abbrev pub uuid_at : Node → Reading Bytes
uuid_at (bytes u b) = refused (cause.subtype 0)
uuid_at (extended (binary subtype b) ns) = if nat_eq subtype 4 then with_length 16 b.bytes else refused (cause.subtype subtype)
uuid_at (string t) = or_bad_uuid (parsed t.bytes)
uuid_at (document slice ns) = as_tree (document slice ns) >>= uuid_in
uuid_at n = refused (invalid_type (kind_of n))

-- A judged value at an extended leaf. All texts and byte strings of what is read are owned.
abbrev pub read_extended : ExtendedLeaf → Node → Reading Marked
read_extended object_ids n = result_map (datum made) (object_id_at n)
read_extended uuids n = result_map (uuid_datum made) (uuid_at n)
read_extended (of_kind k) n = result_map (datum made) (as_tree n >>= tree_of_kind k)
read_extended trees n = result_map (datum made) (as_tree n)
read_extended documents n = result_map (λ ps. datum made (tree.document ps)) (as_tree n >>= pairs_in)
