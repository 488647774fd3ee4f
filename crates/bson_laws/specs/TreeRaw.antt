-- Reading a judged value of a tree in memory in its bytes, which the raw builder makes. Source: the raw types of MongoDB's crate bson, version 2.
use Rattle.std.specs.Prelude.{zero, nat_eq, if◌then◌else◌, Option, Some, None, option_and_then, Ok, Err}
use Rattle.bson_kinds.specs.Kind.{byte}
use Rattle.bson_kinds.specs.Outcome.{◌>>=◌, result_map}
use Rattle.bson_base.specs.Pairs.{put}
use Rattle.bson_base.specs.Tree as tree
use Rattle.bson_base.specs.Tree.{Tree, Pairs, no_pairs, kind, enc}
use Rattle.bson_kinds.specs.declared.element_type.ElementType.{ElementType}
use Rattle.bson_rawdoc.specs.Node.{Whole, of_tree, of_opening, Node, string, document, array, bytes, boolean, int32, int64, extended, Nodes, ended, faulty, then_node, javascript_code_with_scope, from_memory, tree_node, kind_of}
use Rattle.bson_kinds.specs.Piece.{Piece, made}
use Rattle.bson_values.specs.Cause.{raw, invalid_type, not_borrowed}
use Rattle.bson_values.specs.Marked.{Marked}
use Rattle.bson_values.specs.Refusal.{under}
use Rattle.bson_values.specs.Value as value
use Rattle.bson_laws.specs.Judged.{Reading, refused, judged, scope_key}
use Rattle.bson_laws.specs.ReadsRaw.{scoped_code, raw_value_of}
use Rattle.bson_laws.specs.Unmarked.{with_document}
use Rattle.bson_laws.specs.Assembled.{Building, assembled_tree}

-- ---- the value that is put in bytes

-- the tree in memory that a document or an array is, if it is one
abbrev pub held_whole : Whole → Option Tree
held_whole (of_tree t) = Some t
held_whole w = None

-- the tree that a scope is
abbrev pub held_scope : Node → Option Tree
held_scope (document w ns) = held_whole w
held_scope n = None

-- the tree that a document, an array or a code with a scope is, with all its levels
abbrev pub held : Node → Option Tree
held (document w ns) = held_whole w
held (array w ns) = held_whole w
held (extended (javascript_code_with_scope code scope) ns) = option_and_then (with_document code.bytes) (held_scope scope)
held n = None

abbrev mutual
  -- A value in a document that opening makes: a text, an Int64 or such a document. The other rows are there so that it is whole.
  pub opened_tree : Node → Reading Tree
  opened_tree (string t) = Ok (tree.string t.bytes)
  opened_tree (bytes u b) = Ok (tree.binary 0 b.bytes)
  opened_tree (boolean b) = Ok (tree.boolean b)
  opened_tree (int32 n) = Ok (tree.int32 n)
  opened_tree (int64 n) = Ok (tree.int64 n)
  opened_tree (document w ns) = result_map tree.document (opened_pairs ns no_pairs)
  opened_tree n = Ok tree.null

  -- Such a document as it stands, after the pairs of the elements before these. Each value is judged first; in a tree none is refused, and no list has a fault.
  pub opened_pairs : Nodes → Pairs → Reading Pairs
  opened_pairs ended ps = Ok ps
  opened_pairs (faulty e) ps = refused (raw e)
  opened_pairs (then_node key n ns) ps = (judged n >>= λ _. opened_tree n) >>= λ t. opened_pairs ns (put key.bytes t ps)

-- what is built: a refusal of the builder is one of the value itself
abbrev pub as_reading : Building Tree → Reading Tree
as_reading (Ok t) = Ok t
as_reading (Err c) = refused c

-- what the raw builder makes of a value in memory; one that is not in memory is not put in bytes, but a tree has no such value
abbrev pub built_of : Option Tree → Reading Tree
built_of (Some t) = as_reading (assembled_tree t)
built_of None = refused not_borrowed

abbrev pub read_built : Node → Reading Tree
read_built (document of_opening ns) = opened_pairs ns no_pairs >>= λ ps. as_reading (assembled_tree (tree.document ps))
read_built n = built_of (held n)

-- ---- at each raw leaf

-- a value of this kind in its bytes, which are owned
abbrev pub in_bytes : ElementType → (Piece → Marked) → Tree → Reading Marked
in_bytes k make t = if nat_eq (byte (kind t)) (byte k) then Ok (make (made (enc t))) else refused (invalid_type (kind t))

-- what is built of a document or an array; other values are not put in bytes
abbrev pub built_container : Node → Reading Tree
built_container (document w ns) = read_built (document w ns)
built_container (array w ns) = read_built (array w ns)
built_container n = refused (invalid_type (kind_of n))

-- A document or an array is built before its kind is judged, since the builder may make another value of a document.
abbrev pub tree_raw_of : ElementType → (Piece → Marked) → Node → Reading Marked
tree_raw_of k make n = built_container n >>= in_bytes k make

-- a value that was built, of which documents, arrays and scopes are in their bytes; nothing of it is borrowed
abbrev pub built_value : Tree → Reading Marked
built_value (tree.document ps) = Ok (value.raw_document (made (enc (tree.document ps))))
built_value (tree.array ts) = Ok (value.raw_array (made (enc (tree.array ts))))
built_value (tree.javascript_code_with_scope code scope) = Ok (scoped_code (made code) (made (enc (tree.document scope))))
built_value t = raw_value_of (tree_node from_memory t zero)

-- a value, of which documents, arrays and scopes are put in bytes
abbrev pub tree_raw_value_of : Node → Reading Marked
tree_raw_value_of (document w ns) = read_built (document w ns) >>= built_value
tree_raw_value_of (array w ns) = read_built (array w ns) >>= built_value
tree_raw_value_of (extended (javascript_code_with_scope code scope) ns) =
    under scope_key (judged scope) >>= λ _. read_built (extended (javascript_code_with_scope code scope) ns) >>= built_value
tree_raw_value_of n = raw_value_of n
