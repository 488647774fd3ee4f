-- What a reader meets, as a tree: without the marks of what is in the input, and an extended value as itself. Source: bsonspec.org, version 1.1.
use Rattle.std.specs.Prelude.{◌≡◌, Option, Some, None, option_map, option_and_then}
use Rattle.bson_base.specs.Opened as for_trees
use Rattle.bson_base.specs.Opened.{IsExtended}
use Rattle.bson_kinds.specs.Text.{Utf8}
use Rattle.bson_base.specs.Tree as tree
use Rattle.bson_base.specs.Tree.{Tree, Pairs, no_pairs, pair, Trees, no_trees}
use Rattle.bson_rawdoc.specs.Node as for_nodes
use Rattle.bson_rawdoc.specs.Node.{Node, double, string, document, array, bytes, boolean, null, int32, int64, extended, broken, too_deep, Extended, binary, undefined, object_id, date_time, regular_expression, db_pointer, javascript_code, symbol, javascript_code_with_scope, timestamp, decimal128, max_key, min_key, Nodes, ended, faulty, then_node}

-- code with a scope that is a document
abbrev pub with_document : Utf8 → Tree → Option Tree
with_document code (tree.document ps) = Some (tree.javascript_code_with_scope code ps)
with_document code t = None

abbrev mutual
  -- The tree that a value is. Bytes that are no value have none, nor has a list of elements that a fault ends, nor what is beyond the last level.
  pub unmarked : Node → Option Tree
  unmarked (double bits) = Some (tree.double bits)
  unmarked (string t) = Some (tree.string t.bytes)
  unmarked (document slice ns) = option_map tree.document (unmarked_pairs ns)
  unmarked (array slice ns) = option_map tree.array (unmarked_trees ns)
  unmarked (bytes u b) = Some (tree.binary 0 b.bytes)
  unmarked (boolean b) = Some (tree.boolean b)
  unmarked null = Some tree.null
  unmarked (int32 n) = Some (tree.int32 n)
  unmarked (int64 n) = Some (tree.int64 n)
  unmarked (extended x ns) = unmarked_extended x
  unmarked (broken k e) = None
  unmarked (too_deep k) = None

  pub unmarked_extended : Extended → Option Tree
  unmarked_extended (binary subtype b) = Some (tree.binary subtype b.bytes)
  unmarked_extended undefined = Some tree.undefined
  unmarked_extended (object_id id) = Some (tree.object_id id.bytes)
  unmarked_extended (date_time n) = Some (tree.date_time n)
  unmarked_extended (regular_expression pattern options) = Some (tree.regular_expression pattern.bytes options.bytes)
  unmarked_extended (db_pointer namespace id) = Some (tree.db_pointer namespace.bytes id)
  unmarked_extended (javascript_code t) = Some (tree.javascript_code t.bytes)
  unmarked_extended (symbol t) = Some (tree.symbol t.bytes)
  unmarked_extended (javascript_code_with_scope code scope) = option_and_then (with_document code.bytes) (unmarked scope)
  unmarked_extended (timestamp time increment) = Some (tree.timestamp time increment)
  unmarked_extended (decimal128 b) = Some (tree.decimal128 b.bytes)
  unmarked_extended max_key = Some tree.max_key
  unmarked_extended min_key = Some tree.min_key

  -- the elements of a document
  pub unmarked_pairs : Nodes → Option Pairs
  unmarked_pairs ended = Some no_pairs
  unmarked_pairs (faulty e) = None
  unmarked_pairs (then_node key n ns) = option_and_then (λ t. option_map (pair key.bytes t) (unmarked_pairs ns)) (unmarked n)

  -- the elements of an array, whose keys are not looked at
  pub unmarked_trees : Nodes → Option Trees
  unmarked_trees ended = Some no_trees
  unmarked_trees (faulty e) = None
  unmarked_trees (then_node key n ns) = option_and_then (λ t. option_map (tree.tree t) (unmarked_trees ns)) (unmarked n)

-- An extended value that is a tree is opened for readers and as a tree to the same document.
abbrev pub AreOpenedAlike : Type 0
AreOpenedAlike = (x : Extended) (t : Tree) → unmarked_extended x ≡ Some t → IsExtended t → unmarked_pairs (for_nodes.opened x) ≡ Some (for_trees.opened t)
