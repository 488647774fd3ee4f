-- What contracts see of values that are read as trees: data. Source: MongoDB's extended JSON, version 2.
use Rattle.std.specs.Prelude.{Bool, true, false, Ok, Err}
use Rattle.bson_kinds.specs.Outcome.{◌>>=◌, result_map}
use Rattle.bson_kinds.specs.Text.{Utf8}
use Rattle.bson_base.specs.Tree as tree
use Rattle.bson_base.specs.Tree.{Tree, Pairs}
use Rattle.bson_rawdoc.specs.Node.{Node, Nodes, Extended, javascript_code_with_scope}
use Rattle.bson_kinds.specs.Piece.{made}
use Rattle.bson_values.specs.Marked.{Marked, MarkedItems, MarkedEntries}
use Rattle.bson_values.specs.Refusal.{under}
use Rattle.bson_values.specs.Value as value
use Rattle.bson_values.specs.declared.wrapper.Wrapper.{Wrapper}
use Rattle.bson_laws.specs.Datum.{datum, pair_data, tree_data}
use Rattle.bson_laws.specs.Judged.{Reading}
use Rattle.bson_laws.specs.Trees.{read_tree, extended_tree, array_trees, document_tree, after_code, after_scope, by_meaning, pairs_in}
use Rattle.bson_laws.specs.Wrapped.{meaning}

-- a value as a tree, seen as data
abbrev pub tree_at : Node → Reading Marked
tree_at n = result_map (datum made) (read_tree n)

-- the value at a key
abbrev pub tree_under : Utf8 → Node → Reading Marked
tree_under key n = under key (tree_at n)

-- the values of an array
abbrev pub items_from : Nodes → Reading MarkedItems
items_from ns = result_map (tree_data made) (array_trees 0 ns)

-- the elements of a document, after the pairs of those before them
abbrev pub elements_from : Nodes → Pairs → Reading Marked
elements_from ns ps = result_map (datum made) (document_tree ns ps)

-- a document from a wrapper key on: the key, its value, and the elements behind it
abbrev pub wrapped_tree : Wrapper → Utf8 → Node → Nodes → Reading Tree
wrapped_tree w key n ns = by_meaning w (meaning w) key n (read_tree n) (λ t. after_code t ns) (λ ps. after_scope ps ns)

abbrev pub wrapped_at : Wrapper → Utf8 → Node → Nodes → Reading Marked
wrapped_at w key n ns = result_map (datum made) (wrapped_tree w key n ns)

-- a code and a scope, from what comes after them
abbrev pub code_from : Utf8 → Nodes → Reading Marked
code_from t ns = result_map (datum made) (after_code t ns)

abbrev pub scope_from : Pairs → Nodes → Reading Marked
scope_from ps ns = result_map (datum made) (after_scope ps ns)

-- the entries of the document that a value is as a tree, and of one at a key
abbrev pub entries_at : Node → Reading MarkedEntries
entries_at n = result_map (pair_data made) (read_tree n >>= pairs_in)

abbrev pub scope_at : Utf8 → Node → Reading MarkedEntries
scope_at key n = under key (entries_at n)

-- what is given by its bytes: no tree that is read is
abbrev pub is_raw : Tree → Bool
is_raw (tree.raw k b) = true
is_raw t = false

abbrev pub is_map : Marked → Bool
is_map (value.map es) = true
is_map v = false

-- an extended value
abbrev pub extended_at : Extended → Reading Marked
extended_at x = result_map (datum made) (extended_tree x)

-- ---- extended values without values in them

abbrev pub is_scalar : Extended → Bool
is_scalar (javascript_code_with_scope code scope) = false
is_scalar x = true

-- what is read; of a refusal nothing is said
abbrev pub read_or_unit : Reading Marked → Marked
read_or_unit (Ok v) = v
read_or_unit (Err e) = value.unit

-- the data that one is
abbrev pub scalar_at : Extended → Marked
scalar_at x = read_or_unit (extended_at x)
