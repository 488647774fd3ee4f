-- What contracts see of a document and of an array that are met, before their elements are looked at. Source: this library's own types.
use Rattle.std.specs.Prelude.{ℕ, Bool, true, false}
use Rattle.bson_base.specs.BsonView.{pairs_of, trees_of}
use Rattle.bson_base.specs.Tree as trees
use Rattle.bson_rawdoc.specs.DocumentView.{array_bytes, document_bytes}
use Rattle.bson_rawdoc.specs.Node.{of_opening, of_tree, of_bytes, Whole, from_memory, Node, document, array, Nodes, node_in, nodes_with, pair_nodes, tree_nodes}
use Rattle.bson_rawdoc.specs.Walk.{walk}
use Rattle.bson_met.specs.OpenedView.{opened_nodes}
use Rattle.bson_met.specs.Seen.{seen_nodes}
use Rattle.bson_met.specs.declared.containers.ArrayPlace.{ArrayPlace}
use Rattle.bson_met.specs.declared.containers.ArrayPlace.TheVariants as arrays
use Rattle.bson_met.specs.declared.containers.DocumentPlace.{DocumentPlace}
use Rattle.bson_met.specs.declared.containers.DocumentPlace.TheVariants as documents
use Rattle.bson_met.specs.declared.containers.MetArray.{MetArray}
use Rattle.bson_met.specs.declared.containers.MetDocument.{MetDocument}

-- ---- what one is as a whole

-- opening a value makes it
abbrev pub is_opening : Whole → Bool
is_opening of_opening = true
is_opening w = false

-- ---- documents

-- what one is as a whole
abbrev pub document_whole_at : DocumentPlace → Whole
document_whole_at (documents.Bytes d) = of_bytes (document_bytes d)
document_whole_at (documents.Pairs d) = of_tree (trees.document (pairs_of d.now))
document_whole_at (documents.Opened o) = of_opening

-- the elements of one, with so many levels left for each
abbrev pub elements_at : ℕ → DocumentPlace → Nodes
elements_at levels (documents.Bytes d) = nodes_with (node_in levels) (walk (document_bytes d))
elements_at levels (documents.Pairs d) = pair_nodes from_memory (pairs_of d.now) levels
elements_at levels (documents.Opened o) = opened_nodes o

abbrev pub document_whole : MetDocument → Whole
document_whole d = document_whole_at d.place

abbrev pub document_elements : MetDocument → Nodes
document_elements d = seen_nodes d.mends (elements_at d.levels d.place)

abbrev pub document_node : MetDocument → Node
document_node d = document (document_whole d) (document_elements d)

-- ---- arrays

abbrev pub array_whole_at : ArrayPlace → Whole
array_whole_at (arrays.Bytes a) = of_bytes (array_bytes a)
array_whole_at (arrays.Values v) = of_tree (trees.array (trees_of v.now.items))

abbrev pub items_at : ℕ → ArrayPlace → Nodes
items_at levels (arrays.Bytes a) = nodes_with (node_in levels) (walk (array_bytes a))
items_at levels (arrays.Values v) = tree_nodes from_memory 0 (trees_of v.now.items) levels

abbrev pub array_whole : MetArray → Whole
array_whole a = array_whole_at a.place

abbrev pub array_items : MetArray → Nodes
array_items a = seen_nodes a.mends (items_at a.levels a.place)

abbrev pub array_node : MetArray → Node
array_node a = array (array_whole a) (array_items a)
