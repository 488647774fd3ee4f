-- Reading a judged value of a tree in memory at a leaf. Source: serde's data model, and the extended types of MongoDB's crate bson, version 2.
use Rattle.std.specs.Prelude.{Bool, true, false}
use Rattle.bson_kinds.specs.Outcome.{result_map}
use Rattle.bson_kinds.specs.declared.element_type.ElementType.TheVariants.{EmbeddedDocument, Array}
use Rattle.bson_rawdoc.specs.Node.{Node}
use Rattle.bson_values.specs.Value as value
use Rattle.bson_values.specs.Marked.{Marked}
use Rattle.bson_values.specs.Cause.{not_borrowed}
use Rattle.bson_laws.specs.Leaves.{LeafKind, texts, byte_strings, raw_documents, raw_arrays, raw_values}
use Rattle.bson_laws.specs.Judged.{Reading, refused}
use Rattle.bson_laws.specs.ReadsLeaf.{read_leaf_with}
use Rattle.bson_laws.specs.ReadsExtended.{read_extended}
use Rattle.bson_laws.specs.Taken.{text_of}
use Rattle.bson_laws.specs.TreeRaw.{tree_raw_of, tree_raw_value_of}

-- a text, which cannot be borrowed from a tree, whatever the value is
abbrev pub tree_text : (is_borrowing : Bool) → Node → Reading Marked
tree_text true n = refused not_borrowed
tree_text false n = result_map value.str (text_of false n)

-- a judged value of a tree at a leaf of this kind, which borrows its text or not
abbrev pub read_tree_leaf : (is_borrowing : Bool) → LeafKind → Node → Reading Marked
read_tree_leaf b texts n = tree_text b n
read_tree_leaf b byte_strings n = refused not_borrowed
read_tree_leaf b raw_documents n = tree_raw_of EmbeddedDocument value.raw_document n
read_tree_leaf b raw_arrays n = tree_raw_of Array value.raw_array n
read_tree_leaf b raw_values n = tree_raw_value_of n
read_tree_leaf b k n = read_leaf_with read_extended b k n
