-- Reading a value at a shape, in bytes or from a tree. Source: serde's data model.
use Rattle.std.specs.Prelude.{ℕ, Bool, Result, Ok, Err}
use Rattle.bson_base.specs.Sound.{max_levels}
use Rattle.bson_kinds.specs.Text.{Utf8}
use Rattle.bson_base.specs.Tree as tree
use Rattle.bson_rawdoc.specs.Node.{Node, Nodes, from_memory, tree_node}
use Rattle.bson_shape.specs.Form.{Form, Fields, Parts, Content, Variants}
use Rattle.bson_kinds.specs.Outcome.{result_map}
use Rattle.bson_values.specs.Value.{Value}
use Rattle.bson_values.specs.Marked.{Marked, MarkedItems, contents}
use Rattle.bson_values.specs.Refusal.{ReadFault, Failure, bare}
use Rattle.bson_laws.specs.declared.origin.Origin.{Origin}
use Rattle.bson_laws.specs.declared.origin.Origin.TheVariants.{Bytes, Tree}
use Rattle.bson_laws.specs.declared.origin.Reader.{Reader}
use Rattle.bson_laws.specs.Leaves.{LeafKind}
use Rattle.bson_laws.specs.Judged.{Reading}
use Rattle.bson_laws.specs.ReadsAt as at
use Rattle.bson_laws.specs.ReadsExtended.{read_extended}
use Rattle.bson_laws.specs.ReadsLeaf.{read_leaf_with}
use Rattle.bson_laws.specs.Scopes.{formed, formed_fields, formed_parts, formed_variants, formed_content}
use Rattle.bson_laws.specs.Settled.{settled}
use Rattle.bson_laws.specs.Slots.{Slots}
use Rattle.bson_laws.specs.TreeLeaf.{read_tree_leaf}
use Rattle.bson_laws.specs.Unrolled.{whole}

-- a judged value at a leaf of this kind, which borrows its text or not
abbrev pub read_leaf : Origin → (is_borrowing : Bool) → LeafKind → Node → Reading Marked
read_leaf Bytes = read_leaf_with read_extended
read_leaf Tree = read_tree_leaf

-- the value that a node is at a settled form
abbrev pub reads_from : Origin → Form → Node → Reading Marked
reads_from o = at.reads o (read_leaf o)

-- ---- its parts: those of a tuple, the fields of a struct, a variant, the contents of a variant

abbrev pub reads_parts : Origin → Parts → ℕ → Nodes → Reading MarkedItems
reads_parts o = at.reads_parts o (read_leaf o)

abbrev pub slots_of : Origin → Fields → Slots
slots_of o = at.slots_of o (read_leaf o)

abbrev pub reads_variant : Origin → Variants → Utf8 → Node → Reading Marked
reads_variant o = at.reads_variant o (read_leaf o)

abbrev pub reads_content : Origin → Utf8 → Content → Node → Reading Marked
reads_content o = at.reads_content o (read_leaf o)

-- ---- for a reader, who is human or not, in the definitions around

-- the value that a node is at a shape
abbrev pub reads_for : Reader → Form → Node → Reading Marked
reads_for r s = reads_from r.origin (formed r s)

abbrev pub parts_for : Reader → Parts → ℕ → Nodes → Reading MarkedItems
parts_for r ps = reads_parts r.origin (formed_parts r ps)

abbrev pub slots_for : Reader → Fields → Slots
slots_for r fs = slots_of r.origin (formed_fields r fs)

abbrev pub variant_for : Reader → Variants → Utf8 → Node → Reading Marked
variant_for r vs = reads_variant r.origin (formed_variants r vs)

abbrev pub content_for : Reader → Utf8 → Content → Node → Reading Marked
content_for r name c = reads_content r.origin name (formed_content r c)

-- ---- whole trees

-- the value that a tree in memory is at an unrolled form, for a reader who is human or not
abbrev pub tree_at : (readable : Bool) → Form → tree.Tree → Reading Marked
tree_at readable s t = reads_from Tree (settled readable s) (tree_node from_memory t max_levels)

-- The value that a tree in memory is at a shape, for a reader who is human or not. Nothing of it is borrowed.
abbrev pub reads_tree : (readable : Bool) → Form → tree.Tree → Reading Marked
reads_tree readable s t = tree_at readable (whole s) t

-- the same without marks, of which it has none
abbrev pub reads_tree_value : (readable : Bool) → Form → tree.Tree → Reading Value
reads_tree_value readable s t = result_map contents (reads_tree readable s t)

-- an answer whose refusals carry no path
abbrev pub answered_bare : {A : Type 0} → Reading A → Result A (Failure ReadFault)
answered_bare (Ok x) = Ok x
answered_bare (Err r) = Err (bare r.fault)
