-- Values whose bytes are kept. Source: serde's data model.
use Rattle.std.specs.Prelude.{◌≡◌, ℕ, Ok}
use Rattle.bson_kinds.specs.Text.{Bytes}
use Rattle.bson_base.specs.Tree.{Tree, kind, enc}
use Rattle.bson_kinds.specs.declared.element_type.ElementType.{ElementType}
use Rattle.bson_rawdoc.specs.Node.{node_in}
use Rattle.bson_shape.specs.Form.{Form}
use Rattle.bson_shape.specs.declared.leaf.Leaf.{Leaf}
use Rattle.bson_shape.specs.declared.leaf.Leaf.TheVariants as leaves
use Rattle.bson_values.specs.Marked.{Marked, contents}
use Rattle.bson_laws.specs.CompactReads.{reads}
use Rattle.bson_laws.specs.Spell.{spell}
use Rattle.bson_itself.specs.declared.untyped.UntypedLeaf.{UntypedLeaf}
use Rattle.bson_itself.specs.declared.untyped.UntypedLeaf.TheVariants.{Any, Bson}

-- A value of the kind in these bytes, with so many levels left, is read at the shape as a value that is written as these bytes.
pub record IsWrittenAsRead (s : Form) (levels : ℕ) (k : ElementType) (b : Bytes) : Type 0 where
  pub given : Marked
  pub tree : Tree
  pub read : reads s (node_in levels k b) ≡ Ok given
  pub spelled : spell (contents given) levels ≡ Ok tree
  pub kind_is : kind tree ≡ k
  pub encoded : enc tree ≡ b

-- the leaf of shapes that it is
abbrev pub leaf_of : UntypedLeaf → Leaf
leaf_of Any = leaves.Any
leaf_of Bson = leaves.Bson
