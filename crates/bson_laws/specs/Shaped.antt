-- Reading a value at a shape in bytes, whatever its extended leaves take. Source: serde's data model.
use Rattle.std.specs.Prelude.{ℕ}
use Rattle.bson_kinds.specs.Text.{Utf8}
use Rattle.bson_rawdoc.specs.Node.{Node, Nodes}
use Rattle.bson_shape.specs.Form.{Form, Fields, Parts, Content, Variants}
use Rattle.bson_values.specs.Marked.{Marked, MarkedItems}
use Rattle.bson_laws.specs.declared.origin.Origin.TheVariants.{Bytes}
use Rattle.bson_laws.specs.Leaves.{ExtendedLeaf}
use Rattle.bson_laws.specs.Judged.{Reading}
use Rattle.bson_laws.specs.ReadsAt as at
use Rattle.bson_laws.specs.ReadsLeaf.{read_leaf_with}
use Rattle.bson_laws.specs.Slots.{Slots}

-- how a judged value is read at an extended leaf is given
module _ (extended : ExtendedLeaf → Node → Reading Marked) where
  -- the value that a node is at a settled form
  abbrev pub reads : Form → Node → Reading Marked
  reads = at.reads Bytes (read_leaf_with extended)

  abbrev pub reads_parts : Parts → ℕ → Nodes → Reading MarkedItems
  reads_parts = at.reads_parts Bytes (read_leaf_with extended)

  abbrev pub slots_of : Fields → Slots
  slots_of = at.slots_of Bytes (read_leaf_with extended)

  abbrev pub reads_variant : Variants → Utf8 → Node → Reading Marked
  reads_variant = at.reads_variant Bytes (read_leaf_with extended)

  abbrev pub reads_content : Utf8 → Content → Node → Reading Marked
  reads_content = at.reads_content Bytes (read_leaf_with extended)
