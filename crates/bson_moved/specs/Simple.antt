-- The shapes at which values are moved out of a tree in memory. Source: serde's data model.
use Rattle.std.specs.Prelude.{Bool, true, false, ◌&&◌}
use Rattle.bson_kinds.specs.Text.{is_free_name}
use Rattle.bson_shape.specs.Form.{Form, leaf, optional, sequence, structure, dropped, Fields, no_fields, field}
use Rattle.bson_shape.specs.declared.leaf.Leaf.{Leaf}
use Rattle.bson_shape.specs.declared.leaf.Leaf.TheVariants.{Bool as BoolLeaf, I8, I16, I32, I64, U8, U16, U32, U64, Double, String}

-- a leaf of numbers, of booleans, or of texts that are owned
abbrev pub is_simple_leaf : Leaf → Bool
is_simple_leaf BoolLeaf = true
is_simple_leaf I8 = true
is_simple_leaf I16 = true
is_simple_leaf I32 = true
is_simple_leaf I64 = true
is_simple_leaf U8 = true
is_simple_leaf U16 = true
is_simple_leaf U32 = true
is_simple_leaf U64 = true
is_simple_leaf Double = true
is_simple_leaf String = true
is_simple_leaf l = false

abbrev mutual
  -- leaves of numbers, booleans and texts, options, sequences, and structs of free names that drop unknown fields
  pub is_simple : Form → Bool
  is_simple (leaf l) = is_simple_leaf l
  is_simple (optional s) = is_simple s
  is_simple (sequence s) = is_simple s
  is_simple (structure dropped name fs) = is_free_name name && are_simple fs
  is_simple s = false

  pub are_simple : Fields → Bool
  are_simple no_fields = true
  are_simple (field name s fs) = is_free_name name && is_simple s && are_simple fs
