-- The form that is inferred from values. Source: this library's own join of shapes, over the kinds of bsonspec.org, version 1.1.
use Rattle.std.specs.Prelude.{zero, suc, []}
use Rattle.bson_base.specs.Tree as tree
use Rattle.bson_base.specs.Tree.{Tree, Pairs, no_pairs, pair, Trees, no_trees}
use Rattle.bson_shape.specs.Form.{dropped, Form, leaf, sequence, structure, Fields, no_fields, field}
use Rattle.bson_shape.specs.declared.leaf.Leaf.TheVariants.{Bool, I32, I64, Double, String, ByteBuf, Binary, Unit as UnitLeaf, ObjectId, DateTime, Timestamp, Regex, CodeWithScope, Decimal128, DbPointer, Bson}
use Rattle.bson_infer_laws.specs.Join.{nothing, join}

abbrev mutual
  -- The form of a value, by its kind: an array is a sequence of what its items have in common, a document a struct of its keys. Code without a scope,
  -- symbols, undefined, the two keys and what is given by its bytes are `bson`.
  pub shape_of : Tree → Form
  shape_of (tree.double bits) = leaf Double
  shape_of (tree.string t) = leaf String
  shape_of (tree.document ps) = structure dropped [] (pair_shapes ps)
  shape_of (tree.array ts) = sequence (joined_shapes nothing ts)
  shape_of (tree.binary zero b) = leaf ByteBuf
  shape_of (tree.binary (suc n) b) = leaf Binary
  shape_of (tree.object_id id) = leaf ObjectId
  shape_of (tree.boolean b) = leaf Bool
  shape_of (tree.date_time n) = leaf DateTime
  shape_of tree.null = leaf UnitLeaf
  shape_of (tree.regular_expression pattern options) = leaf Regex
  shape_of (tree.db_pointer namespace id) = leaf DbPointer
  shape_of (tree.javascript_code_with_scope code scope) = leaf CodeWithScope
  shape_of (tree.int32 n) = leaf I32
  shape_of (tree.timestamp time increment) = leaf Timestamp
  shape_of (tree.int64 n) = leaf I64
  shape_of (tree.decimal128 b) = leaf Decimal128
  shape_of t = leaf Bson

  pub pair_shapes : Pairs → Fields
  pair_shapes no_pairs = no_fields
  pair_shapes (pair key t ps) = field key (shape_of t) (pair_shapes ps)

  -- the join of a form and of those of values, from left to right
  pub joined_shapes : Form → Trees → Form
  joined_shapes s no_trees = s
  joined_shapes s (tree.tree t ts) = joined_shapes (join s (shape_of t)) ts

-- the form of a list of documents
abbrev pub inferred : Trees → Form
inferred ts = joined_shapes nothing ts

-- the list with one more at its end
abbrev pub with_last : Trees → Tree → Trees
with_last no_trees u = tree.tree u no_trees
with_last (tree.tree t ts) u = tree.tree t (with_last ts u)

abbrev pub AllTrees : (Tree → Type 0) → Trees → Type 0
AllTrees P no_trees = Unit {0}
AllTrees P (tree.tree t ts) = P t × AllTrees P ts
