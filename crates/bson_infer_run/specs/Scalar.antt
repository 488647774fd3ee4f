-- The leaf of a value that is neither a document nor an array. Source: serde's data model.
use Rattle.std.specs.Prelude.{◌≡◌}
use Rattle.bson_base.specs.Tree.{Tree, document, array}
use Rattle.bson_shape.specs.Form.{leaf}
use Rattle.bson_shape.specs.declared.leaf.Leaf.{Leaf}
use Rattle.bson_infer_laws.specs.Inferred.{shape_of}

-- The leaf of a value that is neither a document nor an array; of these two nothing is said.
abbrev pub IsLeafOf : Tree → Leaf → Type 0
IsLeafOf (document ps) l = Unit {0}
IsLeafOf (array ts) l = Unit {0}
IsLeafOf t l = shape_of t ≡ leaf l
