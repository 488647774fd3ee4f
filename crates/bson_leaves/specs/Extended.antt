-- The extended leaves: those whose values serde's data model lacks. Source: the extended types of MongoDB's crate bson, version 2.
use Rattle.std.specs.Prelude.{Bool, true, false}
use Rattle.bson_shape.specs.declared.leaf.Leaf.{Leaf}
use Rattle.bson_laws.specs.Leaves.{LeafKind, extended_values, raw_documents, raw_arrays, raw_values, leaf_kind}

-- what a leaf of this kind is read from is lacking in serde's data model
abbrev pub is_lacking : LeafKind → Bool
is_lacking (extended_values k) = true
is_lacking raw_documents = true
is_lacking raw_arrays = true
is_lacking raw_values = true
is_lacking k = false

abbrev pub is_extended : Leaf → Bool
is_extended l = is_lacking (leaf_kind l)
