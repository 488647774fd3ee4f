-- The values of elements.
use Rattle.std.proofs.Common.{◌≡◌, ℕ, Result, Ok, Err}
use Rattle.bson_kinds.specs.Text.{Bytes}
use Rattle.bson_kinds.specs.declared.element_type.ElementType.{ElementType}
use Rattle.bson_rawdoc.specs.Node.{node_in, inner_node, value_node}
use Rattle.bson_rawdoc.specs.RawValue.{RawValue, value_in}
use Rattle.bson_rawdoc.specs.ValueView.{raw_value}
use Rattle.bson_faults.specs.declared.raw.Error.{Error}
use Rattle.bson_rawdoc.specs.declared.value.RawBsonRef.{RawBsonRef}
use Rattle.bson_rawdoc.proofs.Nodes.{Sees, element_seen}

-- the node of a value that was got
pub node_of : (levels : ℕ) (k : ElementType) (b : Bytes) (v : RawBsonRef) → Ok (raw_value v) ≡ value_in k b → node_in levels k b ≡ value_node (inner_node levels) (raw_value v)
node_of levels k b v is = by_value (value_in k b) is (element_seen levels k b) where
  by_value : (r : Result RawValue Error) → Ok (raw_value v) ≡ r → Sees (value_node (inner_node levels)) r (node_in levels k b) → node_in levels k b ≡ value_node (inner_node levels) (raw_value v)
  by_value (Err e) is h = absurd cc
  by_value (Ok x) is h = let same : x ≡ raw_value v = cc in rw same at h.0
