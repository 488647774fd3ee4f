-- Numbers at leaves, and null. Source: serde's data model.
use Rattle.std.specs.Prelude.{ℤ, Bool, true, false, Option, Some, None, option_and_then}
use Rattle.bson_base.specs.Tree as trees
use Rattle.bson_base.specs.Tree.{Tree}
use Rattle.bson_values.specs.Value.{Value}
use Rattle.bson_laws.specs.Leaves.{LeafKind, numbers}
use Rattle.bson_laws.specs.Views.{as_integer}

-- the number at a leaf of this kind, where that takes it
abbrev pub number_at : LeafKind → ℤ → Option Value
number_at (numbers type) n = as_integer type n
number_at k n = None

-- the number of an Int32 or an Int64
abbrev pub integer_in : Tree → Option ℤ
integer_in (trees.int32 n) = Some n
integer_in (trees.int64 n) = Some n
integer_in t = None

-- the number that a tree is at a leaf of this kind
abbrev pub number_view : LeafKind → Tree → Option Value
number_view k t = option_and_then (number_at k) (integer_in t)

abbrev pub is_null : Tree → Bool
is_null trees.null = true
is_null t = false
