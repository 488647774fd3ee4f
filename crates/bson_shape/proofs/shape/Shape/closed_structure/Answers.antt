use Rattle.std.proofs.Common.{sym}
use Rattle.bson_shape.specs.Form.{denied}
use Rattle.bson_shape.proofs.Made.{made_structure-IsStruct}
use Rattle.bson_shape.proofs.shape.Shape.closed_structure.Goals as goal

pub invariant_of-result : goal.invariant_of-result
invariant_of-result c = let e = c.in_ok-level_count.ensures in (e.0, (e.1, e.2))

pub returns : goal.returns
returns c = let e = c.in_ok-level_count.ensures in record { made = sym (made_structure-IsStruct denied _ _ e.1) }
