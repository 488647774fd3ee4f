use Rattle.bson_ser_parts.proofs.Ways.{or_first, or_second}
use Rattle.bson_ser_parts.proofs.fronts.binary_agrees.Goals as goal

pub returns-then-agrees : goal.returns-then-agrees
returns-then-agrees c = or_first c.agrees.result _ _ c.agrees.ensures c.if-agrees.true

pub returns-else-agrees : goal.returns-else-agrees
returns-else-agrees c = or_second c.agrees.result _ _ c.agrees-else-agrees.result c.agrees.ensures c.if-agrees.false c.agrees-else-agrees.ensures
