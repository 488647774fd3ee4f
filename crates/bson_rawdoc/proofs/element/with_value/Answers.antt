use Rattle.std.proofs.Common.{arith}
use Rattle.bson_rawdoc.proofs.Extents.{extent_taken}
use Rattle.bson_rawdoc.proofs.element.with_value.Goals as goal

pub invariant_of-result : goal.invariant_of-result
invariant_of-result c = rw c.split_at.ensures.front (extent_taken c.args.kind c.args.bytes.now c.in_ok-length.length c.in_ok-length.ensures (omega arith))
