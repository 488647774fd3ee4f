-- The exits after a read: what was taken before and in that read.
use Rattle.std.proofs.Common.{length-take, arith}
use Rattle.bson_source.proofs.Pieces.{some_more}
use Rattle.bson_streaming.proofs.taking.take_up_to.Goals as goal

pub returns-in-Ok-eq0-clause-some : goal.returns-in-Ok-eq0-clause-some
returns-in-Ok-eq0-clause-some g c =
    some_more _ _ _ _ _ c.loop-buf.bytes.items c.read.new.buf c.in-Ok-eq0.field-0 c.loop-buf.invariant.so_far c.in-Ok-eq0.ensures.bytes.0
    (omega (arith, c.in-Ok-eq0.ensures.bound, c.read.auto.buf, length-take c.min-room.result c.loop-buf.buf, c.loop-buf.invariant.most, c.min-room.ensures))

pub returns-in_err-extend_from_slice-in-Ok-clause-some : goal.returns-in_err-extend_from_slice-in-Ok-clause-some
returns-in_err-extend_from_slice-in-Ok-clause-some g c =
    some_more _ _ _ _ _ c.loop-buf.bytes.items c.read.new.buf c.in-Ok.n c.loop-buf.invariant.so_far c.in-Ok.ensures.bytes.0
    (omega (arith, c.in-Ok.ensures.bound, c.read.auto.buf, length-take c.min-room.result c.loop-buf.buf, c.loop-buf.invariant.most, c.min-room.ensures))
