-- The exits after a read: what was taken before and in that read.
use Rattle.std.proofs.Common.{length-take, arith}
use Rattle.bson_io.proofs.Transfers.{takes_more, takes_at_most, takes_exactly}
use Rattle.bson_io.proofs.transfer.read_to_end.Goals as goal

pub returns-then-n-len-clause-taken : goal.returns-then-n-len-clause-taken
returns-then-n-len-clause-taken g c =
    takes_more _ _ _ c.loop-bytes.bytes.items c.read.new.buf c.in-Ok.n c.loop-bytes.invariant.taken c.in-Ok.ensures.bytes.0

pub returns-then-n-len-clause-too_long : goal.returns-then-n-len-clause-too_long
returns-then-n-len-clause-too_long g c = λ _.
    takes_exactly _ _ _ _ c.loop-bytes.bytes.items c.read.new.buf c.in-Ok.n c.loop-bytes.invariant.taken c.in-Ok.ensures.bytes.0
    (omega (arith, c.in-Ok.ensures.bound)) (omega (arith, c.in-Ok.ensures.bound, c.read.auto.buf, length-take c.min-room.result c.loop-bytes.buf, c.loop-bytes.bytes.ok.0))

pub returns-in_err-extend_from_slice-in-Ok-clause-taken : goal.returns-in_err-extend_from_slice-in-Ok-clause-taken
returns-in_err-extend_from_slice-in-Ok-clause-taken g c =
    takes_more _ _ _ c.loop-bytes.bytes.items c.read.new.buf c.in-Ok.n c.loop-bytes.invariant.taken c.in-Ok.ensures.bytes.0

pub returns-in_err-extend_from_slice-in-Ok-clause-within : goal.returns-in_err-extend_from_slice-in-Ok-clause-within
returns-in_err-extend_from_slice-in-Ok-clause-within g c = λ _.
    takes_at_most _ _ _ _ c.loop-bytes.bytes.items c.read.new.buf c.in-Ok.n c.loop-bytes.invariant.taken c.in-Ok.ensures.bytes.0
    (omega (arith, c.loop-bytes.bytes.ok.0))
