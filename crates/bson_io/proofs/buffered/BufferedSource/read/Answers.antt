use Rattle.bson_io.proofs.Buffering.{moved}
use Rattle.bson_io.proofs.buffered.BufferedSource.read.Goals as goal

pub returns-clause-bytes : goal.returns-clause-bytes
returns-clause-bytes g c =
    let s = c.ready.new.self in
    moved s.room.items c.deref.result.now c.args.buf.now c.copy_prefix-n.new.to s.from s.to c.copy_prefix-n.result c.deref.ensures.value s.within s.inside c.copy_prefix-n.ensures.count c.copy_prefix-n.ensures.copied _ _ c.in_ok-ready.ensures.kept c.in_ok-ready.ensures.ended
