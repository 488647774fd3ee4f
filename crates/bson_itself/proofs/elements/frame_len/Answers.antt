use Rattle.std.proofs.Common.{sym, arith}
use Rattle.bson_itself.proofs.Parts.{frame_is}
use Rattle.bson_itself.proofs.elements.frame_len.Goals as goal

pub returns-clause-frame : goal.returns-clause-frame
returns-clause-frame c =
    let n = c.uint32_in-count.result in
    frame_is c.args.bytes.now n c.known_bytes.ensures (omega arith) (omega arith) (sym c.uint32_in-count.ensures) (sym c.if-not-is_closed.ensures)
