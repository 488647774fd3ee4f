use Rattle.std.proofs.Common.{◌≤◌, ◌-◌, length, arith}
use Rattle.bson_io.proofs.Moves.{moved_front, none_left}
use Rattle.bson_io.proofs.memory.MemorySourceSource.read.Goals as goal

pub returns-in-Ok-clause-bytes : goal.returns-in-Ok-clause-bytes
returns-in-Ok-clause-bytes c =
    let s = c.self.inside in
    let ys = c.deref.result.now in
    let same = c.deref.ensures.value in
    let fits : c.in-Ok.n ≤ length s.bytes.items - s.at = omega (arith, c.in-Ok.ensures.moved) in
    rw (← c.self.view_is) (
      moved_front s.at c.in-Ok.n s.bytes.items ys c.args.buf.now c.copy_front.new.to same fits c.copy_front.ensures,
      λ none room. none_left s.at c.in-Ok.n s.bytes.items (omega (arith, c.in-Ok.ensures.moved)),
    )
