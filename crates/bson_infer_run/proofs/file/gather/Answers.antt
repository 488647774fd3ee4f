use Rattle.bson_rawdoc.specs.Cut.{cut}
use Rattle.bson_infer_run.proofs.Gatherings.{next_gathered}
use Rattle.bson_infer_run.proofs.file.gather.Goals as goal

pub loop-piece-preserved : goal.loop-piece-preserved
loop-piece-preserved c =
    let step = rw c.in-Ok.is at c.in-Some.ensures.steps in (
      tt,
      tt,
      next_gathered (cut c.args.file.now) c.loop-piece.piece-iterator c.next.new.self c.in-Ok.bytes.now c.loop-piece.so_far c.in_ok-so_far-in-Ok.so_far step c.in_ok-so_far-in-Ok.ensures c.loop-piece.invariant.2,
    )
