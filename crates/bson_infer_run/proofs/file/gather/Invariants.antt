use Rattle.bson_rawdoc.specs.Cut.{cut}
use Rattle.bson_infer_run.proofs.Gatherings.{IsUnderWay}
use Rattle.bson_infer_run.proofs.file.gather.Given as goal

abbrev pub invariant-loop-piece : goal.invariant-loop-piece
invariant-loop-piece l =
    (goal.iterator-loop-piece).can_next l.piece-iterator × (goal.iterator-loop-piece).is_finite l.piece-iterator × IsUnderWay (cut l.file) l.piece-iterator l.so_far
