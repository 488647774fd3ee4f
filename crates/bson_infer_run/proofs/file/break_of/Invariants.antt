use Rattle.std.proofs.Common.{◌≡◌}
use Rattle.bson_rawdoc.specs.Cut.{Cut, cut}
use Rattle.bson_infer_run.proofs.file.break_of.Given as goal

abbrev pub invariant-loop-piece : goal.invariant-loop-piece
invariant-loop-piece l =
    (goal.iterator-loop-piece).can_next l.piece-iterator × (goal.iterator-loop-piece).is_finite l.piece-iterator × (let left : Cut = l.piece-iterator in left.broken ≡ (cut l.file).broken)
