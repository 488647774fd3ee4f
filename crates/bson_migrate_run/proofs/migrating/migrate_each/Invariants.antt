use Rattle.bson_migrate_run.specs.Step.{IsUnderWay}
use Rattle.bson_migrate_run.proofs.migrating.migrate_each.Given as goal

abbrev pub invariant-loop-piece : goal.invariant-loop-piece
invariant-loop-piece l =
    (goal.iterator-loop-piece).can_next l.piece-iterator × (goal.iterator-loop-piece).is_finite l.piece-iterator
    × IsUnderWay l.shape l.file l.piece-iterator l.number l.out.bytes l.refused.items
