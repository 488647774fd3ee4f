use Rattle.bson_kinds.proofs.Decisions.{exactly}
use Rattle.bson_shape.specs.Prover.Decided.{same_decides}
use Rattle.bson_shape.proofs.equality.ShapePartialEq.eq.Goals as goal

pub returns-clause-equal : goal.returns-clause-equal
returns-clause-equal c = exactly _ _ c.is_same.ensures (same_decides c.args.self.now c.args.other.now)
