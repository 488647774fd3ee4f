use Rattle.bson_datum.specs.View.{view}
use Rattle.bson_values.specs.Prover.Decided.{same_decides}
use Rattle.bson_kinds.proofs.Decisions.{exactly}
use Rattle.bson_datum.proofs.equality.DatumPartialEq.eq.Goals as goal

pub returns-clause-equal : goal.returns-clause-equal
returns-clause-equal c = exactly _ _ c.is_same.ensures (same_decides (view c.args.self.now) (view c.args.other.now))
