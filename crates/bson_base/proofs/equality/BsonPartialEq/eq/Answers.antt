use Rattle.bson_base.specs.BsonView.{tree_of}
use Rattle.bson_base.specs.Prover.Decided.{same_decides}
use Rattle.bson_kinds.proofs.Decisions.{exactly}
use Rattle.bson_base.proofs.equality.BsonPartialEq.eq.Goals as goal

pub returns-clause-equal : goal.returns-clause-equal
returns-clause-equal c = exactly _ _ c.is_same.ensures (same_decides (tree_of c.args.self.now) (tree_of c.args.other.now))
