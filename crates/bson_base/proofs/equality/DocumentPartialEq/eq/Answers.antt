use Rattle.bson_base.specs.BsonView.{pairs_of}
use Rattle.bson_base.specs.Prover.Decided.{same_pairs_decides}
use Rattle.bson_kinds.proofs.Decisions.{exactly}
use Rattle.bson_base.proofs.equality.DocumentPartialEq.eq.Goals as goal

pub returns-clause-equal : goal.returns-clause-equal
returns-clause-equal c = exactly _ _ c.are_same_documents.ensures (same_pairs_decides (pairs_of c.args.self.now) (pairs_of c.args.other.now))
