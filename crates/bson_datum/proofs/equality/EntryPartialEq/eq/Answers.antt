use Rattle.bson_datum.specs.View.{entry_view}
use Rattle.bson_values.specs.Prover.Decided.{same_entry_decides}
use Rattle.bson_kinds.proofs.Decisions.{exactly}
use Rattle.bson_datum.proofs.equality.EntryPartialEq.eq.Goals as goal

pub returns-clause-equal : goal.returns-clause-equal
returns-clause-equal c = exactly _ _ c.is_same_entry.ensures (same_entry_decides (entry_view c.args.self.now) (entry_view c.args.other.now))
