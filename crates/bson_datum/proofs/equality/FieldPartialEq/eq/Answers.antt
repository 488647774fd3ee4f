use Rattle.bson_datum.specs.View.{field_view}
use Rattle.bson_values.specs.Prover.Decided.{same_field_decides}
use Rattle.bson_kinds.proofs.Decisions.{exactly}
use Rattle.bson_datum.proofs.equality.FieldPartialEq.eq.Goals as goal

pub returns-clause-equal : goal.returns-clause-equal
returns-clause-equal c = exactly _ _ c.is_same_field.ensures (same_field_decides (field_view c.args.self.now) (field_view c.args.other.now))
