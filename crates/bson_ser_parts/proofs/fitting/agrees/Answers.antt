use Rattle.bson_datum.specs.View.{fields_view}
use Rattle.bson_laws.specs.Unwrap.{listed}
use Rattle.bson_ser_parts.proofs.Behind.{left_is}
use Rattle.bson_ser_parts.proofs.fitting.agrees.Goals as goal

pub returns : goal.returns
returns c = left_is (λ left. left.now) c.behind_fields.result c.is_some.result c.args.places.now (listed (fields_view c.args.fields.now)) c.is_some.ensures c.behind_fields.ensures
