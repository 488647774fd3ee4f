use Rattle.bson_values.specs.Refusal.{unwritable}
use Rattle.bson_values.specs.ErrorView.{cause_view}
use Rattle.bson_ser_parts.proofs.Answered.{placed_here}
use Rattle.bson_ser_parts.proofs.refusal.refused_for.Goals as goal

pub returns : goal.returns
returns c = placed_here (unwritable (cause_view c.args.cause)) c.caused.result _ c.caused.ensures.here c.into_error.ensures.placed
