use Rattle.bson_program.proofs.Answered.{answered}
use Rattle.bson_recast_run.specs.Rows.{recast_program}
use Rattle.bson_recast_run.proofs.Headline.{headline}
use Rattle.bson_recast_run.proofs.Settled.{settled}
use Rattle.bson_recast_run.proofs.running.run.Goals as goal

pub returns : goal.returns
returns g c =
    let is = answered recast_program settled _ c.prepare-prepared.result c.prepare-prepared.ensures.expected c.finish.ensures.finished c.prepare-prepared.ensures.later c.finish.ensures.out_later c.finish.ensures.err_later in
    record { headline = λ s t u d shape plain sound view mean clean words told quiet. headline s t u d _ is shape plain sound view mean clean words told quiet; answers = is }
