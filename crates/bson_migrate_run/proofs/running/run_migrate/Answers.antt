use Rattle.bson_program.proofs.Answered.{answered}
use Rattle.bson_migrate_run.specs.Rows.{migrate_program}
use Rattle.bson_migrate_run.proofs.Settled.{settled}
use Rattle.bson_migrate_run.proofs.WholeFiles.{writes_migrated}
use Rattle.bson_migrate_run.proofs.running.run_migrate.Goals as goal

pub returns : goal.returns
returns g c =
    let is = answered migrate_program settled _ c.prepare-prepared.result c.prepare-prepared.ensures.expected c.finish.ensures.finished c.prepare-prepared.ensures.later c.finish.ensures.out_later c.finish.ensures.err_later in
    record { migrates = λ s file output refused shape words told small is_whole quiet. writes_migrated s file output refused _ is shape words told small is_whole quiet; answers = is }
