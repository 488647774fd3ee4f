use Rattle.std.proofs.Common.{arith}
use Rattle.bson_program.proofs.Answered.{answered}
use Rattle.bson_evolve_run.specs.Rows.{check_program}
use Rattle.bson_evolve_run.proofs.Answering.{settled, writes_verdict}
use Rattle.bson_evolve_run.proofs.running.run_check.Goals as goal

pub returns : goal.returns
returns g c =
    let is = answered check_program settled _ c.prepare-prepared.result c.prepare-prepared.ensures c.finish.ensures.finished (omega arith) c.finish.ensures.out_later c.finish.ensures.err_later in
    record { checks = λ old new made also plain too words quiet. writes_verdict old new _ is made also plain too words quiet; answers = is }
