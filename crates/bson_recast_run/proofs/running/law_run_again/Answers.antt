use Rattle.bson_recast_run.proofs.Again.{run_again}
use Rattle.bson_recast_run.proofs.running.law_run_again.Goals as goal

pub returns : goal.returns
returns c = record { again = run_again }
