use Rattle.bson_stream_run.proofs.Migrating.{stream_migrates}
use Rattle.bson_stream_run.proofs.laws.law_stream_is_migrate.Goals as goal

pub returns : goal.returns
returns c = record { migrates = stream_migrates }
