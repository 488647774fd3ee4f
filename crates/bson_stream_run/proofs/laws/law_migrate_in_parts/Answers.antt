use Rattle.bson_stream_run.proofs.InParts.{migration_in_parts}
use Rattle.bson_stream_run.proofs.laws.law_migrate_in_parts.Goals as goal

pub returns : goal.returns
returns c = record { parts = migration_in_parts }
