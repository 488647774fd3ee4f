use Rattle.bson_stream_run.proofs.Migrating.{stream_migrates}
use Rattle.bson_stream_run.proofs.running.run_stream.Goals as goal

pub returns-clause-migrates : goal.returns-clause-migrates
returns-clause-migrates g c = λ s file shape words told small quiet. stream_migrates _ s file c.run_by_words.ensures.runs shape words told small quiet
