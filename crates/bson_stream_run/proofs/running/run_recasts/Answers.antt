use Rattle.std.proofs.Common.{inl}
use Rattle.bson_stream_run.proofs.Recast.{stays}
use Rattle.bson_stream_run.proofs.running.run_recasts.Goals as goal

pub returns-in-Ok-asked-clause-runs : goal.returns-in-Ok-asked-clause-runs
returns-in-Ok-asked-clause-runs g c =
    let found = rw c.in-Ok-asked.is at c.in-Ok.ensures in
    inl (record {
      shape = c.in-Ok-asked.shape;
      asked = found;
      ending = c.stream.result;
      ended = c.status_of.ensures;
      streamed = stays c.in-Ok-asked.shape c.stream.new.job _ _ _ c.stream.result (rw c.at-job.ensures at c.stream.ensures.streamed);
    })
