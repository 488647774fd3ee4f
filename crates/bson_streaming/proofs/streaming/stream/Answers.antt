use Rattle.bson_streaming.proofs.Closings.{closed}
use Rattle.bson_streaming.proofs.streaming.stream.Goals as goal

pub returns-in-Ok-clause-streamed : goal.returns-in-Ok-clause-streamed
returns-in-Ok-clause-streamed g c = closed _ _ _ _ _ _ _ _ _ _ _ _ _ _ _ c.in-Ok.halt c.in-Ok.ensures.halted _ _ _ _ _ _ c.close.result c.close.ensures.closed
