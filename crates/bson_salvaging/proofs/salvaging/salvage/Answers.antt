use Rattle.bson_salvaging.proofs.Ended.{ended}
use Rattle.bson_salvaging.proofs.salvaging.salvage.Goals as goal

pub returns-in-Ok-clause-salvaged : goal.returns-in-Ok-clause-salvaged
returns-in-Ok-clause-salvaged g c = ended _ _ _ _ _ _ _ _ _ _ _ c.in-Ok.halt c.in-Ok.ensures.halted _ _ _ c.close.result c.close.ensures.closed
