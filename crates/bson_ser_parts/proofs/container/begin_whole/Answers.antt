use Rattle.bson_ser_parts.proofs.Answered.{begin_memory}
use Rattle.bson_ser_parts.proofs.container.begin_whole.Goals as goal

pub returns-in-Err-clause-memory : goal.returns-in-Err-clause-memory
returns-in-Err-clause-memory g c = begin_memory c.in-Err.halt c.args.out.now.spare _ c.in-Err.ensures.levels c.take_back.ensures.placed
