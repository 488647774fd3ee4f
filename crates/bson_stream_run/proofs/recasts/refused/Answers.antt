use Rattle.bson_stream_run.proofs.Recast.{each_told}
use Rattle.bson_stream_run.proofs.recasts.refused.Goals as goal

pub returns : goal.returns
returns c = each_told c.args.error.now c.told.result c.told.ensures c.in_default.not-NoMemory
