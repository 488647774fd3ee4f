use Rattle.bson_infer_laws.proofs.Recasts.{each_recast}
use Rattle.bson_infer_laws.proofs.law_inferred_recasts.Goals as goal

pub returns : goal.returns
returns c = record { recasts = each_recast }
