use Rattle.bson_infer_laws.proofs.Seen.{each_views}
use Rattle.bson_infer_laws.proofs.law_inferred_views.Goals as goal

pub returns : goal.returns
returns c = record { views = each_views }
