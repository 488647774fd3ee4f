use Rattle.bson_laws.proofs.AtShapes.{views_reads, views_fit, norm_same}
use Rattle.bson_laws.proofs.law_views_reads.Goals as goal

pub returns : goal.returns
returns c = record { reads = views_reads; fits = λ s t d shape plain sound is. views_fit s t d shape sound is; normal = norm_same }
