use Rattle.bson_laws.proofs.AtShapes.{views_means}
use Rattle.bson_laws.proofs.law_views_means.Goals as goal

pub returns : goal.returns
returns c = record { views = λ s d t shape plain fits means sound. views_means s d t shape plain fits means sound.clean }
