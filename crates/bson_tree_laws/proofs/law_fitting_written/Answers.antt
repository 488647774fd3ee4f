use Rattle.bson_tree_laws.proofs.Fitted.{shape_alike, meant_written}
use Rattle.bson_tree_laws.proofs.Viewed.{viewed_written}
use Rattle.bson_tree_laws.proofs.law_fitting_written.Goals as goal

pub returns : goal.returns
returns c = record { alike = shape_alike; written = meant_written; viewed = viewed_written }
