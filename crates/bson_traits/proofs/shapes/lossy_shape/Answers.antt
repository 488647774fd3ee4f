use Rattle.bson_traits.proofs.ShapesMade.{made_within}
use Rattle.bson_traits.proofs.shapes.lossy_shape.Goals as goal

pub returns : goal.returns
returns c = record { shape = made_within _ c.lossy.result c.lossy.ensures.made }
