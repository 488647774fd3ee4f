use Rattle.bson_traits.proofs.ShapesMade.{made_within}
use Rattle.bson_traits.proofs.shapes.sequence_shape.Goals as goal

pub returns : goal.returns
returns c = record { shape = made_within _ c.seq.result c.seq.ensures.made }
