use Rattle.std.proofs.Common.{subst}
use Rattle.bson_shape.specs.Makers.{Makes, made_map}
use Rattle.bson_traits.proofs.ShapesMade.{made_within}
use Rattle.bson_traits.proofs.shapes.map_shape.Goals as goal

pub returns : goal.returns
returns c = record { shape = made_within _ c.map.result (subst (λ k. Makes c.map.result (made_map k c.args.value)) c.string.ensures.form c.map.ensures.made) }
