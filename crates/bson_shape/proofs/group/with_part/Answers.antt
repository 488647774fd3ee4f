use Rattle.std.proofs.Common.{ap, ◌∙◌}
use Rattle.bson_shape.specs.ShapeView.{parts_of}
use Rattle.bson_shape.proofs.Shapes.{parts_of-push}
use Rattle.bson_shape.proofs.group.with_part.Goals as goal

pub returns : goal.returns
returns c = ap parts_of c.in_ok-push.ensures.items ∙ parts_of-push c.args.parts.items c.args.part
