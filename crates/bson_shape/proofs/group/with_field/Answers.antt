use Rattle.std.proofs.Common.{ap, ◌∙◌}
use Rattle.bson_shape.specs.ShapeView.{fields_of}
use Rattle.bson_shape.proofs.Shapes.{fields_of-push}
use Rattle.bson_shape.proofs.group.with_field.Goals as goal

pub returns : goal.returns
returns c = ap fields_of c.in_ok-push.ensures.items ∙ fields_of-push c.args.fields.items (record { name = c.args.name; shape = c.args.shape })
