use Rattle.std.proofs.Common.{sym, subst, string_bytes}
use Rattle.bson_shape.specs.Form.{denied}
use Rattle.bson_shape.specs.Makers.{Makes, made_structure}
use Rattle.bson_shape.specs.ShapeView.{fields_of}
use Rattle.bson_shape.proofs.Made.{made_structure-makes}
use Rattle.bson_shape.proofs.group.closed_struct_closed.Goals as goal

pub returns : goal.returns
returns c =
    let name = string_bytes c.args.name in
    let fields = fields_of c.args.fields.items in
    let due = made_structure denied name fields in
    λ at st. c.form_closed.ensures at st due (subst (λ r. Makes r due) (sym c.closed_structure.ensures.made) (made_structure-makes denied name fields))
