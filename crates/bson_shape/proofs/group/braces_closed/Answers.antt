use Rattle.std.proofs.Common.{subst}
use Rattle.bson_kinds.specs.Text.{Utf8}
use Rattle.bson_shape.specs.Answers.{Gives}
use Rattle.bson_shape.specs.Machine.{form_closed}
use Rattle.bson_shape.specs.Form.{dropped}
use Rattle.bson_shape.specs.Makers.{made_structure}
use Rattle.bson_shape.specs.ParserView.{mode_view, levels_view}
use Rattle.bson_shape.specs.ShapeView.{fields_of}
use Rattle.bson_shape.proofs.group.braces_closed.Goals as goal

pub returns-in-NamelessAt : goal.returns-in-NamelessAt
returns-in-NamelessAt c =
    let fields = fields_of c.args.fields.items in
    let st = levels_view c.args.levels.now.items in
    rw c.in-NamelessAt.is
    (subst (λ (n : Utf8). Gives (λ m. (mode_view m, st)) c.struct_closed.result (form_closed c.args.at c.in-NamelessAt.place st (made_structure dropped n fields))) c.new.ensures.bytes (c.struct_closed.ensures c.args.at st))
