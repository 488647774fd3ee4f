use Rattle.std.proofs.Common.{ap, ◌∙◌}
use Rattle.bson_shape.specs.ShapeView.{variants_of}
use Rattle.bson_shape.specs.Machine.{OpenEnum}
use Rattle.bson_shape.specs.Form.{Variants}
use Rattle.bson_shape.proofs.Shapes.{variants_of-push}
use Rattle.bson_shape.proofs.group.grown_enum.Goals as goal

pub returns : goal.returns
returns c =
    let e = c.args.opened in
    let f : Variants → OpenEnum = λ vs. record { place = e.place; variants = vs } in
    ap f (ap variants_of c.in_ok-push.ensures.items ∙ variants_of-push e.variants.items (record { name = c.args.name; content = c.args.content }))
