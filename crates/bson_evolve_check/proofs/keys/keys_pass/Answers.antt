use Rattle.std.proofs.Common.{◌≡◌, ap, sym, subst, ◌∙◌}
use Rattle.bson_shape.specs.Form.{enumeration}
use Rattle.bson_shape.specs.Makers.{IsShape}
use Rattle.bson_shape.specs.ShapeView.{form_view, variants_of}
use Rattle.bson_evolve_check.proofs.keys.keys_pass.Goals as goal

pub names_in-requires : goal.names_in-requires
names_in-requires c =
    let is : c.args.new.now ≡ enumeration (variants_of c.in-Enum.units.now) = sym c.form.ensures.form ∙ ap form_view c.in-Enum.is in
    (subst IsShape is c.known.ensures.shape).0.distinct
