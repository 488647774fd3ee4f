use Rattle.std.proofs.Common.{◌≡◌, ap, sym, ◌∙◌}
use Rattle.bson_shape.specs.Form.{no_fields}
use Rattle.bson_shape.specs.ShapeView.{fields_of}
use Rattle.bson_evolve_laws.specs.PlainTest.{is_plain_in}
use Rattle.bson_evolve_laws.proofs.PlainTests.{plain_found, plain_passes}
use Rattle.bson_evolve_check.proofs.plain.is_plain.Goals as goal

pub returns : goal.returns
returns c =
    let s = c.args.shape.now in
    let none : fields_of c.new.result.definitions.now ≡ no_fields = ap fields_of (ap (λ b. b.now) c.new.ensures.definitions ∙ c.no_definitions.ensures) in
    let is : c.is_plain_in.result ≡ is_plain_in no_fields s = c.is_plain_in.ensures ∙ ap (λ h. is_plain_in h s) none in
    (λ t. plain_found s (sym is ∙ t), λ p. is ∙ plain_passes s p)
