use Rattle.std.proofs.Common.{List, ap, sym, ◌∙◌, refl}
use Rattle.std.specs.Borrow.{Bor}
use Rattle.bson_shape.specs.Makers.{has_repeat}
use Rattle.bson_shape.specs.declared.shape.VariantShape.{VariantShape}
use Rattle.bson_evolve_check.proofs.Found.{variant_names_of}
use Rattle.bson_evolve_check.proofs.keys.fields_in.Goals as goal

pub new-index-requires : goal.new-index-requires
new-index-requires c = ap has_repeat (sym (variant_names_of c.args.units.now)) ∙ c.requires

pub loop-field-init : goal.loop-field-init
loop-field-init c = record { items = ap (λ (vs : Bor (List VariantShape)). vs.now) c.new-index.ensures; left = refl }
