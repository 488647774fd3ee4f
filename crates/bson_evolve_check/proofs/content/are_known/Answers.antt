use Rattle.std.proofs.Common.{List, ap, sym, ◌∙◌, refl}
use Rattle.std.specs.Borrow.{Bor}
use Rattle.bson_shape.specs.Makers.{has_repeat}
use Rattle.bson_shape.specs.declared.shape.FieldShape.{FieldShape}
use Rattle.bson_evolve_check.proofs.Found.{field_names_of}
use Rattle.bson_evolve_check.proofs.content.are_known.Goals as goal

pub new-index-requires : goal.new-index-requires
new-index-requires c = ap has_repeat (sym (field_names_of c.args.new.now)) ∙ c.requires

pub loop-field-init : goal.loop-field-init
loop-field-init c = record { items = ap (λ (fs : Bor (List FieldShape)). fs.now) c.new-index.ensures; left = refl }
