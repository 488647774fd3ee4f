use Rattle.std.proofs.Common.{string_bytes, subst}
use Rattle.bson_base.specs.Folded.{fold}
use Rattle.bson_values.specs.Value.{structure_variant}
use Rattle.bson_datum.specs.View.{view}
use Rattle.bson_writing.specs.Levels.{in_variant}
use Rattle.bson_ser_tree.specs.MadeView.{pairs_made}
use Rattle.bson_ser_tree.specs.Taking.{TakesField}
use Rattle.bson_ser_tree.proofs.Taken.{takes_field, in_variant_of, structure_variant_is, variant_keeps}
use Rattle.bson_ser_tree.proofs.variants.StructVariantSerializer.serialize_field.Goals as goal

pub returns-clause-takes : goal.returns-clause-takes
returns-clause-takes c =
    let new = pairs_made c.put_field.new.self in
    let key = c.args.key.now in
    let v = view c.args.value.now in
    let name = string_bytes c.self.inside.variant in
    subst (λ old. TakesField (structure_variant old.variant) in_variant old.made new key v c.put_field.result) c.self.view_is
    (takes_field (structure_variant name) in_variant (in_variant_of name fold) (structure_variant_is name) (variant_keeps name fold) (pairs_made c.self.inside.pairs) new key v c.put_field.result c.put_field.ensures.form c.put_field.ensures.steps)
