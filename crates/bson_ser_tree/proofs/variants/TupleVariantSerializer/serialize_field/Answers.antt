use Rattle.std.proofs.Common.{string_bytes, subst}
use Rattle.bson_base.specs.Tree.{array}
use Rattle.bson_values.specs.Value.{tuple_variant}
use Rattle.bson_datum.specs.View.{view}
use Rattle.bson_writing.specs.Levels.{in_variant}
use Rattle.bson_ser_tree.specs.MadeView.{items_made}
use Rattle.bson_ser_tree.specs.Taking.{TakesItem}
use Rattle.bson_ser_tree.proofs.Taken.{takes_item, in_variant_of, tuple_variant_is, variant_keeps}
use Rattle.bson_ser_tree.proofs.variants.TupleVariantSerializer.serialize_field.Goals as goal

pub returns-clause-takes : goal.returns-clause-takes
returns-clause-takes c =
    let new = items_made c.push.new.self in
    let v = view c.args.value.now in
    let name = string_bytes c.self.inside.variant in
    subst (λ old. TakesItem (tuple_variant old.variant) in_variant old.made new v c.push.result) c.self.view_is
    (takes_item (tuple_variant name) in_variant (in_variant_of name array) (tuple_variant_is name) (variant_keeps name array) (items_made c.self.inside.items) new v c.push.result c.push.ensures.form c.push.ensures.steps)
