use Rattle.std.proofs.Common.{subst}
use Rattle.bson_kinds.specs.Outcome.{result_map}
use Rattle.bson_base.specs.Tree.{array}
use Rattle.bson_values.specs.Value.{tuple}
use Rattle.bson_datum.specs.View.{view}
use Rattle.bson_writing.specs.Levels.{in_whole}
use Rattle.bson_ser_tree.specs.MadeView.{items_made}
use Rattle.bson_ser_tree.specs.Taking.{TakesItem}
use Rattle.bson_ser_tree.proofs.Taken.{takes_item, tuple_is, map_keeps}
use Rattle.bson_ser_tree.proofs.arrays.TupleSerializer.serialize_element.Goals as goal

pub returns-clause-takes : goal.returns-clause-takes
returns-clause-takes c =
    let new = items_made c.push.new.self in
    let v = view c.args.value.now in
    subst (λ old. TakesItem tuple in_whole old new v c.push.result) c.self.view_is
    (takes_item tuple in_whole (result_map array) tuple_is (map_keeps array) (items_made c.self.inside.items) new v c.push.result c.push.ensures.form c.push.ensures.steps)
