use Rattle.std.proofs.Common.{[], subst}
use Rattle.bson_base.specs.Folded.{fold}
use Rattle.bson_kinds.specs.Outcome.{result_map}
use Rattle.bson_values.specs.Value.{structure}
use Rattle.bson_datum.specs.View.{view}
use Rattle.bson_writing.specs.Levels.{in_whole}
use Rattle.bson_ser_tree.specs.MadeView.{pairs_made}
use Rattle.bson_ser_tree.specs.Taking.{TakesField}
use Rattle.bson_ser_tree.proofs.Taken.{takes_field, structure_is, map_keeps}
use Rattle.bson_ser_tree.proofs.structs.StructSerializer.serialize_field.Goals as goal

pub returns-clause-takes : goal.returns-clause-takes
returns-clause-takes c =
    let new = pairs_made c.put_field.new.self in
    let name = c.args.key.now in
    let v = view c.args.value.now in
    subst (λ old. TakesField (structure []) in_whole old new name v c.put_field.result) c.self.view_is
    (takes_field (structure []) in_whole (result_map fold) structure_is (map_keeps fold) (pairs_made c.self.inside.pairs) new name v c.put_field.result c.put_field.ensures.form c.put_field.ensures.steps)
