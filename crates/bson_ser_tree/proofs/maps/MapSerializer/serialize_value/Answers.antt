use Rattle.std.proofs.Common.{string_bytes, ap, subst, ◌∙◌}
use Rattle.bson_datum.specs.View.{view}
use Rattle.bson_writing.specs.Levels.{in_whole}
use Rattle.bson_ser_tree.specs.Made.{EntriesMade}
use Rattle.bson_ser_tree.specs.MadeView.{pairs_made}
use Rattle.bson_ser_tree.specs.Steps.{StepsFrom, pair_step}
use Rattle.bson_ser_tree.specs.Taking.{TakesValue}
use Rattle.bson_ser_tree.proofs.Taken.{takes_value, map_is}
use Rattle.bson_ser_tree.proofs.maps.MapSerializer.serialize_value.Goals as goal

pub returns-clause-takes : goal.returns-clause-takes
returns-clause-takes c =
    let v = view c.args.value.now in
    let old : EntriesMade = record { made = pairs_made c.self.inside.pairs; key = string_bytes c.self.inside.key } in
    let new : EntriesMade = record { made = pairs_made c.put.new.self; key = string_bytes c.replace-key.new.dest } in
    let steps = subst (λ k. StepsFrom old.made.pairs (pair_step old.made.readable (string_bytes k) v in_whole) new.made.pairs c.put.result) c.replace-key.ensures.value c.put.ensures.steps in
    subst (λ o. TakesValue in_whole o new v c.put.result) c.self.view_is
    (takes_value in_whole map_is old new v c.put.result c.put.ensures.form (ap string_bytes c.replace-key.ensures.after ∙ c.new-empty.ensures.bytes) steps)
