use Rattle.std.proofs.Common.{Err, string_bytes, ap, sym, subst, ◌∙◌}
use Rattle.std.proofs.lemmas.Result.{err_from_is_err_and}
use Rattle.bson_datum.specs.View.{view}
use Rattle.bson_writing.specs.Levels.{in_whole}
use Rattle.bson_ser_tree.specs.Made.{EntriesMade}
use Rattle.bson_ser_tree.specs.MadeView.{pairs_made}
use Rattle.bson_ser_tree.specs.Taking.{TakesKey}
use Rattle.bson_ser_tree.proofs.Taken.{refuses_key, map_is}
use Rattle.bson_ser_tree.proofs.maps.MapSerializer.serialize_key.Goals as goal

pub returns-in_err-self-inside-clause-takes : goal.returns-in_err-self-inside-clause-takes
returns-in_err-self-inside-clause-takes c =
    let e = c.in_err-self-inside.field-0.0 in
    let key = view c.args.key.now in
    let old : EntriesMade = record { made = pairs_made c.self.inside.pairs; key = string_bytes c.self.inside.key } in
    let new : EntriesMade = record { made = pairs_made c.key.new.self; key = string_bytes c.self.inside.key } in
    let p = err_from_is_err_and c.from_residual.result c.from_residual.ensures.1 in
    subst (λ r. TakesKey in_whole c.args.self.now new key r) (sym (p.1 ∙ ap Err p.2))
    (subst (λ o. TakesKey in_whole o new key (Err e)) c.self.view_is (refuses_key in_whole map_is string_bytes e old new key c.in_err-self-inside.ensures.keeps))
