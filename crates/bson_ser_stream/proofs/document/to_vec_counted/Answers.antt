use Rattle.std.proofs.Common.{ℕ, Err, ap, sym, subst, ◌∙◌}
use Rattle.std.proofs.lemmas.Result.{err_from_is_err_and}
use Rattle.bson_base.specs.Tree.{enc}
use Rattle.bson_datum.specs.View.{view}
use Rattle.std.specs.Global.{Vec}
use Rattle.bson_ser_stream.specs.Writing.{GivesBytes}
use Rattle.bson_ser_stream.proofs.Meant.{sound_bytes, sound_fails}
use Rattle.bson_ser_stream.proofs.document.to_vec_counted.Goals as goal

pub returns-in_err-to_buf-clause-sound : goal.returns-in_err-to_buf-clause-sound
returns-in_err-to_buf-clause-sound g c = λ t e s.
    let p = err_from_is_err_and c.from_residual.result c.from_residual.ensures.1 in
    subst (GivesBytes (λ (v : Vec ℕ). v.items) (enc t)) (sym (p.1 ∙ ap Err p.2)) (sound_fails (view c.args.value.now) t _ e s c.in_err-to_buf.ensures.refused)

pub returns-clause-sound : goal.returns-clause-sound
returns-clause-sound g c = λ t e s. sound_bytes (view c.args.value.now) t c.new-out.result.bytes c.to_buf.new.out.bytes c.into_vec.result.items e s c.new-out.ensures c.into_vec.ensures c.in_ok-to_buf.ensures.bytes
