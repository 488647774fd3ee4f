use Rattle.std.proofs.lemmas.Result.{err_from_is_err_and}
use Rattle.bson_base.proofs.Base64Texts.{base64_some, base64_none}
use Rattle.bson_ser_stream.proofs.Base64Groups.{no_room}
use Rattle.bson_ser_stream.proofs.base64_text.push_group.Goals as goal

pub returns-in_default-clause-decoded : goal.returns-in_default-clause-decoded
returns-in_default-clause-decoded g c = base64_none _ _ c.in_default.ensures.err

pub returns-in_err-push_all-clause-decoded : goal.returns-in_err-push_all-clause-decoded
returns-in_err-push_all-clause-decoded g c =
    let p = err_from_is_err_and c.from_residual.result c.from_residual.ensures.1 in
    rw (p.1, p.2) (no_room _ _ _ (base64_some _ _ c.in-Ok.ensures.ok.0) (λ fits. cc (c.in_err-push_all.ensures.free fits)))

pub returns-clause-decoded : goal.returns-clause-decoded
returns-clause-decoded g c = record { bytes = _; is_expected = base64_some _ _ c.in-Ok.ensures.ok.0; appended = c.in_ok-push_all.ensures.ok }
