use Rattle.std.proofs.Common.{sym}
use Rattle.bson_reserved.proofs.Short.{unwrap_short, base64_given_short}
use Rattle.bson_reserved.proofs.unwrapping.unwrap.Goals as goal

pub returns-in_err-list-in_default : goal.returns-in_err-list-in_default
returns-in_err-list-in_default c =
    let kind = c.in_default in
    let long = c.in_err-list-in_default.ensures.value in
    record {
      accepted = rw c.from_residual.ensures (sym (unwrap_short c.args.kind _ kind.not-Undefined kind.not-MaxKey kind.not-MinKey long));
      base64 = rw c.from_residual.ensures (sym (base64_given_short c.args.kind _ long));
      kind = rw c.from_residual.ensures tt;
    }
