use Rattle.std.proofs.Common.{sym}
use Rattle.bson_reserved.proofs.Short.{scoped_code_short}
use Rattle.bson_reserved.proofs.scoped.scoped_code.Goals as goal

pub returns-in_err-list-clause-value : goal.returns-in_err-list-clause-value
returns-in_err-list-clause-value c = rw c.from_residual.ensures (sym (scoped_code_short _ c.in_err-list.ensures.value))
