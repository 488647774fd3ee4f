use Rattle.std.proofs.Common.{append_assoc}
use Rattle.std.proofs.lemmas.Result.{IfOk-weaker}
use Rattle.bson_dates.proofs.printing.text_of.Goals as goal

pub returns : goal.returns
returns c = IfOk-weaker c.format.result _ _ (λ t e. simp append_assoc (simp append_assoc at e)) c.format.ensures.ok
