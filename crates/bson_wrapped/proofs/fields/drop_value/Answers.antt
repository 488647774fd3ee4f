use Rattle.std.proofs.Common.{sym, subst, ap, ◌∙◌}
use Rattle.bson_values.specs.Refusal.{at_key, under}
use Rattle.bson_laws.specs.Judged.{Reading, ignores}
use Rattle.bson_met.specs.PieceView.{str_piece}
use Rattle.bson_met.proofs.Refusals.{StopsAs, stops_inside}
use Rattle.bson_texts.proofs.Loops.{ignored_at}
use Rattle.bson_wrapped.proofs.fields.drop_value.Goals as goal

pub returns-in-Ok : goal.returns-in-Ok
returns-in-Ok c =
    let s = c.args.step.now in
    record { exact = ap (under (str_piece s.key).bytes) (sym (ignored_at s.value) ∙ c.in-Ok.ensures.exact) }

pub returns-in-Err : goal.returns-in-Err
returns-in-Err c =
    let s = c.args.step.now in
    let here = subst (λ (r : Reading (Unit {0})). StopsAs c.in-Err.stop r) (ignored_at s.value) c.in-Err.ensures.exact in
    record { exact = stops_inside (at_key (str_piece s.key).bytes) c.in-Err.stop c.under_key.result (ignores s.value) c.under_key.ensures.under here }
