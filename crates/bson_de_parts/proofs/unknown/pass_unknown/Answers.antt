use Rattle.std.proofs.Common.{sym, subst, ap, ◌∙◌}
use Rattle.bson_values.specs.Refusal.{at_key, under}
use Rattle.bson_laws.specs.Judged.{Reading, ignores}
use Rattle.bson_laws.specs.Slots.{unknown}
use Rattle.bson_met.specs.Gives.{Reaches}
use Rattle.bson_met.specs.PieceView.{str_piece}
use Rattle.bson_met.proofs.Refusals.{StopsAs, stops_inside}
use Rattle.bson_slots.specs.FieldsRead.{unknown_of}
use Rattle.bson_texts.proofs.Loops.{ignored_at}
use Rattle.bson_de_parts.proofs.unknown.pass_unknown.Goals as goal

pub returns-then-closed : goal.returns-then-closed
returns-then-closed c =
    let s = c.args.step.now in
    record { exact = subst (λ (r : Reading (Unit {0})). Reaches (λ x. x) c.deny.result r) (sym (ap (λ b. unknown (unknown_of b) (str_piece s.key).bytes s.value) c.if-closed.true)) c.deny.ensures.exact }

pub returns-in-Ok : goal.returns-in-Ok
returns-in-Ok c =
    let s = c.args.step.now in
    let key = (str_piece s.key).bytes in
    record { exact = ap (λ b. unknown (unknown_of b) key s.value) c.if-closed.false ∙ ap (under key) (sym (ignored_at s.value) ∙ c.in-Ok.ensures.exact) }

pub returns-in-Err : goal.returns-in-Err
returns-in-Err c =
    let s = c.args.step.now in
    let key = (str_piece s.key).bytes in
    let here = subst (λ (r : Reading (Unit {0})). StopsAs c.in-Err.stop r) (ignored_at s.value) c.in-Err.ensures.exact in
    record {
      exact = subst (λ (r : Reading (Unit {0})). StopsAs c.under_key.result r) (sym (ap (λ b. unknown (unknown_of b) key s.value) c.if-closed.false))
          (stops_inside (at_key key) c.in-Err.stop c.under_key.result (ignores s.value) c.under_key.ensures.under here);
    }
