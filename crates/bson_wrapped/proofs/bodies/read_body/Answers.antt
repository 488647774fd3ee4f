use Rattle.std.proofs.Common.{ap, sym, subst, ◌∙◌}
use Rattle.bson_values.specs.Marked.{Marked}
use Rattle.bson_values.specs.Refusal.{at_key, under}
use Rattle.bson_laws.specs.Judged.{Reading}
use Rattle.bson_laws.specs.Wrapped.{meaning}
use Rattle.bson_met.specs.PieceView.{str_piece}
use Rattle.bson_met.proofs.Refusals.{StopsAs, stops_inside}
use Rattle.bson_wrapped.specs.Bodies.{body_of, valid_at}
use Rattle.bson_wrapped.proofs.Made.{valid_under}
use Rattle.bson_wrapped.proofs.bodies.read_body.Goals as goal

pub returns-in-Ok : goal.returns-in-Ok
returns-in-Ok c =
    let w = c.args.wrapper in
    let s = c.args.step.now in
    let key = (str_piece s.key).bytes in
    record { exact = sym (valid_under w (body_of (meaning w)) s.value key) ∙ ap (under key) c.in-Ok.ensures.exact }

pub returns-in-Err : goal.returns-in-Err
returns-in-Err c =
    let w = c.args.wrapper in
    let s = c.args.step.now in
    let key = (str_piece s.key).bytes in
    let here = stops_inside (at_key key) c.in-Err.stop c.under_key.result (valid_at w (body_of (meaning w)) s.value) c.under_key.ensures.under c.in-Err.ensures.exact in
    record { exact = subst (λ (r : Reading Marked). StopsAs c.under_key.result r) (valid_under w (body_of (meaning w)) s.value key) here }
