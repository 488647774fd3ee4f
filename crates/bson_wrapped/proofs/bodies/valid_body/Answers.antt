use Rattle.std.proofs.Common.{Ok, rules, ap, subst, sym, ◌∙◌}
use Rattle.bson_values.specs.Cause.{bad_body}
use Rattle.bson_values.specs.Marked.{Marked}
use Rattle.bson_datum.specs.MarkedView.{marked}
use Rattle.bson_laws.specs.Judged.{Reading}
use Rattle.bson_laws.specs.Wrapped.{meaning}
use Rattle.bson_met.proofs.Refusals.{StopsAs, refused_stops}
use Rattle.bson_wrapped.specs.Bodies.{as_seen, body_of}
use Rattle.bson_wrapped.proofs.Made.{valid, invalid, valid_stops}
use Rattle.bson_wrapped.proofs.bodies.valid_body.Goals as goal

pub returns-in_err-value : goal.returns-in_err-value
returns-in_err-value c =
    let w = c.args.wrapper in let here = valid_stops w (body_of (meaning w)) c.args.value.now c.in_err-value.field-0.0 c.in_err-value.ensures.exact in record { exact = search (rules, here) }

pub returns-in-Some : goal.returns-in-Some
returns-in-Some c = let w = c.args.wrapper in record { exact = valid w (body_of (meaning w)) c.args.value.now (marked c.in-Some.value) (c.in_ok-value.ensures.exact ∙ ap (λ o. Ok (as_seen o)) c.in-Some.is) }

pub returns-in-None : goal.returns-in-None
returns-in-None c =
    let w = c.args.wrapper in
    record {
      exact = subst (λ (r : Reading Marked). StopsAs c.refused.result r) (sym (invalid w (body_of (meaning w)) c.args.value.now (c.in_ok-value.ensures.exact ∙ ap (λ o. Ok (as_seen o)) c.in-None.is))) (refused_stops Marked (bad_body w) c.refused.result c.refused.ensures.here);
    }
