use Rattle.std.proofs.Common.{◌≡◌, true, rules, subst}
use Rattle.bson_laws.specs.Wrapped.{Body}
use Rattle.bson_met.specs.Gives.{Reaches}
use Rattle.bson_wrapped.specs.Bodies.{as_seen, made_by, takes_text}
use Rattle.bson_wrapped.proofs.Made.{text_meant}
use Rattle.bson_wrapped.proofs.bodies.body.Goals as goal

pub returns-in_default : goal.returns-in_default
returns-in_default c =
    let text : takes_text c.args.wrapper ≡ true = search rules in
    record {
      exact = subst (λ (read : Body). Reaches as_seen c.text.result (made_by read c.args.value.now)) (text_meant c.args.wrapper text) c.text.ensures.exact;
    }
