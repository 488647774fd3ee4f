use Rattle.std.proofs.Common.{Ok, ap, sym, subst, ◌∙◌, rules}
use Rattle.std.specs.Prelude.{option_map}
use Rattle.bson_kinds.specs.Outcome.{◌>>=◌}
use Rattle.bson_base.specs.Tree as tree
use Rattle.bson_base.specs.Tree.{Tree}
use Rattle.bson_values.specs.Cause.{bad_body}
use Rattle.bson_values.specs.declared.wrapper.Wrapper.TheVariants.{Binary}
use Rattle.bson_laws.specs.Judged.{Reading}
use Rattle.bson_laws.specs.Trees.{or_bad}
use Rattle.bson_laws.specs.Wrapped.{meaning}
use Rattle.bson_met.proofs.Refusals.{StopsAs, stops_bind, refused_stops}
use Rattle.bson_wrapped.specs.Bodies.{body_of}
use Rattle.bson_wrapped.proofs.binaries.valid_binary.Goals as goal

pub returns-in_err-binary : goal.returns-in_err-binary
returns-in_err-binary c =
    let here = stops_bind c.in_err-binary.field-0.0 (body_of (meaning Binary) c.args.value.now) (or_bad Binary) c.in_err-binary.ensures.exact in record { exact = search (rules, here) }

pub returns-in-Some : goal.returns-in-Some
returns-in-Some c = record { exact = ap (λ r. r >>= or_bad Binary) (c.in_ok-binary.ensures.exact ∙ ap (λ o. Ok (option_map (λ p. tree.binary p.0.0 p.1.items) o)) c.in-Some.is) }

pub returns-in-None : goal.returns-in-None
returns-in-None c =
    let none = ap (λ r. r >>= or_bad Binary) (c.in_ok-binary.ensures.exact ∙ ap (λ o. Ok (option_map (λ p. tree.binary p.0.0 p.1.items) o)) c.in-None.is) in
    record { exact = subst (λ (r : Reading Tree). StopsAs c.refused.result r) (sym none) (refused_stops Tree (bad_body Binary) c.refused.result c.refused.ensures.here) }
