use Rattle.std.proofs.Common.{◌≡◌, rules, ap, sym, subst, ◌∙◌}
use Rattle.bson_kinds.specs.Outcome.{◌>>=◌}
use Rattle.bson_values.specs.Cause.{invalid_type}
use Rattle.bson_values.specs.Marked.{Marked}
use Rattle.bson_datum.specs.MarkedView.{marked}
use Rattle.bson_laws.specs.Assembled.{RawBytes}
use Rattle.bson_laws.specs.Judged.{Reading, refused, judged}
use Rattle.bson_laws.specs.TreeRaw.{in_bytes, built_container}
use Rattle.bson_met.specs.Gives.{Reaches}
use Rattle.bson_met.proofs.Refusals.{StopsAs, stops_bind, refused_stops}
use Rattle.bson_raw_parts.specs.BuiltView.{IsContainer, raw_made}
use Rattle.bson_raw_builder.proofs.RawLeaves.{raw_apart, of_this_kind, of_other_kind}
use Rattle.bson_raw_builder.proofs.reading.read_of_kind.Goals as goal

pub returns-in_err-built : goal.returns-in_err-built
returns-in_err-built c =
    let k = c.args.kind in
    let n = c.args.value.now in
    let stop = c.in_err-built.field-0.0 in
    let here = subst (λ (r : Reading Marked). StopsAs stop r) (sym (raw_apart k n)) (stops_bind stop (judged n >>= built_container) (in_bytes k (raw_made k)) c.in_err-built.ensures.built) in
    record { exact = search (rules, here) }

pub returns-then-eq : goal.returns-then-eq
returns-then-eq c =
    let k = c.args.kind in
    let n = c.args.value.now in
    let b = c.in_ok-built.ensures.built in
    let same : c.in_ok-built.built.element_type ≡ k = search rules in
    let is = sym (ap (λ (r : RawBytes). r.kind) b.2) ∙ same in
    let whole = raw_apart k n ∙ ap (λ r. r >>= in_bytes k (raw_made k)) b.1 ∙ of_this_kind k b.0 is in
    record { exact = subst (λ (r : Reading Marked). Reaches marked c.container_value.result r) (sym whole) (c.container_value.ensures.exact b.0 b.3 (subst IsContainer (sym is) c.requires.container) b.2) }

pub returns : goal.returns
returns c =
    let k = c.args.kind in
    let n = c.args.value.now in
    let b = c.in_ok-built.ensures.built in
    let other : c.in_ok-built.built.element_type ≡ k → ⊥ = search rules in
    let is = ap (λ (r : RawBytes). r.kind) b.2 in
    let whole = raw_apart k n ∙ ap (λ r. r >>= in_bytes k (raw_made k)) b.1 ∙ of_other_kind k b.0 (λ same. other (is ∙ same)) ∙ ap (λ l. refused (invalid_type l)) (sym is) in
    record { exact = subst (λ (r : Reading Marked). StopsAs c.refused.result r) (sym whole) (refused_stops Marked (invalid_type c.in_ok-built.built.element_type) c.refused.result c.refused.ensures.here) }
