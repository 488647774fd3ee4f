use Rattle.std.proofs.Common.{ap, sym, subst, rules, ◌∙◌}
use Rattle.bson_kinds.specs.Outcome.{◌>>=◌}
use Rattle.bson_base.specs.Tree.{Tree}
use Rattle.bson_values.specs.Cause.{not_borrowed}
use Rattle.bson_values.specs.Refusal.{under}
use Rattle.bson_laws.specs.Judged.{Reading, judged, scope_key}
use Rattle.bson_laws.specs.TreeRaw.{held_scope}
use Rattle.bson_met.specs.OpenedView.{scope_node}
use Rattle.bson_met.proofs.Refusals.{StopsAs, stops_bind, refused_stops}
use Rattle.bson_raw_builder.specs.RawTreeView.{or_not_borrowed}
use Rattle.bson_raw_builder.proofs.reading.scope_in_memory.Goals as goal

pub returns-in_err-judged : goal.returns-in_err-judged
returns-in_err-judged c =
    let here = stops_bind c.in_err-judged.field-0.0 (under scope_key (judged (scope_node c.args.scope))) (λ m. or_not_borrowed (held_scope m)) c.in_err-judged.ensures.exact in
    record { exact = search (rules, here) }

pub returns-in-Some : goal.returns-in-Some
returns-in-Some c = record { exact = ap (λ r. r >>= λ m. or_not_borrowed (held_scope m)) c.in_ok-judged.ensures.exact ∙ ap or_not_borrowed (sym c.in-Some.ensures.held) }

pub returns-in-None : goal.returns-in-None
returns-in-None c =
    let whole = ap (λ r. r >>= λ m. or_not_borrowed (held_scope m)) c.in_ok-judged.ensures.exact ∙ ap or_not_borrowed (sym c.in-None.ensures.held) in
    record { exact = subst (λ (r : Reading Tree). StopsAs c.refused.result r) (sym whole) (refused_stops Tree not_borrowed c.refused.result c.refused.ensures.here) }
