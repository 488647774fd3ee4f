use Rattle.std.proofs.Common.{Ok, ap, sym, subst, rules, ◌∙◌}
use Rattle.bson_kinds.specs.Outcome.{◌>>=◌}
use Rattle.bson_values.specs.Cause.{empty_enum}
use Rattle.bson_laws.specs.Containers.{Pair}
use Rattle.bson_laws.specs.Judged.{Reading}
use Rattle.bson_met.proofs.Refusals.{StopsAs, stops_bind, refused_stops}
use Rattle.bson_de_parts.specs.Enums.{pair_of, end_at}
use Rattle.bson_de_parts.proofs.TreeElements.{none_refused, first_stops, only_first}
use Rattle.bson_de_parts.proofs.from_tree.only_element.Goals as goal

pub returns-in_err-advance : goal.returns-in_err-advance
returns-in_err-advance c =
    let here = first_stops _ _ c.advance.new.step c.in_err-advance.field-0.0 c.in_err-advance.ensures.advanced in
    record { exact = search (rules, here) }

pub returns-then-branch : goal.returns-then-branch
returns-then-branch c = record {
  exact = only_first _ _ c.in_ok-advance.field-0 c.advance.new.step c.in_ok-advance.ensures.advanced c.if-branch.true ∙ ap (λ r. r >>= λ _. Ok (pair_of c.advance.new.step)) c.in_ok-end_of.ensures.exact;
}

pub returns-in_err-end_of : goal.returns-in_err-end_of
returns-in_err-end_of c =
    let stop = c.in_err-end_of.field-0.0 in
    let whole = only_first _ _ c.in_ok-advance.field-0 c.advance.new.step c.in_ok-advance.ensures.advanced c.if-branch.true in
    let here = subst (λ (r : Reading Pair). StopsAs stop r) (sym whole) (stops_bind stop (end_at c.advance.new.self) (λ _. Ok (pair_of c.advance.new.step)) c.in_err-end_of.ensures.exact) in
    record { exact = search (rules, here) }

pub returns : goal.returns
returns c =
    let none = none_refused _ _ c.in_ok-advance.field-0 c.advance.new.step c.in_ok-advance.ensures.advanced c.if-branch.false in
    record { exact = subst (λ (r : Reading Pair). StopsAs c.refused.result r) (sym none) (refused_stops Pair empty_enum c.refused.result c.refused.ensures.here) }
