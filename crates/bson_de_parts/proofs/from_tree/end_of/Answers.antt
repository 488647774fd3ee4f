use Rattle.std.proofs.Common.{sym, subst, rules}
use Rattle.bson_values.specs.Cause.{extra_key}
use Rattle.bson_laws.specs.Judged.{Reading, refused}
use Rattle.bson_met.specs.PieceView.{str_piece}
use Rattle.bson_met.proofs.Refusals.{StopsAs}
use Rattle.bson_de_parts.proofs.TreeElements.{end_refused, end_is, end_stops}
use Rattle.bson_de_parts.proofs.from_tree.end_of.Goals as goal

pub returns-in_err-advance : goal.returns-in_err-advance
returns-in_err-advance c =
    let here = end_stops _ _ c.advance.new.step c.in_err-advance.field-0.0 c.in_err-advance.ensures.advanced in
    record { exact = search (rules, here) }

pub returns-then-branch : goal.returns-then-branch
returns-then-branch c =
    let s = c.advance.new.step in
    let more = end_refused _ _ c.in_ok-advance.field-0 s c.in_ok-advance.ensures.advanced c.if-branch.true in
    let stops : StopsAs c.refused.result (refused {A = Unit {0}} (extra_key (str_piece s.key).bytes)) = search rules in
    record { exact = subst (λ (r : Reading (Unit {0})). StopsAs c.refused.result r) (sym more) stops }

pub returns : goal.returns
returns c = record { exact = end_is _ _ c.in_ok-advance.field-0 c.advance.new.step c.in_ok-advance.ensures.advanced c.if-branch.false }
