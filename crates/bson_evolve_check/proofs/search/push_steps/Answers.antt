use Rattle.std.proofs.Common.{◌≡◌, ◌++◌, ◌∷◌, [], length, map, reverse, ap, sym, ◌∙◌, arith}
use Rattle.std.proofs.lemmas.List.{append_assoc, append-nil, length-append, map-append, nil_from_length, reverse-append}
use Rattle.bson_evolve_check.specs.Searching.{pending_at, pending_of}
use Rattle.bson_evolve_check.specs.declared.search.Waiting.{Waiting}
use Rattle.bson_evolve_check.proofs.Going.{pending_of_last}
use Rattle.bson_evolve_check.proofs.search.push_steps.Goals as goal

pub loop-step-preserved : goal.loop-step-preserved
loop-step-preserved c =
    let at = pending_at c.args.level c.args.next.pending.old.table c.args.next.pending.new.table in
    let pending = pending_of c.loop-step.waiting.items in
    let rest = c.pop.new.self.items in
    let s = c.in-Some.step in
    let w : Waiting = record { pending = c.pending_at-pending.result; origin = record { old = c.args.next.old; new = c.args.next.new; before = c.len.result } } in
    ap (λ xs. xs ++ reverse (map at rest)) (pending_of_last c.push.new.self.items c.loop-step.waiting.items w c.in_ok-push.ensures.items ∙ ap (λ d. pending ++ d ∷ []) c.pending_at-pending.ensures)
    ∙ append_assoc pending (at s ∷ []) (reverse (map at rest))
    ∙ ap (λ xs. pending ++ xs) (sym (ap reverse (map-append at rest (s ∷ [])) ∙ reverse-append (map at rest) (at s ∷ [])))
    ∙ ap (λ xs. pending ++ reverse (map at xs)) (sym c.in-Some.ensures.items)
    ∙ c.loop-step.invariant

pub loop-step-smaller : goal.loop-step-smaller
loop-step-smaller c = omega (arith, ap length c.in-Some.ensures.items, length-append c.pop.new.self.items (c.in-Some.step ∷ []))

pub returns : goal.returns
returns c =
    let at = pending_at c.args.level c.args.next.pending.old.table c.args.next.pending.new.table in
    let pending = pending_of c.loop-step.waiting.items in
    let none : c.loop-step.steps.items ≡ [] = nil_from_length c.loop-step.steps.items (omega (arith, c.in_default.ensures.cases.0)) in
    sym (append-nil pending) ∙ ap (λ xs. pending ++ reverse (map at xs)) (sym none) ∙ c.loop-step.invariant
