use Rattle.std.proofs.Common.{◌≡◌, ◌<◌, List, [], map, reverse, ap, sym, subst, ◌∙◌, arith}
use Rattle.std.specs.Borrow.{Bor}
use Rattle.std.proofs.lemmas.List.{nil_from_length}
use Rattle.bson_shape.specs.ShapeView.{fields_of}
use Rattle.bson_shape.specs.declared.shape.FieldShape.{FieldShape}
use Rattle.bson_shape.specs.Prover.Search.{Search, task_view, search_view, with_task, Searches, IsUnguarded, left, Goes}
use Rattle.bson_shape.proofs.Searching.{view_of, pushed_view}
use Rattle.bson_shape.proofs.search.Search.run.Goals as goal

pub take-requires : goal.take-requires
take-requires c =
    let s = c.loop-task.self in
    subst (Searches (fields_of s.table.now)) (pushed_view s.unseen s.entered c.pop.new.self.items s.tasks.items c.in-Some.task c.in-Some.ensures.items) c.loop-task.invariant.searches

pub returns-then-not-branch-clause-ran : goal.returns-then-not-branch-clause-ran
returns-then-not-branch-clause-ran c =
    let s = c.loop-task.self in
    let start = with_task (task_view c.in-Some.task) (view_of s.unseen s.entered c.pop.new.self.items) in
    let back : IsUnguarded (fields_of s.table.now) = subst (λ b. Goes (fields_of s.table.now) start b (search_view c.take.new.self)) c.if-not-branch.true c.in_ok-take.ensures.goes in
    subst (λ (t : Bor (List FieldShape)). IsUnguarded (fields_of t.now)) c.loop-task.invariant.table back

pub loop-task-preserved : goal.loop-task-preserved
loop-task-preserved c =
    let s = c.loop-task.self in
    let new = c.take.new.self in
    let kept = c.loop-task.invariant in
    let start = with_task (task_view c.in-Some.task) (view_of s.unseen s.entered c.pop.new.self.items) in
    let goes = subst (λ b. Goes (fields_of s.table.now) start b (search_view new)) c.if-not-branch.false c.in_ok-take.ensures.goes in
    record {
      table = c.take.ensures.table ∙ kept.table;
      fewer = omega (arith, goes.2, kept.fewer);
      searches = subst (λ (t : Bor (List FieldShape)). Searches (fields_of t.now) (search_view new)) (sym c.take.ensures.table) goes.0;
    }

pub loop-task-smaller : goal.loop-task-smaller
loop-task-smaller c =
    let s = c.loop-task.self in
    let new = c.take.new.self in
    let h = fields_of s.table.now in
    let start = with_task (task_view c.in-Some.task) (view_of s.unseen s.entered c.pop.new.self.items) in
    let goes = subst (λ b. Goes h start b (search_view new)) c.if-not-branch.false c.in_ok-take.ensures.goes in
    let same = pushed_view s.unseen s.entered c.pop.new.self.items s.tasks.items c.in-Some.task c.in-Some.ensures.items in
    let less : left h (search_view new) < left h (search_view s) = subst (λ (x : Search). left h (search_view new) < left h x) (sym same) goes.1 in
    subst (λ (t : Bor (List FieldShape)). left (fields_of t.now) (search_view new) < left h (search_view s)) (sym c.take.ensures.table) less

pub returns-clause-ran : goal.returns-clause-ran
returns-clause-ran c =
    let s = c.loop-task.self in
    let kept = c.loop-task.invariant in
    let rest = c.pop.new.self.items in
    let before : s.tasks.items ≡ [] = nil_from_length s.tasks.items (omega (arith, c.in_default.ensures.cases.0)) in
    let behind : rest ≡ [] = nil_from_length rest (omega (arith, c.in_default.ensures.cases.1)) in
    let same = ap (view_of s.unseen s.entered) (before ∙ sym behind) in (
      subst (λ (t : Bor (List FieldShape)). Searches (fields_of t.now) (view_of s.unseen s.entered rest)) kept.table (subst (Searches (fields_of s.table.now)) same kept.searches),
      ap (λ l. reverse (map task_view l)) behind,
      kept.fewer,
    )
