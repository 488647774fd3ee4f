use Rattle.std.proofs.Common.{◌≡◌, List, map, reverse, length, Some, option_map, false, true, refl, ap, sym, subst, ◌∙◌, arith}
use Rattle.std.specs.Borrow.{Bor}
use Rattle.std.specs.BTreeMap.{btree_map_len}
use Rattle.std.proofs.lemmas.List.{nil_from_length}
use Rattle.bson_shape.specs.Form.{Form}
use Rattle.bson_shape.specs.ShapeView.{fields_of}
use Rattle.bson_shape.specs.declared.shape.FieldShape.{FieldShape}
use Rattle.bson_shape.specs.Prover.Search.{Search, task_view, search_view, entering, Searches, IsUnguarded, Ran}
use Rattle.bson_shape.proofs.Searched.{begins, starts, ended, back_false}
use Rattle.bson_shape.proofs.Searching.{unseen_none, entered_none, taken_view, none_left, zero_if}
use Rattle.bson_shape.proofs.search.is_guarded_by_search.Goals as goal

pub loop-name-init : goal.loop-name-init
loop-name-init c = record {
  table = refl;
  done = c.new-2.ensures.items;
  searches = begins (fields_of c.args.table.now) _ c.in_ok-all_unseen.ensures (entered_none c.new.result c.new.ensures.empty) (ap (λ l. reverse (map task_view l)) c.new-2.ensures.items);
}

pub run-requires : goal.run-requires
run-requires c =
    let s = c.loop-name.search in
    let kept = c.loop-name.invariant in
    let h = fields_of c.args.table.now in
    let name = c.in-Some.name in
    let shape = c.in-Some.shape in
    let rest = c.pop_first.new.self in
    let new = c.enter.new.self in
    let is : (search_view s).unseen name.now ≡ Some shape.now = ap (option_map (λ (x : Bor Form). x.now)) c.in-Some.ensures.value in
    let view = c.in_ok-enter.ensures.entered ∙ ap (entering name.now shape.now) (taken_view s.unseen rest s.entered s.tasks.items name c.in-Some.ensures.updates) in
    let table : new.table.now ≡ c.args.table.now = ap (λ (t : Bor (List FieldShape)). t.now) c.enter.ensures.table ∙ kept.table in
    subst (λ gs. Searches (fields_of gs) (search_view new)) (sym table)
    (subst (Searches h) (sym view) (starts h (search_view s) name.now shape.now (btree_map_len rest) is (ap (λ l. reverse (map task_view l)) kept.done) kept.searches))

pub returns-then-not-branch : goal.returns-then-not-branch
returns-then-not-branch c =
    let h = fields_of c.args.table.now in
    let new = c.enter.new.self in
    let table : new.table.now ≡ c.args.table.now = ap (λ (t : Bor (List FieldShape)). t.now) c.enter.ensures.table ∙ c.loop-name.invariant.table in
    let back : IsUnguarded (fields_of new.table.now) = subst (λ b. Ran (fields_of new.table.now) (search_view new) b (search_view c.run.new.self)) c.if-not-branch.true c.in_ok-run.ensures.ran in
    sym (back_false h (subst (λ gs. IsUnguarded (fields_of gs)) table back))

pub loop-name-preserved : goal.loop-name-preserved
loop-name-preserved c =
    let start = c.enter.new.self in
    let new = c.run.new.self in
    let table : start.table.now ≡ c.args.table.now = ap (λ (t : Bor (List FieldShape)). t.now) c.enter.ensures.table ∙ c.loop-name.invariant.table in
    let ran = subst (λ b. Ran (fields_of start.table.now) (search_view start) b (search_view new)) c.if-not-branch.false c.in_ok-run.ensures.ran in
    record {
      table = ap (λ (t : Bor (List FieldShape)). t.now) c.run.ensures.table ∙ table;
      done = none_left new.tasks.items ran.1;
      searches = subst (λ gs. Searches (fields_of gs) (search_view new)) table ran.0;
    }

pub loop-name-smaller : goal.loop-name-smaller
loop-name-smaller c =
    let s = c.loop-name.search in
    let start = c.enter.new.self in
    let new = c.run.new.self in
    let name = c.in-Some.name in
    let shape = c.in-Some.shape in
    let view = c.in_ok-enter.ensures.entered ∙ ap (entering name.now shape.now) (taken_view s.unseen c.pop_first.new.self s.entered s.tasks.items name c.in-Some.ensures.updates) in
    let ran = subst (λ b. Ran (fields_of start.table.now) (search_view start) b (search_view new)) c.if-not-branch.false c.in_ok-run.ensures.ran in
    omega (arith, ran.2, ap (λ (x : Search). x.count) view, c.in-Some.ensures.len)

pub returns : goal.returns
returns c =
    let s = c.loop-name.search in
    let kept = c.loop-name.invariant in
    let empty = nil_from_length s.unseen.entries (zero_if (length s.unseen.entries) (λ more. let e : false ≡ true = c.in_default.ensures.variant.1 more in cc)) in
    sym (ended (fields_of c.args.table.now) (search_view s) kept.searches (ap (λ l. reverse (map task_view l)) kept.done) (unseen_none s.unseen empty))
