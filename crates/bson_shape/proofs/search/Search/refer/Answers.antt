use Rattle.std.proofs.Common.{◌≡◌, suc, not, Some, None, option_map, true, ap, sym, subst, ◌∙◌, arith}
use Rattle.std.specs.Borrow.{Bor}
use Rattle.std.specs.BTreeMap.{btree_map_len}
use Rattle.bson_shape.specs.Form as form
use Rattle.bson_shape.specs.Form.{Form}
use Rattle.bson_shape.specs.ShapeView.{fields_of}
use Rattle.bson_shape.specs.Prover.Search.{follow, with_task, entering, search_view, Goes}
use Rattle.bson_shape.proofs.Searched.{goes_entering, goes_back}
use Rattle.bson_shape.proofs.Searching.{taken_view, same_view}
use Rattle.bson_shape.proofs.search.Search.refer.Goals as goal

pub returns-in_ok-enter-in-Some-clause-goes : goal.returns-in_ok-enter-in-Some-clause-goes
returns-in_ok-enter-in-Some-clause-goes c =
    let old = c.args.self.now in
    let h = fields_of old.table.now in
    let name = c.args.name in
    let shape = c.in-Some.shape in
    let rest = c.remove.new.self in
    let is : (search_view old).unseen name.now ≡ Some shape.now = sym (ap (option_map (λ (s : Bor Form). s.now)) c.in-Some.ensures.value) in
    let fewer : suc (btree_map_len rest) ≡ btree_map_len old.unseen = omega (arith, c.in-Some.ensures.len) in
    let view = c.in_ok-enter-in-Some.ensures.entered ∙ ap (entering name.now shape.now) (taken_view old.unseen rest old.entered old.tasks.items name c.remove.ensures.updates) in
    subst (Goes h (with_task (follow (form.reference name.now)) (search_view old)) true) (sym view) (goes_entering h (search_view old) name.now shape.now (btree_map_len rest) is fewer c.requires)

pub returns-in-None-clause-goes : goal.returns-in-None-clause-goes
returns-in-None-clause-goes c =
    let old = c.args.self.now in
    let h = fields_of old.table.now in
    let name = c.args.name in
    let found = c.contains.result in
    let none : (search_view old).unseen name.now ≡ None = sym (ap (option_map (λ (s : Bor Form). s.now)) c.in-None.ensures.value) in
    subst (Goes h (with_task (follow (form.reference name.now)) (search_view old)) (not found)) (sym (same_view old.unseen c.remove.new.self old.entered old.tasks.items c.in-None.ensures.unchanged))
    (goes_back h (search_view old) name.now found none (sym c.contains.ensures) c.requires)
