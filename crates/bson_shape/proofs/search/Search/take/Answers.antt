use Rattle.std.proofs.Common.{◌≡◌, true, ap, sym, subst}
use Rattle.bson_shape.specs.ShapeView.{fields_of}
use Rattle.bson_shape.specs.Prover.Search.{leave, task_view, with_task, search_view, Searches, Goes}
use Rattle.bson_shape.proofs.Searched.{goes_leaving}
use Rattle.bson_shape.proofs.Searching.{view_of, left_view}
use Rattle.bson_shape.proofs.search.Search.take.Goals as goal

pub returns-in-Leave-clause-goes : goal.returns-in-Leave-clause-goes
returns-in-Leave-clause-goes c =
    let old = c.args.self.now in
    let h = fields_of old.table.now in
    let s = search_view old in
    let name = c.in-Leave.name in
    let after = view_of old.unseen c.remove.new.self old.tasks.items in
    let same : task_view c.args.task ≡ leave name.now = ap task_view c.in-Leave.is in
    let here : Searches h (with_task (leave name.now) s) = subst (λ t. Searches h (with_task t s)) same c.requires in
    let goes : Goes h (with_task (leave name.now) s) true after = subst (Goes h (with_task (leave name.now) s) true) (sym (left_view old.unseen old.entered c.remove.new.self old.tasks.items name c.remove.ensures.updates)) (goes_leaving h s name.now here) in
    subst (λ t. Goes h (with_task t s) true after) (sym same) goes
