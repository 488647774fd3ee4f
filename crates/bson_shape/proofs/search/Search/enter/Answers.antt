use Rattle.bson_shape.proofs.Searching.{entered_view}
use Rattle.bson_shape.proofs.search.Search.enter.Goals as goal

pub returns-clause-entered : goal.returns-clause-entered
returns-clause-entered c =
    let old = c.args.self.now in
    entered_view old.unseen old.entered _ old.tasks.items _ _ c.args.name c.args.shape c.in_ok-insert.ensures.updates c.in_ok-push.ensures.items c.in_ok-push-2.ensures.items
