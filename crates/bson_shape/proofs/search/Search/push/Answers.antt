use Rattle.bson_shape.specs.declared.search.Task.TheVariants as tasks
use Rattle.bson_shape.proofs.Searching.{pushed_view}
use Rattle.bson_shape.proofs.search.Search.push.Goals as goal

pub returns-clause-pushed : goal.returns-clause-pushed
returns-clause-pushed c = let old = c.args.self.now in pushed_view old.unseen old.entered old.tasks.items _ (tasks.Follow c.args.shape) c.in_ok-push.ensures.items
