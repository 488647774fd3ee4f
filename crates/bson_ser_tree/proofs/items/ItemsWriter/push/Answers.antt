use Rattle.std.proofs.Common.{◌∷◌, ◌++◌, [], ap, sym, ◌∙◌}
use Rattle.std.specs.Prelude.{if◌then◌else◌}
use Rattle.bson_datum.specs.View.{view}
use Rattle.bson_ser_tree.proofs.Pushed.{item_pushed}
use Rattle.bson_ser_tree.proofs.items.ItemsWriter.push.Goals as goal

pub returns-else-is_err-clause-steps : goal.returns-else-is_err-clause-steps
returns-else-is_err-clause-steps c =
    let so_far = c.in-Some.trees in
    let all = so_far.items ++ c.in-Ok.tree ∷ [] in
    item_pushed c.args.self.now.readable (view c.args.value.now) c.args.levels c.args.self.now.trees so_far c.push.new.self c.in-Ok.tree (sym c.take.ensures.value ∙ c.in-Some.is) c.in-Ok.ensures (c.push.ensures.items ∙ ap (λ b. if b then all else so_far.items) c.if-is_err.ensures.negation)
