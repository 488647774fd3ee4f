use Rattle.std.proofs.Common.{[], ap, ◌∙◌}
use Rattle.bson_shape.specs.ShapeView.{parts_of}
use Rattle.bson_evolve_laws.specs.Rows.{parts_row}
use Rattle.bson_evolve_check.specs.Steps.{behind, steps_view}
use Rattle.bson_evolve_check.proofs.RowLists.{behind_none}
use Rattle.bson_evolve_check.proofs.row.to_items.Goals as goal

pub returns : goal.returns
returns c =
    let r = parts_row [] 0 (parts_of c.args.old.now) (parts_of c.args.new.now) in
    c.steps_if.ensures ∙ c.in_ok-passes.ensures ∙ ap (λ xs. behind (steps_view xs) r) c.new-steps.ensures.items ∙ behind_none r
