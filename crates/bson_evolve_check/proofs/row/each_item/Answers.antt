use Rattle.std.proofs.Common.{◌++◌, [], Some, ap, ◌∙◌}
use Rattle.bson_shape.specs.ShapeView.{parts_of}
use Rattle.bson_evolve_laws.specs.Rows.{each_part}
use Rattle.bson_evolve_check.specs.Steps.{steps_view}
use Rattle.bson_evolve_check.proofs.row.each_item.Goals as goal

pub returns : goal.returns
returns c = ap Some (c.in_ok-push_each_item.ensures ∙ ap (λ xs. steps_view xs ++ each_part [] 0 (parts_of c.args.old.now) c.args.new.now) c.new-steps.ensures.items)
