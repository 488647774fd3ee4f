use Rattle.std.proofs.Common.{◌++◌, [], Some, ap, ◌∙◌}
use Rattle.bson_shape.specs.ShapeView.{fields_of}
use Rattle.bson_evolve_laws.specs.Rows.{each_field}
use Rattle.bson_evolve_check.specs.Steps.{steps_view}
use Rattle.bson_evolve_check.proofs.row.each_field.Goals as goal

pub returns : goal.returns
returns c = ap Some (c.in_ok-push_each_field.ensures ∙ ap (λ xs. steps_view xs ++ each_field [] (fields_of c.args.old.now) c.args.new.now) c.new-steps.ensures.items)
