use Rattle.std.proofs.Common.{◌++◌, ◌∷◌, [], Some, ap, ◌∙◌}
use Rattle.bson_evolve_check.specs.Steps.{steps_view}
use Rattle.bson_evolve_check.specs.declared.step.Step.{Step}
use Rattle.bson_evolve_check.proofs.step.needs.Goals as goal

pub returns : goal.returns
returns c =
    let s : Step = record { way = c.args.way; old = c.args.old; new = c.args.new } in
    ap (λ xs. Some (steps_view xs)) (c.in_ok-push.ensures.items ∙ ap (λ xs. xs ++ s ∷ []) c.new-steps.ensures.items)
