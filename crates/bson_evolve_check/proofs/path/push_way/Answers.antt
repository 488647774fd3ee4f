use Rattle.std.proofs.Common.{◌++◌, map, ap, ◌∙◌}
use Rattle.std.proofs.lemmas.List.{append_assoc}
use Rattle.bson_values.specs.PathView.{segment_view}
use Rattle.bson_evolve_check.specs.Steps.{inner_path, variant_path}
use Rattle.bson_evolve_check.proofs.path.push_way.Goals as goal

pub returns : goal.returns
returns c =
    let way = c.args.way.now in
    c.in_ok-push_inner.ensures
    ∙ ap (λ z. z ++ inner_path way.inner) c.in_ok-push_variant.ensures
    ∙ append_assoc (map segment_view c.args.segments.now.items) (variant_path way.variant) (inner_path way.inner)
