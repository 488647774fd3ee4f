use Rattle.std.proofs.Common.{◌++◌, ◌∷◌, [], map, ap, ◌∙◌}
use Rattle.std.proofs.lemmas.List.{map-append}
use Rattle.bson_kinds.specs.Text.{Utf8}
use Rattle.bson_values.specs.PathView.{segment_view}
use Rattle.bson_values.specs.Refusal.{at_key}
use Rattle.bson_values.specs.declared.path.Segment.TheVariants.{Key}
use Rattle.bson_evolve_check.proofs.path.push_key.Goals as goal

pub returns : goal.returns
returns c =
    let before = c.args.segments.now.items in
    let new = c.in_ok-from_str.field-0 in
    ap (map segment_view) c.in_ok-push.ensures.items ∙ map-append segment_view before (Key new ∷ []) ∙ ap (λ (t : Utf8). map segment_view before ++ at_key t ∷ []) c.in_ok-from_str.ensures.ok
