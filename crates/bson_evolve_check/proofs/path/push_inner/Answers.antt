use Rattle.std.proofs.Common.{◌∷◌, [], map, ap, sym, ◌∙◌}
use Rattle.std.proofs.lemmas.List.{append-nil, map-append}
use Rattle.bson_values.specs.PathView.{segment_view}
use Rattle.bson_values.specs.declared.path.Segment.TheVariants.{Index}
use Rattle.bson_evolve_check.proofs.path.push_inner.Goals as goal

pub returns-in-Here : goal.returns-in-Here
returns-in-Here c = rw c.in-Here.is (sym (append-nil (map segment_view c.args.segments.now.items)))

pub returns-in_ok-push-in-Index : goal.returns-in_ok-push-in-Index
returns-in_ok-push-in-Index c = rw c.in-Index.is (ap (map segment_view) c.in_ok-push-in-Index.ensures.items ∙ map-append segment_view c.args.segments.now.items (Index c.in-Index.index ∷ []))
