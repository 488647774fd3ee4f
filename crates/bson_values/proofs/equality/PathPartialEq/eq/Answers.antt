use Rattle.std.proofs.Common.{◌∙◌}
use Rattle.bson_values.specs.PathView.{path_view}
use Rattle.bson_values.specs.Same.{same_path}
use Rattle.bson_values.specs.Prover.Decided.{same_path_decides}
use Rattle.bson_kinds.proofs.Decisions.{exactly}
use Rattle.bson_values.proofs.Segments.{same_segments}
use Rattle.bson_values.proofs.equality.PathPartialEq.eq.Goals as goal

pub returns-clause-value : goal.returns-clause-value
returns-clause-value c = c.eq.ensures ∙ same_segments c.segments.result.now c.segments-2.result.now ∙ (λ i. same_path (c.segments.ensures.segments i) (c.segments-2.ensures.segments i))

pub returns-clause-equal : goal.returns-clause-equal
returns-clause-equal c = exactly _ _ (returns-clause-value c) (same_path_decides (path_view c.args.self.now) (path_view c.args.other.now))
