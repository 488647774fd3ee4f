use Rattle.std.proofs.Common.{◌∙◌, inl, inr}
use Rattle.bson_values.specs.PathView.{path_view}
use Rattle.bson_evolve_laws.specs.Compatible.{IsCompatible}
use Rattle.bson_evolve_laws.specs.First.{IsFirstFault}
use Rattle.bson_evolve_run.proofs.running.answer_to_verdict.Goals as goal

pub returns-in_ok-text-in-Yes : goal.returns-in_ok-text-in-Yes
returns-in_ok-text-in-Yes c = λ old new verdict good.
    let compatible : IsCompatible old new = rw c.in-Yes.is at verdict in
    (good, inl (record { compatible = compatible; ended = c.written.ensures.status; writes = c.written.ensures.bytes ∙ c.in_ok-text-in-Yes.ensures.ok; nothing = c.written.ensures.lines }))

pub returns-in_ok-text-in-No : goal.returns-in_ok-text-in-No
returns-in_ok-text-in-No c = λ old new verdict good.
    let first : IsFirstFault old new (path_view c.in-No.path) = rw c.in-No.is at verdict in
    (good, inr (record { path = path_view c.in-No.path; first = first; ended = c.written-in-No.ensures.status; writes = c.written-in-No.ensures.bytes ∙ c.in_ok-text-in-No.ensures; nothing = c.written-in-No.ensures.lines }))
