use Rattle.std.proofs.Common.{◌≡◌, ◌-◌, length, drop}
use Rattle.bson_editing.specs.AroundView.{around_of}
use Rattle.bson_editing.specs.Edited.{edited_by, missing_by}
use Rattle.bson_editing.specs.PlanView.{steps_of}
use Rattle.bson_editing.proofs.Edits.{IsFilled, ArePut}
use Rattle.bson_editing.proofs.edit.+edit.Given as goal

-- No step so far is for the element, and nothing was written.
abbrev pub invariant-edit_next-loop-step : goal.invariant-edit_next-loop-step
invariant-edit_next-loop-step g l =
    (l.out.items ≡ l.fn.out.items)
    × (edited_by (g.C.Changes.changing l.changes) (steps_of (drop l.step-index l.steps)) (around_of l.around) l.index l.element
    ≡ edited_by (g.C.Changes.changing l.changes) (steps_of l.steps) (around_of l.around) l.index l.element)

abbrev pub invariant-edit_each-loop-step : goal.invariant-edit_each-loop-step
invariant-edit_each-loop-step g l =
    IsFilled (edited_by (g.C.Changes.changing l.changes) (steps_of l.steps) (around_of l.around)) l.elements l.fn.out.items l.out.items l.index l.from l.at

abbrev pub decreases-edit_each-loop-step : goal.decreases-edit_each-loop-step
decreases-edit_each-loop-step g l = length l.elements - l.at

abbrev pub invariant-put_missing-loop-step : goal.invariant-put_missing-loop-step
invariant-put_missing-loop-step g l = ArePut (missing_by (g.C.Changes.changing l.changes) (steps_of l.steps) (around_of l.around)) (missing_by (g.C.Changes.changing l.changes) (steps_of (drop l.step-index l.steps)) (around_of l.around)) l.fn.out.items l.out.items
