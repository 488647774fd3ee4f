-- The differences of two shapes: the pairs that pass no row, in the order in which a depth-first search enters them. Source: this library's own comparison of shapes.
use Rattle.std.specs.Prelude.{◌≡◌, ℕ, zero, suc, List, [], ◌∷◌, ◌++◌, map, Option, Some, None, option_map}
use Rattle.bson_kinds.specs.Text.{Utf8}
use Rattle.bson_shape.specs.Form.{Form}
use Rattle.bson_shape.specs.Notation.{text}
use Rattle.bson_values.specs.Refusal.{Path}
use Rattle.bson_evolve_laws.specs.Compatible.{IsCompatible}
use Rattle.bson_evolve_laws.specs.First.{Pair, PendingPair, pending_step, unmet, start, IsFirstFault}
use Rattle.bson_evolve_laws.specs.Rows.{Step, Answer, row}
use Rattle.bson_evolve_differences.specs.Reasons.{Reason}
use Rattle.bson_evolve_differences.specs.Mismatch.{mismatch, common}

-- a pair that passes no row: the path to it, the notation of both parts, seen through, and a reason
pub record Difference : Type 0 where
  pub path : Path
  pub old : Utf8
  pub new : Utf8
  pub reason : Reason

abbrev pub difference : Path → Form → Form → Reason → Difference
difference path a b r = record { path = path; old = text a; new = text b; reason = r }

-- why a pair passes no row, by what a row answers; nothing where one names it
abbrev pub reasons_by : Form → Form → Answer → List Reason
reasons_by a b (Some ss) = []
reasons_by a b None = mismatch a b

-- the pairs that are reached from a pair: those that its row names, and where none names it those that its parts have in common
abbrev pub steps_by : Form → Form → Answer → List Step
steps_by a b (Some ss) = ss
steps_by a b None = common a b

abbrev pub reasons : Form → Form → List Reason
reasons a b = reasons_by a b (row a b)

abbrev pub steps : Form → Form → List Step
steps a b = steps_by a b (row a b)

-- the differences of a pair, one for each reason
abbrev pub differences_at : PendingPair → List Difference
differences_at d = map (difference d.path d.pair.old.form d.pair.new.form) (reasons d.pair.old.form d.pair.new.form)

-- the pairs that are reached from it
abbrev pub reached : PendingPair → List PendingPair
reached d = map (pending_step d) (steps d.pair.old.form d.pair.new.form)

abbrev pub found_first : (List Pair → List PendingPair → Option (List Difference)) → List Pair → List PendingPair → Option (List Difference)
found_first go_on met [] = Some []
found_first go_on met (d ∷ pending) = option_map (λ rest. differences_at d ++ rest) (go_on (d.pair ∷ met) (reached d ++ pending))

-- What is found: the first of the pairs that are to be entered and were not met before is entered, and so on, until each was met. It is cut off as soon as so many were entered.
abbrev pub found : ℕ → List Pair → List PendingPair → Option (List Difference)
found zero met pending = None
found (suc n) met pending = found_first (λ more later. found n more later) met (unmet met pending)

-- these are the differences of the two shapes, in this order
abbrev pub AreDifferences : (old new : Form) → List Difference → Type 0
AreDifferences old new ds = (n : ℕ) × (found n [] (start old new ∷ []) ≡ Some ds)

-- There are none where the shapes are compatible, and else the first one is where the first pair is that passes no row.
abbrev pub BeginsWithFault : (old new : Form) → List Difference → Type 0
BeginsWithFault old new [] = IsCompatible old new
BeginsWithFault old new (d ∷ ds) = IsFirstFault old new d.path
