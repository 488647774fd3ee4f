-- The first place where compatibility fails. Source: this library's own comparison of shapes, by depth-first search.
use Rattle.std.specs.Prelude.{◌≡◌, ℕ, zero, suc, ◌*◌, length, Bool, false, ◌&&◌, ◌||◌, if◌then◌else◌, List, [], ◌∷◌, ◌++◌, map, Option, Some, None}
use Rattle.bson_shape.specs.Form.{Form, no_fields}
use Rattle.bson_values.specs.Refusal.{Path}
use Rattle.bson_evolve_laws.specs.Placed.{Placed, placed, same_placed, peel}
use Rattle.bson_evolve_laws.specs.Places.{all_places}
use Rattle.bson_evolve_laws.specs.Rows.{Step, Answer, row}

-- a part of the old shape and one of the new one, seen through
pub record Pair : Type 0 where
  pub old : Placed
  pub new : Placed

abbrev pub pair_of : Placed → Placed → Pair
pair_of a b = record { old = peel a; new = peel b }

-- the parts are the same, with the definitions around them
abbrev pub same_pair : Pair → Pair → Bool
same_pair p q = same_placed p.old q.old && same_placed p.new q.new

abbrev pub is_met : List Pair → Pair → Bool
is_met [] p = false
is_met (q ∷ qs) p = same_pair q p || is_met qs p

-- a pair that is to be entered, and the path to it
pub record PendingPair : Type 0 where
  pub path : Path
  pub pair : Pair

-- a pair that the row of another one names
abbrev pub pending_step : PendingPair → Step → PendingPair
pending_step d s = record { path = d.path ++ s.path; pair = pair_of (placed d.pair.old.around s.old) (placed d.pair.new.around s.new) }

-- what a search ends with
pub data Outcome : Type 0 where
  -- each pair that it met passes
  all_pass : List Pair → Outcome
  -- the pair at this path is the first that passes no row
  fault : Path → Outcome
  -- it was cut off
  cut_off : Outcome

-- the pairs that are to be entered, without the pairs before the first that was not met
abbrev pub unmet : List Pair → List PendingPair → List PendingPair
unmet met [] = []
unmet met (d ∷ pending) = if is_met met d.pair then unmet met pending else d ∷ pending

-- A pair is entered: where it passes no row it is the fault, and else the pairs that its row names come before those that were to be entered before.
abbrev pub entered : (List Pair → List PendingPair → Outcome) → List Pair → PendingPair → List PendingPair → Answer → Outcome
entered go_on met d pending None = fault d.path
entered go_on met d pending (Some ss) = go_on (d.pair ∷ met) (map (pending_step d) ss ++ pending)

abbrev pub entered_first : (List Pair → List PendingPair → Outcome) → List Pair → List PendingPair → Outcome
entered_first go_on met [] = all_pass met
entered_first go_on met (d ∷ pending) = entered go_on met d pending (row d.pair.old.form d.pair.new.form)

-- The search: the first of the pairs that are to be entered and were not met before is entered, and so on. It is cut off as soon as it has entered so many.
abbrev pub search : ℕ → List Pair → List PendingPair → Outcome
search zero met pending = cut_off
search (suc n) met pending = entered_first (λ more later. search n more later) met (unmet met pending)

-- the two shapes
abbrev pub start : (old new : Form) → PendingPair
start old new = record { path = []; pair = pair_of (placed no_fields old) (placed no_fields new) }

-- the first pair, in depth-first order, that passes no row is at this path
abbrev pub IsFirstFault : (old new : Form) → Path → Type 0
IsFirstFault old new path = (n : ℕ) × (search n [] (start old new ∷ []) ≡ fault path)

-- one more than there are pairs of a part of each shape
unfoldable pub most_pairs : (old new : Form) → ℕ
most_pairs old new = suc (length (all_places old) * length (all_places new))

abbrev pub fault_of : Outcome → Option Path
fault_of (all_pass met) = None
fault_of (fault path) = Some path
fault_of cut_off = None

-- the path to the first pair, in depth-first order, that passes no row; none where the shapes are compatible
abbrev pub first_fault : (old new : Form) → Option Path
first_fault old new = fault_of (search (most_pairs old new) [] (start old new ∷ []))
