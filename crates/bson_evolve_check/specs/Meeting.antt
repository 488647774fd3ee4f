-- The pairs that were met, by the numbers of their parts. Source: this library's own comparison of shapes, by depth-first search.
use Rattle.std.specs.Prelude.{◌≡◌, ◌<◌, ℕ, Bool, true, List, ◌∷◌, length, not, if◌then◌else◌}
use Rattle.std.specs.BTreeSet.{BTreeSet, contains}
use Rattle.std.specs.declared.cmp.Ordering.{Ordering}
use Rattle.std.specs.Ordering.{nat_cmp, ordering_then}
use Rattle.bson_evolve_laws.specs.First.{is_met, Pair}
use Rattle.bson_evolve_laws.specs.Placed.{Placed}
use Rattle.bson_evolve_check.specs.Placing.{place_view, IsAt}
use Rattle.bson_evolve_check.specs.declared.place.Place.{Place}

-- the numbers of two parts
abbrev pub PairKey : Type 0
PairKey = ℕ × ℕ

abbrev pub pair_cmp : PairKey → PairKey → Ordering
pair_cmp x y = ordering_then (nat_cmp x.0 y.0) (nat_cmp x.1 y.1)

-- the pair of two places
abbrev pub pair_at : Place → Place → Pair
pair_at old new = record { old = place_view old; new = place_view new }

-- the numbers are those of the parts
pub record IsPairKey (parts : List Placed) (k : PairKey) (p : Pair) : Type 0 where
  pub old : IsAt parts k.0 p.old
  pub new : IsAt parts k.1 p.new

-- both parts have numbers
pub record AreNumbered (parts : List Placed) (p : Pair) : Type 0 where
  pub old : (i : ℕ) × IsAt parts i p.old
  pub new : (i : ℕ) × IsAt parts i p.new

-- The set has the numbers of these pairs, and those of no other pair.
pub record Holds (parts : List Placed) (met : BTreeSet PairKey) (pairs : List Pair) : Type 0 where
  pub numbered : (p : Pair) → is_met pairs p ≡ true → AreNumbered parts p
  pub known : (k : PairKey) → contains pair_cmp met k ≡ true → (k.0 < length parts) × (k.1 < length parts)
  pub is : (k : PairKey) (p : Pair) → IsPairKey parts k p → contains pair_cmp met k ≡ is_met pairs p

-- the pair was met or not, as the test says, and it is met afterwards
pub record IsMeeting (parts : List Placed) (met : BTreeSet PairKey) (pairs : List Pair) (p : Pair) (added : Bool) : Type 0 where
  pub test : added ≡ not (is_met pairs p)
  pub holds : Holds parts met (if added then p ∷ pairs else pairs)
