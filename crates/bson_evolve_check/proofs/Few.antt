-- The pairs that the search meets are parts of the two shapes, of which there are finitely many.
use Rattle.std.proofs.Common.{◌≡◌, ℕ, suc, ◌+◌, ◌-◌, ◌*◌, ◌<◌, true, false, List, [], ◌∷◌, length, map, Some, refl, ap, ◌∙◌, arith}
use Rattle.bson_shape.specs.Form.{Form, no_fields}
use Rattle.bson_shape.specs.Makers.{IsShape}
use Rattle.bson_evolve_laws.specs.Compatible.{Meets}
use Rattle.bson_evolve_laws.specs.First.{is_met, pending_step, most_pairs, pair_of, start, PendingPair, Pair}
use Rattle.bson_evolve_laws.specs.Placed.{placed}
use Rattle.bson_evolve_laws.specs.Places.{all_places}
use Rattle.bson_evolve_laws.specs.Rows.{row, Step}
use Rattle.bson_evolve_laws.proofs.Compatible.{whole_part}
use Rattle.bson_evolve_laws.proofs.Searched.{in_met, left, left_less, met_in, In}
use Rattle.bson_evolve_laws.proofs.Universe.{pair_there, pairs, pairs_closed, pairs_many, places_of, whole_there}
use Rattle.bson_evolve_check.specs.Checks.{ArePlain}
use Rattle.bson_evolve_check.specs.Searching.{AreAmong}

-- all pairs of a part of the one and a part of the other
abbrev pub all_pairs : (old new : Form) → List Pair
all_pairs old new = pairs (all_places old) (all_places new)

pub first_among : (old new : Form) → is_met (all_pairs old new) (start old new).pair ≡ true
first_among old new = in_met (all_pairs old new) (start old new).pair (pair_there (placed no_fields old) (placed no_fields new) (all_places old) (all_places new) (whole_there old) (whole_there new))

pub steps_among : (all : List Pair) (d : PendingPair) (ss : List Step) → Meets (λ x y. In (pair_of (placed d.pair.old.around x) (placed d.pair.new.around y)) all) ss → AreAmong all (map (pending_step d) ss)
steps_among all d [] m = tt
steps_among all d (s ∷ ss) m = (in_met all (pending_step d s).pair m.0, steps_among all d ss m.1)

-- the pairs that the row of one of them names are among them
pub closed : (old new : Form) → IsShape old → IsShape new → ArePlain old new → (d : PendingPair) → is_met (all_pairs old new) d.pair ≡ true → (ss : List Step) → row d.pair.old.form d.pair.new.form ≡ Some ss → AreAmong (all_pairs old new) (map (pending_step d) ss)
closed old new p q plain d here ss is =
    steps_among (all_pairs old new) d ss
    (pairs_closed (all_places old) (all_places new) (places_of old (whole_part old p plain.old_plain)) (places_of new (whole_part new q plain.new_plain)) d.pair (met_in (all_pairs old new) d.pair here) ss is)

-- how many of them were not met yet
abbrev pub not_met : (old new : Form) → List Pair → ℕ
not_met old new met = left (all_pairs old new) met

none_left : (qs : List Pair) → left qs [] ≡ length qs
none_left [] = refl
none_left (q ∷ qs) = ap suc (none_left qs)

-- at the start, and with each pair that is met
pub few_none : (old new : Form) (many : ℕ) → many ≡ 0 → not_met old new [] + many < most_pairs old new
unfolding most_pairs
few_none old new many e = let all : left (all_pairs old new) [] ≡ length (all_places old) * length (all_places new) = none_left (all_pairs old new) ∙ pairs_many (all_places old) (all_places new) in omega (arith, all, e)

pub few_more : (old new : Form) (pairs : List Pair) (p : Pair) (many : ℕ) → is_met (all_pairs old new) p ≡ true → is_met pairs p ≡ false → not_met old new pairs + many < most_pairs old new → not_met old new (p ∷ pairs) + (many + 1) < most_pairs old new
few_more old new pairs p many here unmet few = let less = left_less (all_pairs old new) pairs p (met_in (all_pairs old new) p here) unmet in omega (arith, less, few)

pub fewer_left : (old new : Form) (pairs : List Pair) (p : Pair) (many now : ℕ) → now ≡ many + 1 → not_met old new (p ∷ pairs) + now < most_pairs old new → most_pairs old new - now < most_pairs old new - many
fewer_left old new pairs p many now e few = omega (arith, e, few)
