-- A search that was not cut off finds the same in more steps, and none among the pairs of two plain shapes is cut off; so it decides where the first fault is.
use Rattle.std.proofs.Common.{◌≡◌, ℕ, zero, suc, ◌+◌, ◌*◌, ◌<◌, ◌≤◌, length, List, [], ◌∷◌, ◌++◌, map, Some, None, Bool, true, false, refl, ap, sym, subst, ◌∙◌, arith}
use Rattle.bson_shape.specs.Form.{Form, no_fields}
use Rattle.bson_shape.specs.Makers.{IsShape}
use Rattle.bson_laws.specs.Plain.{IsPlain}
use Rattle.bson_values.specs.Refusal.{Path}
use Rattle.bson_evolve_laws.specs.Compatible.{IsCompatible}
use Rattle.bson_evolve_laws.specs.First.{Pair, PendingPair, pending_step, Outcome, all_pass, fault, cut_off, unmet, entered, entered_first, search, start, IsFirstFault, most_pairs, fault_of, first_fault, is_met}
use Rattle.bson_evolve_laws.specs.Placed.{placed}
use Rattle.bson_evolve_laws.specs.Places.{all_places}
use Rattle.bson_evolve_laws.specs.Rows.{Answer, row}
use Rattle.bson_evolve_laws.proofs.Peels.{IsPart}
use Rattle.bson_evolve_laws.proofs.Searched.{In, count_if, left, search_ends, search_no}
use Rattle.bson_evolve_laws.proofs.Universe.{pairs, pairs_many, pairs_closed, pair_there, places_of, whole_there}

pub search_more : (n : ℕ) (met : List Pair) (pending : List PendingPair) → (search n met pending ≡ cut_off → ⊥) → search (suc n) met pending ≡ search n met pending
search_more zero met pending f = absurd (f refl)
search_more (suc n) met pending f = by_pending (unmet met pending) f (λ more later g. search_more n more later g) where
  by_row : (d : PendingPair) (ds : List PendingPair) (o : Answer) → (entered (λ more later. search n more later) met d ds o ≡ cut_off → ⊥)
      → ((more : List Pair) (later : List PendingPair) → (search n more later ≡ cut_off → ⊥) → search (suc n) more later ≡ search n more later)
      → entered (λ more later. search (suc n) more later) met d ds o ≡ entered (λ more later. search n more later) met d ds o
  by_row d ds None g rest = refl
  by_row d ds (Some ss) g rest = rest (d.pair ∷ met) (map (pending_step d) ss ++ ds) g

  by_pending : (l : List PendingPair) → (entered_first (λ more later. search n more later) met l ≡ cut_off → ⊥)
      → ((more : List Pair) (later : List PendingPair) → (search n more later ≡ cut_off → ⊥) → search (suc n) more later ≡ search n more later)
      → entered_first (λ more later. search (suc n) more later) met l ≡ entered_first (λ more later. search n more later) met l
  by_pending [] g rest = refl
  by_pending (d ∷ ds) g rest = by_row d ds (row d.pair.old.form d.pair.new.form) g rest

search_longer : (k n : ℕ) (met : List Pair) (pending : List PendingPair) → (search n met pending ≡ cut_off → ⊥) → search (k + n) met pending ≡ search n met pending
search_longer zero n met pending f = let same : 0 + n ≡ n = omega arith in ap (λ m. search m met pending) same
search_longer (suc k) n met pending f =
    let e = search_longer k n met pending f in
    let same : suc k + n ≡ suc (k + n) = omega arith in
    ap (λ m. search m met pending) same ∙ (search_more (k + n) met pending (λ c. f (sym e ∙ c)) ∙ e)

fault_is : (p q : Path) → fault p ≡ fault q → p ≡ q
fault_is p q e = cc

-- a plain shape, in no definitions
whole_part : (s : Form) → IsShape s → IsPlain s → IsPart no_fields s
whole_part s shape plain = record { around = record { table = record { guarded = refl; shapes = tt }; plain = tt }; shape = shape; plain = plain }

-- no more pairs are left than there are
at_most : (qs met : List Pair) → left qs met ≤ length qs
at_most [] met = omega arith
at_most (q ∷ qs) met = by_case (is_met met q) (at_most qs met) where
  by_case : (b : Bool) → left qs met ≤ length qs → count_if b (left qs met) ≤ suc (length qs)
  by_case true l = omega (arith, l)
  by_case false l = omega (arith, l)

enough : (old new : Form) (n : ℕ) → n ≤ length (all_places old) * length (all_places new) → n < most_pairs old new
unfolding most_pairs
enough old new n l = omega (arith, l)

-- the search among the pairs of two plain shapes is not cut off
ends : (old new : Form) → IsShape old → IsShape new → IsPlain old → IsPlain new → search (most_pairs old new) [] (start old new ∷ []) ≡ cut_off → ⊥
ends old new p q a b =
    let all = pairs (all_places old) (all_places new) in
    let here : In (start old new).pair all = pair_there (placed no_fields old) (placed no_fields new) (all_places old) (all_places new) (whole_there old) (whole_there new) in
    let few : left all [] ≤ length (all_places old) * length (all_places new) = subst (λ n. left all [] ≤ n) (pairs_many (all_places old) (all_places new)) (at_most all []) in
    search_ends all (pairs_closed (all_places old) (all_places new) (places_of old (whole_part old p a)) (places_of new (whole_part new q b))) (most_pairs old new) [] (start old new ∷ []) (here, tt)
    (enough old new (left all []) few)

no_cut : (path : Path) → fault path ≡ cut_off → ⊥
no_cut path e = absurd cc

swapped : (n m : ℕ) → n + m ≡ m + n
swapped n m = omega arith

-- the first fault of two plain shapes is found
pub fault_found : (old new : Form) (path : Path) → IsShape old → IsShape new → IsPlain old → IsPlain new → IsFirstFault old new path → first_fault old new ≡ Some path
fault_found old new path p q a b f =
    let m = most_pairs old new in
    let pending = start old new ∷ [] in
    let longer : search (m + f.0) [] pending ≡ fault path = search_longer m f.0 [] pending (λ c. no_cut path (sym f.1 ∙ c)) ∙ f.1 in
    let same : search (f.0 + m) [] pending ≡ search m [] pending = search_longer f.0 m [] pending (ends old new p q a b) in
    ap fault_of (sym same ∙ ap (λ k. search k [] pending) (swapped f.0 m) ∙ longer)

-- two shapes that are compatible have none
pub none_found : (old new : Form) → IsCompatible old new → first_fault old new ≡ None
none_found old new c = by_case (search (most_pairs old new) [] (start old new ∷ [])) refl where
  by_case : (o : Outcome) → search (most_pairs old new) [] (start old new ∷ []) ≡ o → fault_of o ≡ None
  by_case (all_pass met) e = refl
  by_case (fault path) e = absurd (search_no old new path (most_pairs old new, e) c)
  by_case cut_off e = refl
