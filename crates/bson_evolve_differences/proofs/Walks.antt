-- The first difference is where the search for the first fault ends.
use Rattle.std.proofs.Common.{◌≡◌, ℕ, zero, suc, List, [], ◌∷◌, ◌++◌, map, Option, Some, None, refl, subst}
use Rattle.std.specs.Prelude.{option_map}
use Rattle.bson_kinds.proofs.Apart.{no_some}
use Rattle.bson_kinds.proofs.Outcomes.{some_is}
use Rattle.bson_shape.specs.Form.{Form}
use Rattle.bson_values.specs.Refusal.{Path}
use Rattle.bson_evolve_laws.specs.First.{Pair, PendingPair, pending_step, Outcome, all_pass, fault, unmet, entered, entered_first, search, start}
use Rattle.bson_evolve_laws.specs.Rows.{Answer, row}
use Rattle.bson_evolve_laws.proofs.Searched.{search_yes}
use Rattle.bson_evolve_differences.specs.Mismatch.{mismatch}
use Rattle.bson_evolve_differences.specs.Reasons.{Reason}
use Rattle.bson_evolve_differences.specs.Differences.{difference, found, found_first, reasons_by, steps_by, AreDifferences, BeginsWithFault, Difference}
use Rattle.bson_evolve_differences.proofs.Nonempty.{some_reason, IsSomething}

abbrev Ends : Outcome → List Difference → Type 0
Ends o [] = (W : List Pair) × (o ≡ all_pass W)
Ends o (d ∷ ds) = o ≡ fault d.path

-- the same, where a pair is entered and the row has this answer
abbrev told_by : PendingPair → Answer → List Difference
told_by d o = map (difference d.path d.pair.old.form d.pair.new.form) (reasons_by d.pair.old.form d.pair.new.form o)

abbrev reached_by : PendingPair → Answer → List PendingPair
reached_by d o = map (pending_step d) (steps_by d.pair.old.form d.pair.new.form o)

-- a pair that has a reason is the fault
faulty : (path : Path) (a b : Form) (rs : List Reason) (o : Option (List Difference)) (ds : List Difference) → IsSomething rs → option_map (λ rest. map (difference path a b) rs ++ rest) o ≡ Some ds → Ends (fault path) ds
faulty path a b [] o ds h e = absurd h
faulty path a b (r ∷ rs) None ds h e = absurd (no_some e)
faulty path a b (r ∷ rs) (Some rest) ds h e = subst (Ends (fault path)) (some_is (difference path a b r ∷ (map (difference path a b) rs ++ rest)) ds e) refl

same_rest : (o : Option (List Difference)) (ds : List Difference) → option_map (λ rest. [] ++ rest) o ≡ Some ds → o ≡ Some ds
same_rest None ds e = e
same_rest (Some rest) ds e = e

ends : (n : ℕ) (met : List Pair) (pending : List PendingPair) (ds : List Difference) → found n met pending ≡ Some ds → Ends (search n met pending) ds
ends zero met pending ds e = absurd (no_some e)
ends (suc n) met pending ds e = by_pending (unmet met pending) e (λ more later k. ends n more later ds k) where
  by_row : (d : PendingPair) (rest : List PendingPair) (o : Answer) → row d.pair.old.form d.pair.new.form ≡ o
      → option_map (λ others. told_by d o ++ others) (found n (d.pair ∷ met) (reached_by d o ++ rest)) ≡ Some ds
      → ((more : List Pair) (later : List PendingPair) → found n more later ≡ Some ds → Ends (search n more later) ds) → Ends (entered (λ more later. search n more later) met d rest o) ds
  by_row d rest None is k others =
      faulty d.path d.pair.old.form d.pair.new.form (mismatch d.pair.old.form d.pair.new.form) (found n (d.pair ∷ met) (reached_by d None ++ rest)) ds (some_reason d.pair.old.form d.pair.new.form is) k
  by_row d rest (Some ss) is k others = others (d.pair ∷ met) (map (pending_step d) ss ++ rest) (same_rest (found n (d.pair ∷ met) (map (pending_step d) ss ++ rest)) ds k)

  by_pending : (l : List PendingPair) → found_first (λ more later. found n more later) met l ≡ Some ds
      → ((more : List Pair) (later : List PendingPair) → found n more later ≡ Some ds → Ends (search n more later) ds) → Ends (entered_first (λ more later. search n more later) met l) ds
  by_pending [] k others = subst (Ends (all_pass met)) (some_is [] ds k) (met, refl)
  by_pending (d ∷ rest) k others = by_row d rest (row d.pair.old.form d.pair.new.form) refl k others

pub begins_with_fault : (old new : Form) (ds : List Difference) → AreDifferences old new ds → BeginsWithFault old new ds
begins_with_fault old new [] f = let r = ends f.0 [] (start old new ∷ []) [] f.1 in search_yes f.0 old new r.0 r.1
begins_with_fault old new (d ∷ ds) f = (f.0, ends f.0 [] (start old new ∷ []) (d ∷ ds) f.1)
