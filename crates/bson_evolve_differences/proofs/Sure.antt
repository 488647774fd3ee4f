-- The differences are those of the pairs that are reached, and of each of them.
use Rattle.std.proofs.Common.{◌≡◌, ℕ, zero, suc, Bool, true, false, cond, List, [], ◌∷◌, ◌++◌, map, Option, Some, None, inl, inr, refl, ap, sym, subst}
use Rattle.std.specs.Prelude.{◌⊎◌, option_map}
use Rattle.bson_kinds.proofs.Apart.{no_some}
use Rattle.bson_kinds.proofs.Outcomes.{some_is}
use Rattle.bson_shape.specs.Form.{Form}
use Rattle.bson_values.specs.Refusal.{Path}
use Rattle.bson_evolve_laws.specs.First.{Pair, pair_of, is_met, PendingPair, pending_step, unmet, start}
use Rattle.bson_evolve_laws.specs.Placed.{placed}
use Rattle.bson_evolve_laws.specs.Rows.{Step}
use Rattle.bson_evolve_laws.proofs.Searched.{met_in, In}
use Rattle.bson_evolve_differences.specs.Reached.{IsIn, IsReached, ReachedIn, AreOfReached, TellEach}
use Rattle.bson_evolve_differences.specs.Reasons.{Reason}
use Rattle.bson_evolve_differences.specs.Differences.{difference, found, found_first, reached, reasons, steps, differences_at, AreDifferences, Difference}

-- ---- lists

in_first : {A : Type 0} (x : A) (xs ys : List A) → IsIn x xs → IsIn x (xs ++ ys)
in_first x [] ys i = absurd i
in_first x (y ∷ xs) ys (inl e) = inl e
in_first x (y ∷ xs) ys (inr i) = inr (in_first x xs ys i)

in_rest : {A : Type 0} (x : A) (xs ys : List A) → IsIn x ys → IsIn x (xs ++ ys)
in_rest x [] ys i = i
in_rest x (y ∷ xs) ys i = inr (in_rest x xs ys i)

in_either : {A : Type 0} (x : A) (xs ys : List A) → IsIn x (xs ++ ys) → IsIn x xs ⊎ IsIn x ys
in_either x [] ys i = inr i
in_either x (y ∷ xs) ys (inl e) = inl (inl e)
in_either {A} x (y ∷ xs) ys (inr i) = later (in_either x xs ys i) where
  later : IsIn x xs ⊎ IsIn x ys → IsIn x (y ∷ xs) ⊎ IsIn x ys
  later (inl j) = inl (inr j)
  later (inr j) = inr j

in_map : {A B : Type 0} (f : A → B) (x : A) (xs : List A) → IsIn x xs → IsIn (f x) (map f xs)
in_map f x [] i = absurd i
in_map f x (y ∷ xs) (inl e) = inl (ap f e)
in_map f x (y ∷ xs) (inr i) = inr (in_map f x xs i)

of_map : {A B : Type 0} (f : A → B) (z : B) (xs : List A) → IsIn z (map f xs) → (x : A) × IsIn x xs × (z ≡ f x)
of_map f z [] i = absurd i
of_map f z (y ∷ xs) (inl e) = (y, inl refl, e)
of_map f z (y ∷ xs) (inr i) = let r = of_map f z xs i in (r.0, inr r.1, r.2)

-- ---- the pairs that are to be entered

in_unmet : (met : List Pair) (ds : List PendingPair) (x : PendingPair) → IsIn x (unmet met ds) → IsIn x ds
in_unmet met [] x i = i
in_unmet met (d ∷ ds) x i = by_case (is_met met d.pair) i (λ j. in_unmet met ds x j) where
  by_case : (b : Bool) → IsIn x (cond b (unmet met ds) (d ∷ ds)) → (IsIn x (unmet met ds) → IsIn x ds) → IsIn x (d ∷ ds)
  by_case true j others = inr (others j)
  by_case false j others = j

met_or_unmet : (met : List Pair) (ds : List PendingPair) (x : PendingPair) → IsIn x ds → In x.pair met ⊎ IsIn x (unmet met ds)
met_or_unmet met [] x i = absurd i
met_or_unmet met (d ∷ ds) x i = by_case (is_met met d.pair) refl i (λ j. met_or_unmet met ds x j) where
  by_case : (b : Bool) → is_met met d.pair ≡ b → IsIn x (d ∷ ds) → (IsIn x ds → In x.pair met ⊎ IsIn x (unmet met ds)) → In x.pair met ⊎ IsIn x (cond b (unmet met ds) (d ∷ ds))
  by_case true is (inl e) others = inl (subst (λ y. In y.pair met) (sym e) (met_in met d.pair is))
  by_case true is (inr j) others = others j
  by_case false is j others = inr j

-- what is found behind a pair that is entered
behind : (d : PendingPair) (o : Option (List Difference)) (ds : List Difference) → option_map (λ rest. differences_at d ++ rest) o ≡ Some ds → (es : List Difference) × (o ≡ Some es) × (differences_at d ++ es ≡ ds)
behind d None ds e = absurd (no_some e)
behind d (Some es) ds e = (es, refl, some_is (differences_at d ++ es) ds e)

none_found : (ds : List Difference) → Some [] ≡ Some ds → [] ≡ ds
none_found ds e = some_is [] ds e

-- ---- each is of a pair that is reached

module _ (old new : Form) where
  abbrev Of : Difference → Type 0
  Of e = (d : PendingPair) × IsReached old new d × IsIn e (differences_at d)

  abbrev AllReached : List PendingPair → Type 0
  AllReached ds = (d : PendingPair) → IsIn d ds → IsReached old new d

  reached_on : (d : PendingPair) (rest : List PendingPair) → IsReached old new d → AllReached rest → AllReached (reached d ++ rest)
  reached_on d rest r all x i = by_case (in_either x (reached d) rest i) where
    by_case : IsIn x (reached d) ⊎ IsIn x rest → IsReached old new x
    by_case (inl j) = (suc r.0, (d, r.1, j))
    by_case (inr j) = all x j

  of_reached : (n : ℕ) (met : List Pair) (pending : List PendingPair) (ds : List Difference) → found n met pending ≡ Some ds → AllReached pending → (e : Difference) → IsIn e ds → Of e
  of_reached zero met pending ds f all e i = absurd (no_some f)
  of_reached (suc n) met pending ds f all e i = by_pending (unmet met pending) f (λ x j. all x (in_unmet met pending x j)) (λ more later es g k j. of_reached n more later es g k e j) where
    by_pending : (l : List PendingPair) → found_first (λ more later. found n more later) met l ≡ Some ds → AllReached l
        → ((more : List Pair) (later : List PendingPair) (es : List Difference) → found n more later ≡ Some es → AllReached later → IsIn e es → Of e) → Of e
    by_pending [] g k others = absurd (subst (IsIn e) (sym (none_found ds g)) i)
    by_pending (d ∷ rest) g k others =
        let b = behind d (found n (d.pair ∷ met) (reached d ++ rest)) ds g in
        by_case b.0 b.1 (in_either e (differences_at d) b.0 (subst (IsIn e) (sym b.2) i))
      where
        by_case : (es : List Difference) → found n (d.pair ∷ met) (reached d ++ rest) ≡ Some es → IsIn e (differences_at d) ⊎ IsIn e es → Of e
        by_case es h (inl j) = (d, k d (inl refl), j)
        by_case es h (inr j) = others (d.pair ∷ met) (reached d ++ rest) es h (reached_on d rest (k d (inl refl)) (λ x m. k x (inr m))) j

  pub are_of_reached : (ds : List Difference) → AreDifferences old new ds → AreOfReached old new ds
  are_of_reached ds f e i = of_reached f.0 [] (start old new ∷ []) ds f.1 only e i where
    only : AllReached (start old new ∷ [])
    only d (inl is) = (zero, is)
    only d (inr j) = absurd j

-- ---- each reason of each pair that is reached

-- the pairs that are reached from this one are among these, and its reasons are told
record IsDone (W : List Pair) (ds : List Difference) (p : Pair) : Type 0 where
  pub steps_in : (s : Step) → IsIn s (steps p.old.form p.new.form) → In (pair_of (placed p.old.around s.old) (placed p.new.around s.new)) W
  pub told_in : (r : Reason) → IsIn r (reasons p.old.form p.new.form) → (path : Path) × IsIn (difference path p.old.form p.new.form r) ds

-- the pairs that were met and those that are to be entered are among these, and each of these was met before or is done
record IsSure (met : List Pair) (pending : List PendingPair) (ds : List Difference) (W : List Pair) : Type 0 where
  pub met_in : (p : Pair) → In p met → In p W
  pub pending_in : (d : PendingPair) → IsIn d pending → In d.pair W
  pub done : (p : Pair) → In p W → In p met ⊎ IsDone W ds p

more_told : (W : List Pair) (ds es : List Difference) (p : Pair) → IsDone W es p → IsDone W (ds ++ es) p
more_told W ds es p d = record {
  steps_in = d.steps_in;
  told_in = λ r i. let t = d.told_in r i in (t.0, in_rest (difference t.0 p.old.form p.new.form r) ds es t.1);
}

all_met : (met : List Pair) (pending : List PendingPair) → unmet met pending ≡ [] → (d : PendingPair) → IsIn d pending → In d.pair met
all_met met pending none d i = by_case (met_or_unmet met pending d i) where
  by_case : In d.pair met ⊎ IsIn d (unmet met pending) → In d.pair met
  by_case (inl j) = j
  by_case (inr j) = absurd (subst (IsIn d) none j)

-- a pair that is entered
module _ (met : List Pair) (pending rest : List PendingPair) (d : PendingPair) (first : unmet met pending ≡ d ∷ rest) (es : List Difference) (W : List Pair) (s : IsSure (d.pair ∷ met) (reached d ++ rest) es W) where
  this_done : IsDone W (differences_at d ++ es) d.pair
  this_done = record {
    steps_in = λ x i. s.pending_in (pending_step d x) (in_first (pending_step d x) (reached d) rest (in_map (pending_step d) x (steps d.pair.old.form d.pair.new.form) i));
    told_in = λ r i. (
      d.path,
      in_first (difference d.path d.pair.old.form d.pair.new.form r) (differences_at d) es (in_map (difference d.path d.pair.old.form d.pair.new.form) r (reasons d.pair.old.form d.pair.new.form) i),
    );
  }

  sure_on : IsSure met pending (differences_at d ++ es) W
  sure_on = record {
    met_in = λ p i. s.met_in p (inr i);
    pending_in = λ x i. by_pending x (met_or_unmet met pending x i);
    done = λ p i. by_done p (s.done p i);
  } where
    by_pending : (x : PendingPair) → In x.pair met ⊎ IsIn x (unmet met pending) → In x.pair W
    by_pending x (inl j) = s.met_in x.pair (inr j)
    by_pending x (inr j) = by_first (subst (IsIn x) first j) where
      by_first : IsIn x (d ∷ rest) → In x.pair W
      by_first (inl e) = subst (λ y. In y.pair W) (sym e) (s.met_in d.pair (inl refl))
      by_first (inr k) = s.pending_in x (in_rest x (reached d) rest k)

    by_done : (p : Pair) → In p (d.pair ∷ met) ⊎ IsDone W es p → In p met ⊎ IsDone W (differences_at d ++ es) p
    by_done p (inl (inl e)) = inr (subst (IsDone W (differences_at d ++ es)) (sym e) this_done)
    by_done p (inl (inr j)) = inl j
    by_done p (inr k) = inr (more_told W (differences_at d) es p k)

sure : (n : ℕ) (met : List Pair) (pending : List PendingPair) (ds : List Difference) → found n met pending ≡ Some ds → (W : List Pair) × IsSure met pending ds W
sure zero met pending ds f = absurd (no_some f)
sure (suc n) met pending ds f = by_pending (unmet met pending) refl f (λ more later es g. sure n more later es g) where
  by_pending : (l : List PendingPair) → unmet met pending ≡ l → found_first (λ more later. found n more later) met l ≡ Some ds
      → ((more : List Pair) (later : List PendingPair) (es : List Difference) → found n more later ≡ Some es → (W : List Pair) × IsSure more later es W) → (W : List Pair) × IsSure met pending ds W
  by_pending [] is g others = (met, record { met_in = λ p i. i; pending_in = all_met met pending is; done = λ p i. inl i })
  by_pending (d ∷ rest) is g others =
      let b = behind d (found n (d.pair ∷ met) (reached d ++ rest)) ds g in
      let s = others (d.pair ∷ met) (reached d ++ rest) b.0 b.1 in
      (s.0, subst (λ es. IsSure met pending es s.0) b.2 (sure_on met pending rest d is b.0 s.0 s.1))

module _ (old new : Form) (ds : List Difference) (W : List Pair) (s : IsSure [] (start old new ∷ []) ds W) where
  is_done : (p : Pair) → In p W → IsDone W ds p
  is_done p i = by_case (s.done p i) where
    by_case : In p [] ⊎ IsDone W ds p → IsDone W ds p
    by_case (inl j) = absurd j
    by_case (inr k) = k

  is_there : (n : ℕ) (d : PendingPair) → ReachedIn n old new d → In d.pair W
  is_there zero d e = subst (λ y. In y.pair W) (sym e) (s.pending_in (start old new) (inl refl))
  is_there (suc n) d r =
      let t = of_map (pending_step r.0) d (steps r.0.pair.old.form r.0.pair.new.form) r.2 in
      subst (λ y. In y.pair W) (sym t.2) ((is_done r.0.pair (is_there n r.0 r.1)).steps_in t.0 t.1)

pub tell_each : (old new : Form) (ds : List Difference) → AreDifferences old new ds → TellEach old new ds
tell_each old new ds f d r reason i = let s = sure f.0 [] (start old new ∷ []) ds f.1 in (is_done old new ds s.0 s.1 d.pair (is_there old new ds s.0 s.1 r.0 d r.1)).told_in reason i
