-- What is added to a mismatch, by one step or by the loop over a list.
use Rattle.std.proofs.Common.{◌≡◌, ℕ, ◌+◌, ◌<◌, ◌≤◌, Bool, true, false, List, [], ◌∷◌, ◌++◌, length, get_or, drop, ap, sym, ◌∙◌}
use Rattle.std.proofs.lemmas.List.{append_assoc, append-nil, drop_all, map-append}
use Rattle.bson_evolve_laws.specs.Rows.{Step, Answer}
use Rattle.bson_evolve_check.specs.Steps.{answered, behind, step_view, steps_view}
use Rattle.bson_evolve_check.specs.declared.step.Step.{Step as StepView}
use Rattle.bson_evolve_check.proofs.Pushes.{drop_here}
use Rattle.bson_evolve_check.proofs.RowLists.{behind_none}
use Rattle.bson_evolve_differences.specs.Mismatch.{passes, steps_of, unless}
use Rattle.bson_evolve_differences.specs.Reasons as reasons
use Rattle.bson_evolve_differences.specs.Views.{reason_view, reasons_view, Adds}
use Rattle.bson_evolve_differences.specs.declared.difference.Reason.{Reason}
use Rattle.bson_evolve_differences.specs.declared.mismatch.Mismatch.{Mismatch}

-- ---- one step

module _ (m n : Mismatch) where
  pub adds_nothing : n.reasons.items ≡ m.reasons.items → n.common.items ≡ m.common.items → Adds m n [] []
  adds_nothing r s = record {
    reasons = ap reasons_view r ∙ sym (append-nil (reasons_view m.reasons.items));
    common = ap steps_view s ∙ sym (append-nil (steps_view m.common.items));
  }

  pub adds_reason : (x : Reason) (r : reasons.Reason) → n.reasons.items ≡ m.reasons.items ++ x ∷ [] → n.common.items ≡ m.common.items → reason_view x ≡ r → Adds m n (r ∷ []) []
  adds_reason x r e s is = record {
    reasons = ap reasons_view e ∙ map-append reason_view m.reasons.items (x ∷ []) ∙ ap (λ y. reasons_view m.reasons.items ++ y ∷ []) is;
    common = ap steps_view s ∙ sym (append-nil (steps_view m.common.items));
  }

  pub adds_steps : (ss : List StepView) (rs : List Step) → n.reasons.items ≡ m.reasons.items → n.common.items ≡ m.common.items ++ ss → steps_view ss ≡ rs → Adds m n [] rs
  adds_steps ss rs r e is = record {
    reasons = ap reasons_view r ∙ sym (append-nil (reasons_view m.reasons.items));
    common = ap steps_view e ∙ map-append step_view m.common.items ss ∙ ap (λ y. steps_view m.common.items ++ y) is;
  }

pub adds_both : (a b c : Mismatch) (q r : List reasons.Reason) (s t : List Step) → Adds a b q s → Adds b c r t → Adds a c (q ++ r) (s ++ t)
adds_both a b c q r s t x y = record {
  reasons = y.reasons ∙ ap (λ z. z ++ r) x.reasons ∙ append_assoc (reasons_view a.reasons.items) q r;
  common = y.common ∙ ap (λ z. z ++ t) x.common ∙ append_assoc (steps_view a.common.items) s t;
}

-- ---- a loop

-- What is there, and what the items from this index on add, is what was there first and what all of them add.
pub record Left {X : Type 0} (rs : List X → List reasons.Reason) (ss : List X → List Step) (xs : List X) (i : ℕ) (first now : Mismatch) : Type 0 where
  pub reasons : reasons_view now.reasons.items ++ rs (drop i xs) ≡ reasons_view first.reasons.items ++ rs xs
  pub common : steps_view now.common.items ++ ss (drop i xs) ≡ steps_view first.common.items ++ ss xs

module _ {X R : Type 0} (all : List X → List R) (xs : List X) (i : ℕ) (done init : List R) where
  pushed_more : (each : X → List R) → ((x : X) (zs : List X) → all (x ∷ zs) ≡ each x ++ all zs) → (x : X) (new : List R) → i < length xs → x ≡ get_or xs i x → new ≡ done ++ each x → done ++ all (drop i xs) ≡ init → new ++ all (drop (i + 1) xs) ≡ init
  pushed_more each step x new l is e inv =
      ap (λ z. z ++ all (drop (i + 1) xs)) e
      ∙ append_assoc done (each x) (all (drop (i + 1) xs))
      ∙ ap (λ zs. done ++ zs) (sym (step x (drop (i + 1) xs)))
      ∙ ap (λ zs. done ++ all zs) (sym (drop_here xs i x l is))
      ∙ inv

  pushed_all : all [] ≡ [] → length xs ≤ i → done ++ all (drop i xs) ≡ init → done ≡ init
  pushed_all none l inv = sym (append-nil done) ∙ ap (λ zs. done ++ zs) (sym none) ∙ ap (λ zs. done ++ all zs) (sym (drop_all i xs l)) ∙ inv

module _ {X : Type 0} (rs : List X → List reasons.Reason) (ss : List X → List Step) (xs : List X) (i : ℕ) (first now : Mismatch) (left : Left rs ss xs i first now) where
  -- one more item
  pub left_more : (r : X → List reasons.Reason) (s : X → List Step) → ((x : X) (zs : List X) → rs (x ∷ zs) ≡ r x ++ rs zs) → ((x : X) (zs : List X) → ss (x ∷ zs) ≡ s x ++ ss zs)
      → (x : X) (next : Mismatch) → i < length xs → x ≡ get_or xs i x → Adds now next (r x) (s x) → Left rs ss xs (i + 1) first next
  left_more r s r_step s_step x next l is a = record {
    reasons = pushed_more rs xs i (reasons_view now.reasons.items) (reasons_view first.reasons.items ++ rs xs) r r_step x (reasons_view next.reasons.items) l is a.reasons left.reasons;
    common = pushed_more ss xs i (steps_view now.common.items) (steps_view first.common.items ++ ss xs) s s_step x (steps_view next.common.items) l is a.common left.common;
  }

  -- all of them
  pub left_none : rs [] ≡ [] → ss [] ≡ [] → length xs ≤ i → Adds first now (rs xs) (ss xs)
  left_none r s l = record {
    reasons = pushed_all rs xs i (reasons_view now.reasons.items) (reasons_view first.reasons.items ++ rs xs) r l left.reasons;
    common = pushed_all ss xs i (steps_view now.common.items) (steps_view first.common.items ++ ss xs) s l left.common;
  }

-- ---- the contents of two variants, by what a row answers

-- from no steps on
module _ (is : Bool) (old new : List Step) (r : Answer) (e : answered is new ≡ behind old r) (none : old ≡ []) where
  answer : answered is new ≡ r
  answer = e ∙ ap (λ ss. behind ss r) none ∙ behind_none r

  pub passes_all : is ≡ true → (reason : reasons.Reason) → (unless (passes r) reason ≡ []) × (steps_of r ≡ new)
  passes_all t reason = let row : r ≡ answered true new = sym answer ∙ ap (λ b. answered b new) t in (ap (λ o. unless (passes o) reason) row, ap steps_of row)

  pub passes_none : is ≡ false → (reason : reasons.Reason) → (unless (passes r) reason ≡ reason ∷ []) × (steps_of r ≡ [])
  passes_none f reason = let row : r ≡ answered false new = sym answer ∙ ap (λ b. answered b new) f in (ap (λ o. unless (passes o) reason) row, ap steps_of row)
