-- How the search for differences goes on.
use Rattle.std.proofs.Common.{◌≡◌, ℕ, suc, List, [], ◌∷◌, ◌++◌, Option, Some, None, refl, ap, sym, ◌∙◌}
use Rattle.std.specs.Prelude.{option_map}
use Rattle.std.proofs.lemmas.List.{append-nil, append_assoc}
use Rattle.bson_shape.specs.Form.{Form}
use Rattle.bson_evolve_laws.specs.First.{Pair, PendingPair, start, unmet}
use Rattle.bson_evolve_differences.specs.Differences.{found, found_first, reached, differences_at, AreDifferences, Difference}

-- What is found from these pairs on, where those were met, comes behind these differences.
abbrev pub Finds : (old new : Form) → List Difference → (pairs : List Pair) → List PendingPair → Type 0
Finds old new ds pairs pending = (n : ℕ) → (m : ℕ) × (found m [] (start old new ∷ []) ≡ option_map (λ rest. ds ++ rest) (found n pairs pending))

abbrev later : ℕ → List Pair → List PendingPair → Option (List Difference)
later n more ds = found n more ds

none_before : (o : Option (List Difference)) → o ≡ option_map (λ rest. [] ++ rest) o
none_before None = refl
none_before (Some rest) = refl

both_before : (ds es : List Difference) (o : Option (List Difference)) → option_map (λ rest. ds ++ rest) (option_map (λ rest. es ++ rest) o) ≡ option_map (λ rest. (ds ++ es) ++ rest) o
both_before ds es None = refl
both_before ds es (Some rest) = ap Some (sym (append_assoc ds es rest))

module _ (old new : Form) where
  pub finds_all : Finds old new [] [] (start old new ∷ [])
  finds_all = λ n. (n, none_before (found n [] (start old new ∷ [])))

  module _ (ds : List Difference) (pairs : List Pair) (before : List PendingPair) (left : Finds old new ds pairs before) where
    -- each pair was met
    pub found_all : unmet pairs before ≡ [] → AreDifferences old new ds
    found_all none = let r = left 1 in (r.0, r.1 ∙ ap (λ ps. option_map (λ rest. ds ++ rest) (found_first (later 0) pairs ps)) none ∙ ap Some (append-nil ds))

    -- the first that was not met is entered
    pub finds_on : (d : PendingPair) (rest : List PendingPair) → unmet pairs before ≡ d ∷ rest → Finds old new (ds ++ differences_at d) (d.pair ∷ pairs) (reached d ++ rest)
    finds_on d rest first = λ n.
        let r = left (suc n) in (
          r.0,
          r.1 ∙ ap (λ ps. option_map (λ others. ds ++ others) (found_first (later n) pairs ps)) first ∙ both_before ds (differences_at d) (found n (d.pair ∷ pairs) (reached d ++ rest)),
        )
