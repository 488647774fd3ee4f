-- A slice of documents, one after another.
use Rattle.std.proofs.Common.{◌≡◌, ℕ, zero, suc, ◌<◌, ◌≤◌, List, [], ◌∷◌, length, get_or, sym, subst, arith}
use Rattle.bson_base.specs.BsonView.{pairs_of}
use Rattle.bson_base.specs.Sound.{IsSound, AreTreesClean}
use Rattle.bson_base.specs.Tree.{document, Trees, no_trees, tree, trees_depth}
use Rattle.bson_base.specs.declared.document.Document.{Document}
use Rattle.bson_shape.specs.Makers.{IsShape}
use Rattle.bson_infer_laws.specs.Inferred.{inferred}
use Rattle.bson_infer_laws.proofs.Levels.{inferred_shape}
use Rattle.bson_infer_run.specs.Infer.{documents_of, AreSound, IsFirstUnsound}

pub all_clean : (ts : Trees) → AreSound ts → AreTreesClean ts
all_clean no_trees h = tt
all_clean (tree t ts) h = (h.0.clean, all_clean ts h.1)

all_shallow : (ts : Trees) → AreSound ts → trees_depth ts ≤ 200
all_shallow no_trees h = omega arith
all_shallow (tree t ts) h = omega (arith, h.0.nests, all_shallow ts h.1)

pub sound_shape : (ts : Trees) → AreSound ts → IsShape (inferred ts)
sound_shape ts h = inferred_shape ts (all_clean ts h) (all_shallow ts h)

-- so many documents, from the first on, are sound
abbrev pub FirstAre : ℕ → List Document → Type 0
FirstAre zero ds = Unit {0}
FirstAre (suc i) [] = Unit {0}
FirstAre (suc i) (d ∷ ds) = IsSound (document (pairs_of d)) × FirstAre i ds

pub first_more : (i : ℕ) (ds : List Document) (d : Document) → i < length ds → d ≡ get_or ds i d → FirstAre i ds → IsSound (document (pairs_of d)) → FirstAre (suc i) ds
first_more i [] d lt e h s = absurd (omega (arith, lt))
first_more zero (x ∷ ds) d lt e h s = (subst (λ y. IsSound (document (pairs_of y))) e s, tt)
first_more (suc i) (x ∷ ds) d lt e h s = (h.0, first_more i ds d (omega (arith, lt)) e h.1 s)

pub first_all : (i : ℕ) (ds : List Document) → length ds ≤ i → FirstAre i ds → AreSound (documents_of ds)
first_all i [] l h = tt
first_all zero (x ∷ ds) l h = absurd (omega (arith, l))
first_all (suc i) (x ∷ ds) l h = (h.0, first_all i ds (omega (arith, l)) h.1)

pub first_unsound : (i : ℕ) (ds : List Document) (d : Document) → i < length ds → d ≡ get_or ds i d → FirstAre i ds → (IsSound (document (pairs_of d)) → ⊥) → IsFirstUnsound i (documents_of ds)
first_unsound i [] d lt e h s = absurd (omega (arith, lt))
first_unsound zero (x ∷ ds) d lt e h s = λ k. s (subst (λ y. IsSound (document (pairs_of y))) (sym e) k)
first_unsound (suc i) (x ∷ ds) d lt e h s = (h.0, first_unsound i ds d (omega (arith, lt)) e h.1 s)
