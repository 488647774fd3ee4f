-- The pairs that are reached from two shapes, and how the differences are those of these pairs. Source: this library's own comparison of shapes.
use Rattle.std.specs.Prelude.{◌≡◌, ◌⊎◌, ℕ, zero, suc, List, [], ◌∷◌}
use Rattle.bson_shape.specs.Form.{Form}
use Rattle.bson_values.specs.Refusal.{Path}
use Rattle.bson_evolve_laws.specs.First.{start, PendingPair}
use Rattle.bson_evolve_differences.specs.Reasons.{Reason}
use Rattle.bson_evolve_differences.specs.Differences.{difference, differences_at, reached, reasons, Difference}

-- it is one of these
abbrev pub IsIn : {A : Type 0} → A → List A → Type 0
IsIn x [] = ⊥
IsIn x (y ∷ ys) = (x ≡ y) ⊎ IsIn x ys

-- the pair is reached from the two shapes, on its path, in so many steps
abbrev pub ReachedIn : ℕ → (old new : Form) → PendingPair → Type 0
ReachedIn zero old new d = d ≡ start old new
ReachedIn (suc n) old new d = (q : PendingPair) × ReachedIn n old new q × IsIn d (reached q)

abbrev pub IsReached : (old new : Form) → PendingPair → Type 0
IsReached old new d = (n : ℕ) × ReachedIn n old new d

-- Each of them is a difference of a pair that is reached, on a path to it.
abbrev pub AreOfReached : (old new : Form) → List Difference → Type 0
AreOfReached old new ds = (e : Difference) → IsIn e ds → (d : PendingPair) × IsReached old new d × IsIn e (differences_at d)

-- Each reason of each pair that is reached is told, on some path to the pair.
abbrev pub TellEach : (old new : Form) → List Difference → Type 0
TellEach old new ds = (d : PendingPair) → IsReached old new d → (r : Reason) → IsIn r (reasons d.pair.old.form d.pair.new.form) → (path : Path) × IsIn (difference path d.pair.old.form d.pair.new.form r) ds
