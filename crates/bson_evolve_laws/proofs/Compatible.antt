-- What is written at a plain shape has a view at each plain shape that is compatible with it.
use Rattle.std.proofs.Common.{◌≡◌, ℕ, zero, suc, ◌+◌, ◌<◌, Some, refl, inl, arith}
use Rattle.std.specs.Prelude.{IsSome}
use Rattle.bson_base.specs.Sound.{IsClean}
use Rattle.bson_base.specs.Tree.{Tree}
use Rattle.bson_shape.specs.Form.{Form, no_fields, Fields}
use Rattle.bson_shape.specs.Makers.{IsShape}
use Rattle.bson_values.specs.Value.{Value}
use Rattle.bson_laws.specs.Means.{means}
use Rattle.bson_laws.specs.Plain.{IsPlain}
use Rattle.bson_laws.specs.Recursive.{view, FitsIn}
use Rattle.bson_evolve_laws.specs.Compatible.{ArePassing, IsCompatible}
use Rattle.bson_evolve_laws.specs.Placed.{placed, peel}
use Rattle.bson_evolve_laws.specs.Rows.{row}
use Rattle.bson_evolve_laws.proofs.Closed.{met_map, passing_closed, row_both}
use Rattle.bson_evolve_laws.proofs.Deep.{Deep, deep, deep_map}
use Rattle.bson_evolve_laws.proofs.News.{Sees, sees_peel, sees_in, sees_out}
use Rattle.bson_evolve_laws.proofs.Olds.{Has, bson_has, has_layer, has_peel}
use Rattle.bson_evolve_laws.proofs.Peels.{IsPart, peel_is, peel_part, peel_hides, hides}
use Rattle.bson_evolve_laws.proofs.RowsPass.{PassingAt, row_pass}

-- a pair that passes, whose new form is a part of a plain shape
pub record IsPair (h g : Fields) (x y : Form) : Type 0 where
  pub passing : ArePassing (placed h x) (placed g y)
  pub new : IsPart g y

-- each such pair, with whatever definitions, passes at this tree
abbrev Passing : Tree → Type 0
Passing t = (h g : Fields) → PassingAt (IsPair h g) (Has h) (Sees g) t

-- at one tree: each row without a part hides fewer options
at_tree : (n : ℕ) (t : Tree) → IsClean t → Deep Passing t → (h g : Fields) (x y : Form) → hides h x + hides g y < n → IsPair h g x y → Has h x t → Sees g y t
at_tree zero t c d h g x y lt r v = absurd (omega (arith, lt))
at_tree (suc n) t c d h g x y lt r v =
    let a = peel (placed h x) in
    let b = peel (placed g y) in
    let old = has_peel h x t v in
    let p = peel_part g y r.new in
    sees_peel g y r.new t (sees_in b.around b.form t p
    (row_pass (IsPair a.around b.around) (Has a.around) (Sees b.around) (bson_has a.around old.is.around) (λ s u o k. sees_out b.around s u o k) (λ s. hides a.around s) (λ s. hides b.around s) (λ s. omega arith)
    (λ s. omega arith) (λ l. refl) a.form b.form t old c (deep_map Passing (PassingAt (IsPair a.around b.around) (Has a.around) (Sees b.around)) (λ u f. f a.around b.around) t d)
    (λ x' y' less r' v'. at_tree n t c d a.around b.around x' y' (omega (arith, lt, less, peel_hides h x v.is, peel_hides g y r.new)) r' v')
    (met_map (λ x' y'. ArePassing (placed a.around x') (placed b.around y') × IsPart b.around y') (IsPair a.around b.around) (λ x' y' k. record { passing = k.0; new = k.1 }) (row a.form b.form)
    (row_both (λ x' y'. ArePassing (placed a.around x') (placed b.around y')) b.around p.around a.form b.form p (passing_closed (placed h x) (placed g y) r.passing)))
    (has_layer a.around a.form t (peel_is h x v.is) c old)))

pass_at : (t : Tree) → IsClean t → Deep Passing t → Passing t
pass_at t c d h g x y r v = at_tree (suc (hides h x + hides g y)) t c d h g x y (omega arith) r v

pub passing_views : (t : Tree) → IsClean t → (h g : Fields) (x y : Form) → IsPair h g x y → Has h x t → Sees g y t
passing_views t c h g x y r v = pass_at t c (deep Passing (λ u k d. pass_at u k d) t c) h g x y r v

pub whole_part : (s : Form) → IsShape s → IsPlain s → IsPart no_fields s
whole_part s shape plain = record { around = record { table = record { guarded = refl; shapes = tt }; plain = tt }; shape = shape; plain = plain }

pub compatible_views : (old new : Form) (d : Value) (t : Tree) → IsShape old → IsShape new → IsPlain old → IsPlain new → IsCompatible old new → FitsIn no_fields d old → means d ≡ Some t → IsClean t
    → IsSome (view no_fields new t)
compatible_views old new d t shape new_shape plain new_plain r f e c =
    passing_views t c no_fields no_fields old new (record { passing = r; new = whole_part new new_shape new_plain })
    (record { is = whole_part old shape plain; has = inl (record { value = d; fits = f; is = e }) })
