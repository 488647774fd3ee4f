-- Compatibility of two shapes: each pair of parts that is reached from theirs passes. Source: this library's own comparison of shapes.
use Rattle.std.specs.Prelude.{ℕ, zero, suc, List, [], ◌∷◌, Some, None}
use Rattle.bson_shape.specs.Form.{Form, no_fields}
use Rattle.bson_evolve_laws.specs.Placed.{Placed, placed, peel}
use Rattle.bson_evolve_laws.specs.Rows.{Step, Answer, row}

-- the relation holds of each pair
abbrev pub Meets : (Form → Form → Type 0) → List Step → Type 0
Meets R [] = Unit {0}
Meets R (s ∷ ss) = R s.old s.new × Meets R ss

-- a row names the pair, and the relation holds of each pair that the row names
abbrev pub Met : (Form → Form → Type 0) → Answer → Type 0
Met R None = ⊥
Met R (Some ss) = Meets R ss

-- the row of two forms that were seen through, in their definitions
abbrev pub RowMeets : (Placed → Placed → Type 0) → Placed → Placed → Type 0
RowMeets R a b = Met (λ x y. R (placed a.around x) (placed b.around y)) (row a.form b.form)

-- the pairs that are reached from this one in fewer than so many steps pass; the pair itself is reached in 0 steps
abbrev pub PassesTo : ℕ → Placed → Placed → Type 0
PassesTo zero a b = Unit {0}
PassesTo (suc n) a b = RowMeets (PassesTo n) (peel a) (peel b)

-- every pair that is reached from these two passes
abbrev pub ArePassing : Placed → Placed → Type 0
ArePassing a b = (n : ℕ) → PassesTo n a b

-- Each pair of parts that is reached from the two shapes passes by a row.
abbrev pub IsCompatible : (old new : Form) → Type 0
IsCompatible old new = ArePassing (placed no_fields old) (placed no_fields new)
