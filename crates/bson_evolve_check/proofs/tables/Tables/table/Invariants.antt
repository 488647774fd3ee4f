use Rattle.std.proofs.Common.{ℕ, take}
use Rattle.bson_shape.specs.ShapeView.{fields_of}
use Rattle.bson_evolve_check.specs.Placing.{tables_in, IsAt}
use Rattle.bson_evolve_check.proofs.tables.Tables.table.Given as goal

-- none so far has the same names and shapes
abbrev pub invariant-loop-number : goal.invariant-loop-number
invariant-loop-number l = (k : ℕ) → IsAt (take l.number (tables_in l.fn.self)) k (fields_of l.definitions) → ⊥
