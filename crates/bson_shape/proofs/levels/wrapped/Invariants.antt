use Rattle.std.proofs.Common.{◌≡◌, ℕ}
use Rattle.bson_shape.specs.Machine.{wrapped}
use Rattle.bson_shape.specs.ParserView.{levels_view}
use Rattle.bson_shape.proofs.levels.wrapped.Given as goal

-- what is left gives what all gives
abbrev pub invariant-loop-level : goal.invariant-loop-level
invariant-loop-level l = (read : ℕ) → wrapped read l.shape (levels_view l.levels.items) ≡ wrapped read l.initial.shape (levels_view l.initial.levels.items)

abbrev pub decreases-loop-level : goal.decreases-loop-level
decreases-loop-level l = goal.left-loop-level l
