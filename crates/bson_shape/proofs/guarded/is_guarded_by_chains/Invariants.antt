use Rattle.std.proofs.Common.{◌≡◌, ◌+◌, true, take, length}
use Rattle.bson_shape.specs.Guarded.{all_end}
use Rattle.bson_shape.specs.ShapeView.{fields_of}
use Rattle.bson_shape.proofs.guarded.is_guarded_by_chains.Given as goal

-- the chains from the names so far end
abbrev pub invariant-loop-definition : goal.invariant-loop-definition
invariant-loop-definition l = record {
  most : l.most ≡ length l.table + 1;
  so_far : all_end (fields_of l.table) l.most (fields_of (take l.definition-index l.table)) ≡ true;
}
