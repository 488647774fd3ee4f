use Rattle.std.proofs.Common.{◌≡◌, ◌≤◌}
use Rattle.std.specs.BTreeMap.{btree_map_len}
use Rattle.bson_shape.specs.ShapeView.{fields_of}
use Rattle.bson_shape.specs.Prover.Search.{search_view, Searches, left}
use Rattle.bson_shape.proofs.search.Search.run.Given as goal

-- what is known, and that nothing is unseen that was seen
abbrev pub invariant-loop-task : goal.invariant-loop-task
invariant-loop-task l = record {
  table : l.self.table ≡ l.initial.self.table;
  fewer : btree_map_len l.self.unseen ≤ btree_map_len l.initial.self.unseen;
  searches : Searches (fields_of l.self.table.now) (search_view l.self);
}

abbrev pub decreases-loop-task : goal.decreases-loop-task
decreases-loop-task l = left (fields_of l.self.table.now) (search_view l.self)
