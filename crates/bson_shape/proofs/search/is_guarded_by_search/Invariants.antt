use Rattle.std.proofs.Common.{◌≡◌, []}
use Rattle.std.specs.BTreeMap.{btree_map_len}
use Rattle.bson_shape.specs.ShapeView.{fields_of}
use Rattle.bson_shape.specs.Prover.Search.{search_view, Searches}
use Rattle.bson_shape.proofs.search.is_guarded_by_search.Given as goal

-- nothing is left to be done of what was entered
abbrev pub invariant-loop-name : goal.invariant-loop-name
invariant-loop-name l = record {
  table : l.search.table.now ≡ l.table;
  done : l.search.tasks.items ≡ [];
  searches : Searches (fields_of l.table) (search_view l.search);
}

abbrev pub decreases-loop-name : goal.decreases-loop-name
decreases-loop-name l = btree_map_len l.search.unseen
