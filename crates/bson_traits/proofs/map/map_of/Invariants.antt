use Rattle.std.proofs.Common.{◌≡◌, [], length}
use Rattle.std.specs.Vec.Iter.{into_iter_items, into_iter_len}
use Rattle.bson_datum.specs.View.{entries_view}
use Rattle.bson_traits.specs.Maps.{map_contents, taken_entries}
use Rattle.bson_traits.proofs.map.map_of.Given as goal

-- the pairs so far, and what those that are left add
abbrev pub invariant-loop-entry : goal.invariant-loop-entry
invariant-loop-entry g l = record {
  can : (goal.iterator-loop-entry g).can_next l.entry-iterator;
  ends : (goal.iterator-loop-entry g).is_finite l.entry-iterator;
  len : into_iter_len l.entry-iterator ≡ length (into_iter_items l.entry-iterator);
  all : taken_entries g.T.Deserialize.taken (map_contents g.T.Deserialize.contents l.map.entries) (entries_view (into_iter_items l.entry-iterator)) ≡ taken_entries g.T.Deserialize.taken [] (entries_view (into_iter_items l.initial.entry-iterator));
}
