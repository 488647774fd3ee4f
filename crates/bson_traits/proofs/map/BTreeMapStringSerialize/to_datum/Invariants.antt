use Rattle.std.proofs.Common.{◌≡◌}
use Rattle.bson_kinds.specs.Outcome.{result_map}
use Rattle.bson_datum.specs.View.{entries_view}
use Rattle.bson_traits.specs.Maps.{written_entries}
use Rattle.bson_type_data.proofs.Joined.{joined_entries}
use Rattle.bson_traits.proofs.map.BTreeMapStringSerialize.to_datum.Given as goal

-- the entries so far, and those of what is left
abbrev pub invariant-loop-text : goal.invariant-loop-text
invariant-loop-text g l = record {
  can : (goal.iterator-loop-text g).can_next l.text-iterator;
  ends : (goal.iterator-loop-text g).is_finite l.text-iterator;
  all : result_map (joined_entries (entries_view l.entries.items)) (written_entries g.T.Serialize.written l.text-iterator) ≡ written_entries g.T.Serialize.written l.self.entries;
}
