use Rattle.std.specs.List.{All}
use Rattle.bson_traits.specs.Maps.{IsPairOf}
use Rattle.bson_traits.proofs.map.BTreeMapStringRoundTrip.known.Given as goal

-- if those that are left are values, all are
abbrev pub invariant-loop-text : goal.invariant-loop-text
invariant-loop-text g l = record {
  can : (goal.iterator-loop-text g).can_next l.text-iterator;
  ends : (goal.iterator-loop-text g).is_finite l.text-iterator;
  all : All (IsPairOf g.T.RoundTrip.is_value) l.text-iterator → All (IsPairOf g.T.RoundTrip.is_value) l.self.entries;
}
