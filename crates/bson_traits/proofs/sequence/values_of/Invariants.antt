use Rattle.std.proofs.Common.{◌≡◌, ◌++◌, length, map}
use Rattle.std.specs.Vec.Iter.{into_iter_items, into_iter_len}
use Rattle.bson_kinds.specs.Outcome.{result_map}
use Rattle.bson_datum.specs.View.{items_view}
use Rattle.bson_traits.specs.Sequences.{taken_items}
use Rattle.bson_traits.proofs.sequence.values_of.Given as goal

-- the values so far, and those that what is left gives
abbrev pub invariant-loop-item : goal.invariant-loop-item
invariant-loop-item g l = record {
  can : (goal.iterator-loop-item g).can_next l.item-iterator;
  ends : (goal.iterator-loop-item g).is_finite l.item-iterator;
  len : into_iter_len l.item-iterator ≡ length (into_iter_items l.item-iterator);
  all : result_map (λ cs. map g.T.Deserialize.contents l.values.items ++ cs) (taken_items g.T.Deserialize.taken (items_view (into_iter_items l.item-iterator))) ≡ taken_items g.T.Deserialize.taken (items_view (into_iter_items l.initial.item-iterator));
}
