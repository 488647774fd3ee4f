use Rattle.std.proofs.Common.{◌≡◌, drop}
use Rattle.bson_kinds.specs.Outcome.{result_map}
use Rattle.bson_datum.specs.View.{items_view}
use Rattle.bson_traits.specs.Sequences.{written_items}
use Rattle.bson_type_data.proofs.Joined.{joined}
use Rattle.bson_traits.proofs.sequence.VecSerialize.to_datum.Given as goal

-- the items so far, and what is left
abbrev pub invariant-loop-x : goal.invariant-loop-x
invariant-loop-x g l = result_map (joined (items_view l.items.items)) (written_items g.T.Serialize.written (drop l.x-index l.self.items)) ≡ written_items g.T.Serialize.written l.self.items
