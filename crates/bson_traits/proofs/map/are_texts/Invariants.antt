use Rattle.std.proofs.Common.{◌≡◌, drop}
use Rattle.bson_datum.specs.View.{entries_view}
use Rattle.bson_traits.specs.Maps.{are_texts}
use Rattle.bson_traits.proofs.map.are_texts.Given as goal

abbrev pub invariant-loop-entry : goal.invariant-loop-entry
invariant-loop-entry l = are_texts (entries_view l.entries) ≡ are_texts (entries_view (drop l.entry-index l.entries))
