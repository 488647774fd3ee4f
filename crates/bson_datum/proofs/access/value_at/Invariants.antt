use Rattle.std.proofs.Common.{◌≡◌, drop}
use Rattle.bson_datum.specs.Access.{value_at}
use Rattle.bson_datum.specs.View.{entries_view}
use Rattle.bson_datum.proofs.access.value_at.Given as goal

abbrev pub invariant-loop-entry : goal.invariant-loop-entry
invariant-loop-entry l = value_at l.key (entries_view l.entries) ≡ value_at l.key (entries_view (drop l.entry-index l.entries))
