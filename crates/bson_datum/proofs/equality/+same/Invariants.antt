use Rattle.std.proofs.Common.{◌≡◌}
use Rattle.bson_datum.proofs.Sames.{same_items_from, same_entries_from, same_fields_from}
use Rattle.bson_datum.proofs.equality.+same.Given as goal

abbrev pub invariant-are_same_items-loop-i : goal.invariant-are_same_items-loop-i
invariant-are_same_items-loop-i l = same_items_from l.i l.a l.b ≡ same_items_from 0 l.a l.b

abbrev pub invariant-are_same_entries-loop-i : goal.invariant-are_same_entries-loop-i
invariant-are_same_entries-loop-i l = same_entries_from l.i l.a l.b ≡ same_entries_from 0 l.a l.b

abbrev pub invariant-are_same_fields-loop-i : goal.invariant-are_same_fields-loop-i
invariant-are_same_fields-loop-i l = same_fields_from l.i l.a l.b ≡ same_fields_from 0 l.a l.b
