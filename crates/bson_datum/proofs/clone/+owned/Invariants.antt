use Rattle.std.proofs.Common.{◌≡◌, map}
use Rattle.bson_datum.specs.View.{view, entry_view, field_view}
use Rattle.bson_datum.specs.Borrowed.{items_borrowed, entries_borrowed, fields_borrowed, NoneBorrowed}
use Rattle.bson_datum.proofs.clone.+owned.Given as goal

abbrev pub invariant-owned_items-loop-item : goal.invariant-owned_items-loop-item
invariant-owned_items-loop-item l = record {
  equal : map view l.copies.items ≡ map view l.yielded;
  owned : NoneBorrowed (items_borrowed l.copies.items);
}

abbrev pub invariant-owned_entries-loop-entry : goal.invariant-owned_entries-loop-entry
invariant-owned_entries-loop-entry l = record {
  equal : map entry_view l.copies.items ≡ map entry_view l.yielded;
  owned : NoneBorrowed (entries_borrowed l.copies.items);
}

abbrev pub invariant-owned_fields-loop-field : goal.invariant-owned_fields-loop-field
invariant-owned_fields-loop-field l = record {
  equal : map field_view l.copies.items ≡ map field_view l.yielded;
  owned : NoneBorrowed (fields_borrowed l.copies.items);
}
