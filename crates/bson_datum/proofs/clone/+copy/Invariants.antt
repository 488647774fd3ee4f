use Rattle.std.proofs.Common.{◌≡◌, map, take}
use Rattle.bson_datum.specs.View.{view, entry_view, field_view}
use Rattle.bson_datum.specs.Borrowed.{borrowed_parts, entry_borrowed, field_borrowed}
use Rattle.bson_datum.proofs.clone.+copy.Given as goal

abbrev pub invariant-copy_items-loop-item : goal.invariant-copy_items-loop-item
invariant-copy_items-loop-item l = record {
  equal : map view l.copies.items ≡ map view (take l.item-index l.items);
  borrowed : map borrowed_parts l.copies.items ≡ map borrowed_parts (take l.item-index l.items);
}

abbrev pub invariant-copy_entries-loop-entry : goal.invariant-copy_entries-loop-entry
invariant-copy_entries-loop-entry l = record {
  equal : map entry_view l.copies.items ≡ map entry_view (take l.entry-index l.entries);
  borrowed : map entry_borrowed l.copies.items ≡ map entry_borrowed (take l.entry-index l.entries);
}

abbrev pub invariant-copy_fields-loop-field : goal.invariant-copy_fields-loop-field
invariant-copy_fields-loop-field l = record {
  equal : map field_view l.copies.items ≡ map field_view (take l.field-index l.fields);
  borrowed : map field_borrowed l.copies.items ≡ map field_borrowed (take l.field-index l.fields);
}
