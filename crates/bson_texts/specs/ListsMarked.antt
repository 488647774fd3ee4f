-- What contracts see, with its marks, of a list of data and of a list of entries. Source: this library's own types.
use Rattle.std.specs.Prelude.{List, [], ◌∷◌}
use Rattle.bson_values.specs.Marked.{MarkedItems, MarkedEntries}
use Rattle.bson_datum.specs.MarkedView.{marked}
use Rattle.bson_values.specs.Value.{no_items, item, no_entries, entry}
use Rattle.bson_datum.specs.declared.datum.Datum.{Datum}
use Rattle.bson_datum.specs.declared.datum.Entry.{Entry}

abbrev pub items_marked : List Datum → MarkedItems
items_marked [] = no_items
items_marked (d ∷ ds) = item (marked d) (items_marked ds)

abbrev pub entries_marked : List Entry → MarkedEntries
entries_marked [] = no_entries
entries_marked (e ∷ es) = entry (marked e.key) (marked e.value) (entries_marked es)
