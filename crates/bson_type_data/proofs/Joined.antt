-- One list of items or of entries, and then another.
use Rattle.std.proofs.Common.{◌≡◌, List, [], ◌∷◌, ◌++◌, refl, ap}
use Rattle.bson_values.specs.Value.{Items, no_items, item, Entries, no_entries, entry}
use Rattle.bson_datum.specs.View.{view, items_view, entries_view}
use Rattle.bson_datum.specs.declared.datum.Datum.{Datum}
use Rattle.bson_datum.specs.declared.datum.Entry.{Entry}

-- the items of one list, and then those of another
abbrev pub joined : Items → Items → Items
joined no_items ws = ws
joined (item v vs) ws = item v (joined vs ws)

pub joined_datum : (ds : List Datum) (d : Datum) (vs : Items) → joined (items_view (ds ++ d ∷ [])) vs ≡ joined (items_view ds) (item (view d) vs)
joined_datum [] d vs = refl
joined_datum (e ∷ ds) d vs = ap (item (view e)) (joined_datum ds d vs)

pub joined_nothing : (vs : Items) → joined vs no_items ≡ vs
joined_nothing no_items = refl
joined_nothing (item v vs) = ap (item v) (joined_nothing vs)

-- the entries of one list, and then those of another
abbrev pub joined_entries : Entries → Entries → Entries
joined_entries no_entries fs = fs
joined_entries (entry k v es) fs = entry k v (joined_entries es fs)

pub joined_entry : (ds : List Entry) (d : Entry) (vs : Entries) → joined_entries (entries_view (ds ++ d ∷ [])) vs ≡ joined_entries (entries_view ds) (entry (view d.key) (view d.value) vs)
joined_entry [] d vs = refl
joined_entry (e ∷ ds) d vs = ap (entry (view e.key) (view e.value)) (joined_entry ds d vs)

pub no_entry : (vs : Entries) → joined_entries vs no_entries ≡ vs
no_entry no_entries = refl
no_entry (entry k v vs) = ap (entry k v) (no_entry vs)
