-- Parts, and others behind them. Source: serde's data model.
use Rattle.std.specs.Prelude.{ℕ, suc}
use Rattle.bson_kinds.specs.Text.{Utf8}
use Rattle.bson_values.specs.Value.{Value, Items, no_items, item, Entries, no_entries, entry, FieldValues, no_field_values, field_value}

abbrev pub items_joined : (before after : Items) → Items
items_joined no_items ws = ws
items_joined (item v vs) ws = item v (items_joined vs ws)

abbrev pub entries_joined : (before after : Entries) → Entries
entries_joined no_entries gs = gs
entries_joined (entry k v es) gs = entry k v (entries_joined es gs)

abbrev pub fields_joined : (before after : FieldValues) → FieldValues
fields_joined no_field_values gs = gs
fields_joined (field_value name v fs) gs = field_value name v (fields_joined fs gs)

-- parts, and one more behind them
abbrev pub with_item : Items → Value → Items
with_item vs v = items_joined vs (item v no_items)

abbrev pub with_entry : Entries → Value → Value → Entries
with_entry es k v = entries_joined es (entry k v no_entries)

abbrev pub with_field : FieldValues → Utf8 → Value → FieldValues
with_field fs name v = fields_joined fs (field_value name v no_field_values)

-- the index of the value behind values, of which the first has this index
abbrev pub index_after : (index : ℕ) → Items → ℕ
index_after i no_items = i
index_after i (item v vs) = index_after (suc i) vs
