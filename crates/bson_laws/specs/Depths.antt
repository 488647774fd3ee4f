-- How deep values are: in steps into documents and arrays, those included that values are opened to. Source: the usual depth of trees.
use Rattle.std.specs.Prelude.{ℕ, suc, max}
use Rattle.bson_rawdoc.specs.Node.{Node, document, array, extended, Extended, binary, date_time, timestamp, regular_expression, db_pointer, javascript_code_with_scope, Nodes, ended, faulty, then_node}
use Rattle.bson_values.specs.Value as value
use Rattle.bson_values.specs.Value.{Value, Items, no_items, item, Entries, no_entries, entry, FieldValues, no_field_values, field_value}

-- ---- values as a reader meets them

abbrev mutual
  -- an extended value as it is given, or as it is opened, whichever is deeper
  pub height : Node → ℕ
  height (document slice ns) = suc (heights ns)
  height (array slice ns) = suc (heights ns)
  height (extended x ns) = suc (max (heights ns) (opened_height x))
  height n = 0

  pub heights : Nodes → ℕ
  heights ended = 0
  heights (faulty e) = 0
  heights (then_node key n ns) = max (height n) (heights ns)

  -- the height of what is in the document that a value is opened to
  pub opened_height : Extended → ℕ
  opened_height (javascript_code_with_scope code scope) = height scope
  opened_height (binary subtype b) = 1
  opened_height (date_time n) = 1
  opened_height (timestamp time increment) = 1
  opened_height (regular_expression pattern options) = 1
  opened_height (db_pointer namespace id) = 2
  opened_height x = 0

-- ---- values of serde's data model

abbrev mutual
  pub value_depth : Value → ℕ
  value_depth (value.some v) = value_depth v
  value_depth (value.newtype name v) = value_depth v
  value_depth (value.newtype_variant name v) = suc (value_depth v)
  value_depth (value.sequence vs) = suc (items_depth vs)
  value_depth (value.tuple vs) = suc (items_depth vs)
  value_depth (value.tuple_structure name vs) = suc (items_depth vs)
  value_depth (value.tuple_variant name vs) = suc (items_depth vs)
  value_depth (value.map es) = suc (entries_depth es)
  value_depth (value.structure name fs) = suc (fields_depth fs)
  value_depth (value.structure_variant name fs) = suc (fields_depth fs)
  value_depth v = 0

  pub items_depth : Items → ℕ
  items_depth no_items = 0
  items_depth (item v vs) = max (value_depth v) (items_depth vs)

  pub entries_depth : Entries → ℕ
  entries_depth no_entries = 0
  entries_depth (entry k v es) = max (value_depth v) (entries_depth es)

  pub fields_depth : FieldValues → ℕ
  fields_depth no_field_values = 0
  fields_depth (field_value name v fs) = max (value_depth v) (fields_depth fs)
