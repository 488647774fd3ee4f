-- The fields of a struct, with one more behind them. Source: serde's data model.
use Rattle.bson_kinds.specs.Text.{Utf8}
use Rattle.bson_values.specs.Value.{Value, FieldValues, no_field_values, field_value}

abbrev pub with_field : FieldValues → (name : Utf8) → Value → FieldValues
with_field no_field_values name v = field_value name v no_field_values
with_field (field_value n w fs) name v = field_value n w (with_field fs name v)
