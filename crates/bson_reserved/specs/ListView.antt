-- What contracts see of a list of keys and values. Source: this library's own types.
use Rattle.std.specs.Prelude.{List, map}
use Rattle.bson_values.specs.Value.{Value}
use Rattle.bson_datum.specs.View.{view}
use Rattle.bson_laws.specs.Unwrap as unwrap
use Rattle.bson_laws.specs.Unwrap.{a_key, a_value}
use Rattle.bson_reserved.specs.declared.list.Part.{Part}
use Rattle.bson_reserved.specs.declared.list.Part.TheVariants.{Key}
use Rattle.bson_reserved.specs.declared.list.Part.TheVariants as part

-- a part, where each value is with itself
abbrev pub part_view : Part → unwrap.Part Value
part_view (Key k) = a_key k.now
part_view (part.Value d) = a_value (view d.now) (view d.now)

abbrev pub parts_view : List Part → List (unwrap.Part Value)
parts_view parts = map part_view parts
