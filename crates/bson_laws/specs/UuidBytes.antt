-- What the newtype of a UUID holds. Source: the newtype names of MongoDB's crate bson, version 2, and serde's `is_human_readable`.
use Rattle.std.specs.Prelude.{Bool, Option, Some, None, if◌then◌else◌}
use Rattle.uuid.specs.Text.{parsed}
use Rattle.bson_kinds.specs.Text.{Bytes}
use Rattle.bson_shape.specs.Makers.{is_reserved_newtype}
use Rattle.bson_values.specs.Value.{Value, str, bytes, some, newtype, mode}

-- The bytes that the newtype of a UUID holds, where some value, newtypes of no reserved name and values with two forms may be around them: its
-- bytes, or in the readable form those that its text stands for.
abbrev pub uuid_bytes : (readable : Bool) → Value → Option Bytes
uuid_bytes readable (some v) = uuid_bytes readable v
uuid_bytes readable (newtype name v) = if is_reserved_newtype name then None else uuid_bytes readable v
uuid_bytes readable (mode v w) = if readable then uuid_bytes readable v else uuid_bytes readable w
uuid_bytes readable (str t) = if readable then parsed t else None
uuid_bytes readable (bytes bs) = if readable then None else Some bs
uuid_bytes readable v = None
