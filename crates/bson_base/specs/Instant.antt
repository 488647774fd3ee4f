-- What contracts see of a `DateTime`. Source: bsonspec.org, version 1.1, UTC datetime.
use Rattle.std.specs.Prelude.{ℤ}
use Rattle.bson_base.specs.declared.date_time.DateTime.{DateTime}

-- its milliseconds since the start of 1970
abbrev pub millis : DateTime → ℤ
millis d = d.0
