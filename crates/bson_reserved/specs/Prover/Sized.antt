-- How large the values in fields and in a list are.
use Rattle.std.specs.Prelude.{ℕ, ◌≤◌, List}
use denote.Param.Weighed.{most}
use Rattle.bson_datum.specs.declared.datum.Datum.{Datum}
use Rattle.bson_datum.specs.declared.datum.Field.{Field}
use Rattle.bson_datum.specs.declared.datum.Datum.TheViews.{size-Datum, size-Field}
use Rattle.bson_reserved.specs.declared.list.Part.{Part}
use Rattle.bson_reserved.specs.declared.list.Part.TheVariants.{Key}
use Rattle.bson_reserved.specs.declared.list.Part.TheVariants as part

-- the size of the largest of the fields
abbrev pub fields_size : List Field → ℕ
fields_size fields = most size-Field fields

abbrev pub part_size : Part → ℕ
part_size (Key k) = 0
part_size (part.Value d) = size-Datum d.now

-- the size of the largest value in a list
abbrev pub parts_size : List Part → ℕ
parts_size parts = most part_size parts

-- the value is no larger than this
abbrev pub IsWithin : ℕ → Datum → Type 0
IsWithin size d = size-Datum d ≤ size
