-- The value at a key of a document in its bytes. Source: MongoDB's crate bson, version 2, `RawDocument::get`.
use Rattle.std.specs.Prelude.{if◌then◌else◌, Option, None, Some, Result, Ok, Err}
use Rattle.std.specs.Str.{bytes_eq}
use Rattle.bson_kinds.specs.Text.{Utf8}
use Rattle.bson_kinds.specs.Outcome.{result_map}
use Rattle.bson_rawdoc.specs.RawValue.{RawValue, value_in}
use Rattle.bson_rawdoc.specs.Walk.{Walk, ended, faulty, then_walk}
use Rattle.bson_faults.specs.declared.raw.Error.{Error}

abbrev pub present : Result RawValue Error → Result (Option RawValue) Error
present r = result_map Some r

-- The value of the first element of this key, or its fault; none where no element has the key; the fault of the walk, if that comes before such an element.
abbrev pub get : (key : Utf8) → Walk → Result (Option RawValue) Error
get key ended = Ok None
get key (faulty e) = Err e
get key (then_walk e w) = if bytes_eq key e.key then present (value_in e.kind e.value) else get key w
