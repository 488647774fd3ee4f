-- What the refusals of a shape print. Source: this library's own texts.
use Rattle.std.specs.Prelude.{codes, ℕ, Option, Some, None}
use Rattle.bson_kinds.specs.Text.{Utf8}
use Rattle.bson_shape.specs.declared.error.ShapeError.{ShapeError}
use Rattle.bson_shape.specs.declared.error.ShapeError.TheVariants as causes
use Rattle.bson_shape.specs.declared.error.ParseError.{ParseError}
use Rattle.bson_shape.specs.declared.error.ParseError.TheVariants as errors

-- the refusal of a maker
abbrev pub shape_error_text : ShapeError → Utf8
shape_error_text causes.ReservedName = codes "reserved name"
shape_error_text causes.RepeatedName = codes "repeated name"
shape_error_text causes.KeyNotText = codes "map key is not a text"
shape_error_text causes.Unguarded = codes "unguarded reference"
shape_error_text causes.TooDeep = codes "shape deeper than 512 levels"
shape_error_text causes.NoMemory = codes "out of memory"

-- the refusal of a text, without its place
abbrev pub refusal_text : ParseError → Utf8
refusal_text (errors.NotNotation place) = codes "not a shape"
refusal_text (errors.Refused place e) = shape_error_text e
refusal_text errors.NoMemory = codes "out of memory"

-- the place that a refusal tells
abbrev pub place_of : ParseError → Option ℕ
place_of (errors.NotNotation place) = Some place
place_of (errors.Refused place cause) = Some place
place_of errors.NoMemory = None
