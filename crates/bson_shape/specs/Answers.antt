-- What a call of the parser answers. Source: this library's own errors.
use Rattle.std.specs.Prelude.{◌≡◌, Option, Some, None, Result, Ok, Err}
use Rattle.bson_shape.specs.Machine.{Refusal, Not_notation, Refused}
use Rattle.bson_shape.specs.declared.error.ParseError.{ParseError}
use Rattle.bson_shape.specs.declared.error.ParseError.TheVariants as errors

-- the error that tells of a refusal
abbrev pub error_of : {Y : Type 0} → Result Y Refusal → Option ParseError
error_of (Ok y) = None
error_of (Err (Not_notation place)) = Some (errors.NotNotation place)
error_of (Err (Refused r)) = Some (errors.Refused r.place r.cause)

-- the error tells of the refusal, or of out of memory
abbrev pub Fails : {Y : Type 0} → ParseError → Result Y Refusal → Type 0
Fails errors.NoMemory read = Unit {0}
Fails (errors.NotNotation place) read = error_of read ≡ Some (errors.NotNotation place)
Fails (errors.Refused place cause) read = error_of read ≡ Some (errors.Refused place cause)

-- What a call returned, seen by view, is what reading gives, unless memory ran out.
abbrev pub Gives : {X Y : Type 0} → (X → Y) → Result X ParseError → Result Y Refusal → Type 0
Gives view (Ok x) read = read ≡ Ok (view x)
Gives view (Err e) read = Fails e read
