-- What is answered where values of a type are written and read: what the meaning of the type says. Source: this library's own errors.
use Rattle.std.specs.Prelude.{Result}
use Rattle.bson_values.specs.Cause as cause
use Rattle.bson_values.specs.Refusal.{ReadFault, WriteFault, unreadable, Failure, bare}

-- what is read, or the failure
abbrev pub Reading : Type 0 → Type 0
Reading C = Result C (Failure ReadFault)

-- what is written, or the failure
abbrev pub Writing : Type 0 → Type 0
Writing C = Result C (Failure WriteFault)

-- the failure of a datum that no value of the type has
abbrev pub not_fitting : Failure ReadFault
not_fitting = bare (unreadable cause.not_fitting)
