-- The lines that are printed. Source: this library's own programs.
use Rattle.std.specs.Prelude.{ℕ, ◌++◌, codes, Option, Some, None}
use Rattle.std.specs.Fmt.{decimal}
use Rattle.bson_kinds.specs.Text.{Utf8}
use Rattle.bson_shape.specs.Machine.{Refusal, Not_notation, Refused}
use Rattle.bson_shape.specs.Refusals.{refusal_text}
use Rattle.bson_shape.specs.declared.error.ParseError.{ParseError}
use Rattle.bson_shape.specs.declared.error.ParseError.TheVariants as errors
use Rattle.bson_values.specs.Printed.{printed_path}
use Rattle.bson_values.specs.Refusal.{Path}
use Rattle.bson_program.specs.ShapeWord.{newline}

abbrev pub usage_line : Utf8
usage_line = codes "usage: bson_evolve OLD NEW\n"

-- the names of the two words
abbrev pub old_word : Utf8
old_word = codes "old"

abbrev pub new_word : Utf8
new_word = codes "new"

-- the line for the shape word of this name that is refused at a place
abbrev pub line_at : (which : Utf8) → ℕ → ParseError → Utf8
line_at which place e = codes "shape " ++ (which ++ (codes " refused at " ++ (decimal place ++ (codes ": " ++ (refusal_text e ++ newline)))))

-- the line for an error of the parser; none where memory ran out
abbrev pub line_for : (which : Utf8) → ParseError → Option Utf8
line_for which (errors.NotNotation place) = Some (line_at which place (errors.NotNotation place))
line_for which (errors.Refused place cause) = Some (line_at which place (errors.Refused place cause))
line_for which errors.NoMemory = None

abbrev pub refusal_line : (which : Utf8) → Refusal → Utf8
refusal_line which (Not_notation place) = line_at which place (errors.NotNotation place)
refusal_line which (Refused r) = line_at which r.place (errors.Refused r.place r.cause)

-- the line for the shape of this name that is not plain
abbrev pub not_plain_line : (which : Utf8) → Utf8
not_plain_line which = codes "shape " ++ (which ++ codes " is not plain\n")

-- the line that tells the verdict: the path to the first fault, where there is one
abbrev pub verdict_line : Option Path → Utf8
verdict_line None = codes "yes\n"
verdict_line (Some path) = codes "no at " ++ (printed_path path ++ newline)
