-- The lines for an input that is too long, and for a file of documents that is broken. Source: this library's own programs.
use Rattle.std.specs.Prelude.{ℕ, ◌++◌, codes}
use Rattle.std.specs.Fmt.{decimal}
use Rattle.bson_kinds.specs.Text.{Utf8}
use Rattle.bson_program.specs.ShapeWord.{newline}

abbrev pub too_long_line : Utf8
too_long_line = codes "input too long\n"

abbrev pub broken_line : (place : ℕ) → Utf8
broken_line place = codes "broken at " ++ (decimal place ++ newline)
