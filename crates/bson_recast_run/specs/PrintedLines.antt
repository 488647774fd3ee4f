-- The lines that are printed of an input. Source: this library's own programs.
use Rattle.std.specs.Prelude.{nat_eq, codes}
use Rattle.std.specs.List.{starts_with}
use Rattle.bson_kinds.specs.Text.{Utf8}
use Rattle.bson_program.specs.OneShape.{Usage}

-- A word that begins with `--` is an option, of the recast or of none.
abbrev pub recast_usage : Usage
recast_usage = record { line = codes "usage: bson_recast [OPTIONS] SHAPE\n"; is_option = λ word. starts_with nat_eq word (codes "--") }

abbrev pub too_long_line : Utf8
too_long_line = codes "read refused: input too long\n"

abbrev pub not_digits_line : Utf8
not_digits_line = codes "read refused: not hexadecimal\n"
