-- What contracts see of the options of a reader of values in memory. Source: serde's `is_human_readable`.
use Rattle.std.specs.Prelude.{Bool, true, Option, Some, None}

-- whether the reader is human
abbrev pub is_readable : Option Bool → Bool
is_readable (Some readable) = readable
is_readable None = true
