-- How many levels of documents and arrays are left for the parts of a value that is written part by part. Source: the limits of this library.
use Rattle.std.specs.Prelude.{ℕ, ◌-◌}
use Rattle.bson_base.specs.Sound.{max_levels}

-- for the parts of a whole value, which is at level 1
abbrev pub in_whole : ℕ
in_whole = max_levels - 1

-- for the parts of what a whole variant holds, which is at level 2
abbrev pub in_variant : ℕ
in_variant = max_levels - 2
