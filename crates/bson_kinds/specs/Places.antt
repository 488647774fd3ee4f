-- The place of a text among others. Source: std's `Iterator::rposition`.
use Rattle.std.specs.Prelude.{ℕ, suc, List, [], ◌∷◌, if◌then◌else◌, Option, Some, None}
use Rattle.std.specs.Str.{bytes_eq}
use Rattle.bson_kinds.specs.Text.{Utf8}

-- the place in the rest, one more, or else the place at the front
abbrev pub further_or_first : Option ℕ → Option ℕ → Option ℕ
further_or_first (Some i) first = Some (suc i)
further_or_first None first = first

-- the place of the last of the texts that is this one, from 0
abbrev pub place_among : List Utf8 → Utf8 → Option ℕ
place_among [] text = None
place_among (t ∷ texts) text = further_or_first (place_among texts text) (if bytes_eq t text then Some 0 else None)
