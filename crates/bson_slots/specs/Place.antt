-- The place of a name among others. Source: this library's own types.
use Rattle.std.specs.Prelude.{ℕ, suc, List, [], ◌∷◌, if◌then◌else◌, Option, Some, None, option_map}
use Rattle.std.specs.Str.{bytes_eq}
use Rattle.bson_kinds.specs.Text.{Utf8}

-- the place of the first of the names that is the key, from 0
abbrev pub place_of : List Utf8 → (key : Utf8) → Option ℕ
place_of [] key = None
place_of (name ∷ names) key = if bytes_eq name key then Some 0 else option_map suc (place_of names key)
