-- Keys that are new. Source: this library's own types.
use Rattle.std.specs.Prelude.{List, [], ◌∷◌, Bool, true, false, if◌then◌else◌}
use Rattle.std.specs.Str.{bytes_eq}
use Rattle.bson_kinds.specs.Text.{Utf8}

-- the key is none of these
abbrev pub is_new : Utf8 → List Utf8 → Bool
is_new key [] = true
is_new key (k ∷ ks) = if bytes_eq key k then false else is_new key ks
