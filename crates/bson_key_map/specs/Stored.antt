-- The hash table beside the pairs: where there is one, it has the texts of their keys, in order. Source: this library's own map of keys.
use Rattle.std.specs.Prelude.{◌≡◌, List, Option, Some, None}
use Rattle.bson_kinds.specs.Text.{Utf8}
use Rattle.bson_key_map.specs.Keys.{key_texts}
use Rattle.bson_key_map.specs.declared.pair.Pair.{Pair}

abbrev pub IsTableOf : {V : Type 0} → Option (List Utf8) → List (Pair V) → Type 0
IsTableOf None ps = Unit {0}
IsTableOf (Some texts) ps = texts ≡ key_texts ps
