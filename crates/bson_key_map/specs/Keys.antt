-- The keys of a document, and its pairs of a key and a value. Source: the usual map that keeps the order of insertion.
use Rattle.std.specs.Prelude.{List, map, string_bytes}
use Rattle.std.specs.Global.{Global}
use Rattle.std.specs.declared.string.String.{String}
use Rattle.bson_kinds.specs.Text.{Utf8}
use Rattle.bson_key_map.specs.declared.pair.Pair.{Pair}

-- a key, as a document holds it
abbrev pub Key : Type 0
Key = String Global

-- the texts of the keys, in order
abbrev pub key_texts : {V : Type 0} → List (Pair V) → List Utf8
key_texts ps = map (λ p. string_bytes p.key) ps

-- the pair with another value
abbrev pub pair_with : {V : Type 0} → V → Pair V → Pair V
pair_with value p = record { key = p.key; value = value }
