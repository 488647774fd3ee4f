-- A step of an iterator over the pairs of a document, or over its keys. Source: std's `Iterator`.
use Rattle.std.specs.Prelude.{◌≡◌, List, [], ◌∷◌, Option, Some, None, string_bytes}
use Rattle.std.specs.Borrow.{Bor}
use Rattle.std.specs.Global.{Global}
use Rattle.std.specs.declared.string.String.{String}
use Rattle.bson_kinds.specs.Text.{Utf8}
use Rattle.bson_base.specs.Tree.{Pairs, no_pairs, pair}
use Rattle.bson_base.specs.BsonView.{tree_of}
use Rattle.bson_base.specs.declared.bson.Bson.{Bson}

-- what was left begins with the pair that is borrowed, and the rest of it is left now
abbrev pub IsNext : Pairs → Option (Bor (String Global) × Bor Bson) → Pairs → Type 0
IsNext old None new = (old ≡ no_pairs) × (new ≡ no_pairs)
IsNext old (Some p) new = old ≡ pair (string_bytes p.0.now) (tree_of p.1.now) new

-- the same, for pairs that are owned
abbrev pub IsTaken : Pairs → Option (String Global × Bson) → Pairs → Type 0
IsTaken old None new = (old ≡ no_pairs) × (new ≡ no_pairs)
IsTaken old (Some p) new = old ≡ pair (string_bytes p.0) (tree_of p.1) new

-- the same, for the texts of keys
abbrev pub IsNextKey : List Utf8 → Option (Bor (String Global)) → List Utf8 → Type 0
IsNextKey old None new = (old ≡ []) × (new ≡ [])
IsNextKey old (Some key) new = old ≡ string_bytes key.now ∷ new
