-- The values of two keys. For the contract of a function of this crate. Source: MongoDB's extended JSON, version 2.
use Rattle.std.specs.Prelude.{◌≡◌, Option, option_and_then}
use Rattle.bson_kinds.specs.Text.{Utf8}
use Rattle.bson_base.specs.Tree.{Tree, Pairs}
use Rattle.bson_json_laws.specs.Read.{both}

-- a form of two keys is what becomes of these two values
abbrev pub AreBoth : Utf8 → Utf8 → Pairs → Option (Tree × Tree) → Type 0
AreBoth a b ps o = (f : Tree → Tree → Option Tree) → both a b f ps ≡ option_and_then (λ p. f p.0 p.1) o
