-- What contracts see of names: the list of them, in which a B-tree finds each. Source: this library's own types.
use Rattle.std.specs.Prelude.{◌≡◌, ◌<◌, ℕ, List, length}
use Rattle.std.specs.BTreeMap.{BTreeMap, get_by_text}
use Rattle.std.specs.List.{IsDistinct}
use Rattle.std.specs.Str.{bytes_eq}
use Rattle.bson_base.specs.BsonView.{Key}
use Rattle.bson_kinds.specs.Text.{Utf8}
use Rattle.bson_kinds.specs.Places.{place_among}

-- the B-tree has for each name its index
abbrev pub FindsAll : BTreeMap Key ℕ → List Utf8 → Type 0
FindsAll places names = (name : Utf8) → get_by_text places name ≡ place_among names name

-- No name is there twice, and where there are more than a few names, the B-tree has the index of each.
pub record IsIndexed (names : List Utf8) (places : BTreeMap Key ℕ) : Type 0 where
  pub distinct : IsDistinct bytes_eq names
  pub finds : 16 < length names → FindsAll places names
