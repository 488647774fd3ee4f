-- What contracts see of a map from names to places. Source: this library's own types.
use Rattle.std.specs.Prelude.{◌≡◌, ℕ, List}
use Rattle.std.specs.Borrow.{Bor}
use Rattle.std.specs.BTreeMap.{BTreeMap, get_by}
use Rattle.std.specs.Cmp.Lexicographic.{slice_cmp}
use Rattle.std.specs.Ordering.{nat_cmp}
use Rattle.bson_kinds.specs.Text.{Utf8}
use Rattle.bson_slots.specs.Place.{place_of}

-- The map has for each of the names its place, and nothing for any other name.
abbrev pub Indexes : BTreeMap (Bor Utf8) ℕ → List Utf8 → Type 0
Indexes m names = (name : Utf8) → get_by (λ k. slice_cmp nat_cmp name k.now) m ≡ place_of names name
