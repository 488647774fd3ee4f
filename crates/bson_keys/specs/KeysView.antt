-- What contracts see of the keys of a map that is read. Source: this library's own types.
use Rattle.std.specs.Prelude.{◌≡◌, ◌≤◌, ℕ, List, map, take, Option, Some, None, option_map, box_value}
use Rattle.std.specs.Borrow.{Bor}
use Rattle.std.specs.BTreeMap.{BTreeMap}
use Rattle.bson_kinds.specs.Places.{place_among}
use Rattle.bson_kinds.specs.Text.{Utf8}
use Rattle.bson_keys.specs.Places.{place_in_tree}
use Rattle.bson_keys.specs.declared.places.MapKeys.{MapKeys}

-- the place of a text in the B-tree where there is one, and else among the keys
abbrev pub place_found : Option (BTreeMap (ℕ × Bor Utf8) ℕ) → List Utf8 → Utf8 → Option ℕ
place_found (Some tree) keys text = place_in_tree tree text
place_found None keys text = place_among keys text

-- the place of the key that is the text
abbrev pub key_place : MapKeys → Utf8 → Option ℕ
key_place keys text = place_found (option_map box_value keys.places) (map (λ k. k.now) (take keys.count keys.first)) text

-- The keys have the places below this one, as far as they have no B-tree of places.
pub record HasPlacesBelow (place : ℕ) (keys : MapKeys) : Type 0 where
  pub few : keys.count ≤ 8
  pub next : keys.places ≡ None → place ≡ keys.count
