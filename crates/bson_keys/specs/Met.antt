-- The keys of a document that were met. Source: this library's own types.
use Rattle.std.specs.Prelude.{◌≡◌, ◌≤◌, ◌⊎◌, List, [], length, map}
use Rattle.std.specs.List.{IsDistinct}
use Rattle.std.specs.Map.Iter.{deref}
use Rattle.std.specs.Str.{bytes_eq}
use Rattle.bson_kinds.specs.Text.{Utf8}
use Rattle.bson_keys.specs.declared.met.MetKeys.{MetKeys}

-- these keys, which are different
pub record HasFew (m : MetKeys) (keys : List Utf8) : Type 0 where
  pub none : m.many.items ≡ []
  pub few : map deref m.few.items ≡ keys
  pub different : IsDistinct bytes_eq keys

-- these keys, which were not compared
pub record HasMany (m : MetKeys) (keys : List Utf8) : Type 0 where
  pub some : 1 ≤ length m.many.items
  pub all : map deref m.many.items ≡ keys

-- these keys were met
abbrev pub HasKeys : MetKeys → List Utf8 → Type 0
HasKeys m keys = HasFew m keys ⊎ HasMany m keys
