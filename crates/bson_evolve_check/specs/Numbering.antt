-- The numbers of parts that were seen through. Source: this library's own comparison of shapes.
use Rattle.std.specs.Prelude.{◌≡◌, ℕ, List, map, Some, string_bytes, string_cmp, String}
use Rattle.std.specs.BTreeMap.{get, BTreeMap}
use Rattle.std.specs.Global.{Global}
use Rattle.std.specs.declared.cmp.Ordering.{Ordering}
use Rattle.std.specs.Ordering.{nat_cmp, ordering_then}
use Rattle.bson_shape.specs.Form.{Fields}
use Rattle.bson_shape.specs.Makers.{IsShape}
use Rattle.bson_shape.specs.Notation.{text}
use Rattle.bson_evolve_laws.specs.Placed.{peel, Placed}
use Rattle.bson_evolve_check.specs.Placing.{place_view, tables_in, AreDifferent, Extends, IsAt, IsMore, IsTable}
use Rattle.bson_evolve_check.specs.declared.parts.Part.{Part}
use Rattle.bson_evolve_check.specs.declared.parts.Parts.{Parts}
use Rattle.bson_evolve_check.specs.declared.place.Place.{Place}

-- the number of definitions, and a notation
abbrev pub PartKey : Type 0
PartKey = ℕ × String Global

abbrev pub part_cmp : PartKey → PartKey → Ordering
part_cmp x y = ordering_then (nat_cmp x.0 y.0) (string_cmp x.1 y.1)

-- the number of the part that a part was found in, how many were found there before it, and its kind
abbrev pub Origin : Type 0
Origin = ℕ × ℕ × ℕ

abbrev pub origin_cmp : Origin → Origin → Ordering
origin_cmp x y = ordering_then (ordering_then (nat_cmp x.0 y.0) (nat_cmp x.1 y.1)) (nat_cmp x.2 y.2)

-- the key of a place
pub record IsPartKey (p : Place) (k : PartKey) : Type 0 where
  pub number : k.0 ≡ p.table.number
  pub notation : string_bytes k.1 ≡ text p.shape.now
  pub shape : IsShape p.shape.now

-- the parts of each number
abbrev pub places_in : List Place → List Placed
places_in ps = map place_view ps

abbrev pub parts_in : Parts → List Placed
parts_in p = places_in p.known.items

-- The map has the number of each part at the key of the part, and no other number.
pub record IsNumbering (tables : List Fields) (known : List Place) (numbers : BTreeMap PartKey ℕ) : Type 0 where
  pub around : (n : ℕ) (p : Place) → IsAt known n p → IsTable tables p.table
  pub keyed : (n : ℕ) (p : Place) → IsAt known n p → (k : PartKey) × IsPartKey p k
  pub kept : (n : ℕ) (p : Place) (k : PartKey) → IsAt known n p → IsPartKey p k → get part_cmp numbers k ≡ Some n
  pub given : (k : PartKey) (n : ℕ) → get part_cmp numbers k ≡ Some n → (p : Place) × IsAt known n p × IsPartKey p k

-- the part is what the place is seen through, and has this number
pub record IsPart (tables : List Fields) (known : List Placed) (s : Part) : Type 0 where
  pub outside : IsTable tables s.place.table
  pub table : IsTable tables s.seen.table
  pub seen : place_view s.seen ≡ peel (place_view s.place)
  pub number : IsAt known s.number (place_view s.seen)

-- Definitions and parts have their numbers, and each part that was found has its own.
pub record AreGood (p : Parts) : Type 0 where
  pub different : AreDifferent (tables_in p.tables)
  pub numbered : IsNumbering (tables_in p.tables) p.known.items p.numbers
  pub found : (k : Origin) (s : Part) → get origin_cmp p.found k ≡ Some s → IsPart (tables_in p.tables) (parts_in p) s

-- Each table of definitions and each part keeps its number, and what is known now is good (`AreGood`).
pub record AreMore (old new : Parts) : Type 0 where
  pub tables : IsMore (tables_in old.tables) (tables_in new.tables)
  pub parts : Extends (parts_in new) (parts_in old)
  pub good : AreGood new
