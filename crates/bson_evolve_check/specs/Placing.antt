-- Parts with the definitions around them, and the numbers of these. Source: this library's own comparison of shapes.
use Rattle.std.specs.Prelude.{◌≡◌, ℕ, zero, suc, List, [], ◌∷◌, ◌++◌, map}
use Rattle.std.specs.Borrow.{Bor}
use Rattle.bson_shape.specs.Form.{Fields}
use Rattle.bson_shape.specs.ShapeView.{fields_of}
use Rattle.bson_shape.specs.declared.shape.FieldShape.{FieldShape}
use Rattle.bson_evolve_laws.specs.Placed.{Placed, placed}
use Rattle.bson_evolve_check.specs.declared.place.Place.{Place}
use Rattle.bson_evolve_check.specs.declared.place.Table.{Table}
use Rattle.bson_evolve_check.specs.declared.tables.Tables.{Tables}

-- it is at this index, from 0
abbrev pub IsAt : {A : Type 0} → List A → ℕ → A → Type 0
IsAt [] k x = ⊥
IsAt (y ∷ ys) zero x = y ≡ x
IsAt (y ∷ ys) (suc k) x = IsAt ys k x

-- no item is at two indexes
abbrev pub AreDifferent : {A : Type 0} → List A → Type 0
AreDifferent {A} xs = (i j : ℕ) (x : A) → IsAt xs i x → IsAt xs j x → i ≡ j

-- the first list begins with the second one
abbrev pub Extends : {A : Type 0} → List A → List A → Type 0
Extends {A} xs ys = (rest : List A) × (xs ≡ ys ++ rest)

-- the definitions of each number
abbrev pub tables_in : Tables → List Fields
tables_in t = map (λ (ds : Bor (List FieldShape)). fields_of ds.now) t.known.items

abbrev pub place_view : Place → Placed
place_view p = placed (fields_of p.table.definitions.now) p.shape.now

-- the definitions have this number
abbrev pub IsTable : List Fields → Table → Type 0
IsTable hs t = IsAt hs t.number (fields_of t.definitions.now)

-- Each item keeps its number, and no item has two numbers.
pub record IsMore {A : Type 0} (old new : List A) : Type 0 where
  pub kept : Extends new old
  pub different : AreDifferent new
