-- Seeing through a form step by step. Source: the usual meaning of recursive types.
use Rattle.std.specs.Prelude.{◌≡◌, ◌⊎◌, ◌+◌, ◌*◌, ◌<◌, ℕ, suc, List, Option, Some, None}
use Rattle.bson_kinds.specs.Text.{Utf8}
use Rattle.bson_shape.specs.Form.{Form, newtype, lossy, reference, definitions, Fields, no_fields, field}
use Rattle.bson_shape.specs.Guarded.{count}
use Rattle.bson_shape.specs.ShapeView.{fields_of}
use Rattle.bson_laws.specs.Unrolled.{repeated}
use Rattle.bson_evolve_laws.specs.Placed.{placed, seen, seen_name, undefined, Placed}
use Rattle.bson_evolve_check.specs.Placing.{place_view, IsTable}
use Rattle.bson_evolve_check.specs.declared.peel.Ahead.{Ahead}
use Rattle.bson_evolve_check.specs.declared.peel.Ahead.TheVariants.{Here, Inner, Name, Table}
use Rattle.bson_evolve_check.specs.declared.peel.Seeing.{Seeing}

-- the form is a newtype of this one, or its lossy mark
abbrev pub IsAround : Form → Form → Type 0
IsAround f s = ((name : Utf8) × (f ≡ newtype name s)) ⊎ (f ≡ lossy s)

-- where a form leads to
abbrev pub Leads : Ahead → Form → Type 0
Leads Here f = (means : Utf8 → Placed) (h : Fields) → seen means h f ≡ placed h f
Leads (Inner s) f = IsAround f s.now
Leads (Name name) f = f ≡ reference name.now
Leads (Table ds s) f = f ≡ definitions (fields_of ds.now) s.now

-- what the names of definitions mean in so many steps
abbrev pub names_to : ℕ → Fields → Utf8 → Placed
names_to n h = repeated n (λ means name. seen_name means h h name) (undefined h)

-- what a part is, seen through where so many names may follow
abbrev pub sees : ℕ → Placed → Placed
sees n p = seen (names_to n p.around) p.around p.form

abbrev mutual
  -- the most steps that it takes to see through a form, without those behind references out of it
  pub weight : Form → ℕ
  weight (newtype name s) = suc (weight s)
  weight (lossy s) = suc (weight s)
  weight (definitions k s) = suc (suc (count k) * suc (fields_weight k) + weight s)
  weight s = 0

  pub fields_weight : Fields → ℕ
  fields_weight no_fields = 0
  fields_weight (field name s fs) = weight s + fields_weight fs

-- how many may still be taken from a part, where so many names may follow
abbrev pub steps_left : ℕ → Placed → ℕ
steps_left n p = n * (fields_weight p.around + 1) + weight p.form

-- The one part is the other one, seen through farther.
pub record IsBehind (tables : List Fields) (at next : Seeing) : Type 0 where
  pub number : IsTable tables next.place.table
  pub same : sees next.left (place_view next.place) ≡ sees at.left (place_view at.place)
  pub fewer : steps_left next.left (place_view next.place) < steps_left at.left (place_view at.place)

-- one step further, or the part is seen through
abbrev pub IsFurther : List Fields → Seeing → Option Seeing → Type 0
IsFurther tables at None = sees at.left (place_view at.place) ≡ place_view at.place
IsFurther tables at (Some next) = IsBehind tables at next
