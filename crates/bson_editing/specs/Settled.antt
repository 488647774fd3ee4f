-- What the laws of edits ask of a document, of changes and of steps. Source: this library's own programs.
use Rattle.std.specs.Prelude.{◌≡◌, ◌≤◌, ℕ, Bool, true, false, length, if◌then◌else◌, Option, Some, None, Ok}
use Rattle.std.specs.Str.{is_utf8}
use Rattle.bson_kinds.specs.Text.{Utf8, has_zero}
use Rattle.bson_base.specs.Sound.{max_bytes}
use Rattle.bson_base.specs.Tree.{Tree, kind, enc}
use Rattle.bson_rawdoc.specs.Extent.{extent}
use Rattle.bson_rawdoc.specs.Walk.{Walk, ended, faulty, then_walk}
use Rattle.bson_editing.specs.Edited.{Value, Changing, has_key}
use Rattle.bson_editing.specs.Plan.{Edit, keep, drop_it, change, inside_it, Steps, no_steps, step, is_for}

-- ---- documents that no step is for

-- No step is for an element of this key.
abbrev pub IsForNone : (array : Bool) → Steps → (key : Utf8) → Type 0
IsForNone array no_steps key = Unit {0}
IsForNone array (step name to missing edit rest) key = (is_for array name key ≡ false) × IsForNone array rest key

-- No fault ends the walk, and no step is for one of its elements.
abbrev pub AreForNone : Steps → Walk → Type 0
AreForNone steps ended = Unit {0}
AreForNone steps (faulty e) = ⊥
AreForNone steps (then_walk x w) = IsForNone false steps x.key × AreForNone steps w

-- What a step would put is there.
abbrev pub IsThere : (name : Option Utf8) → (missing : Option Tree) → Walk → Type 0
IsThere (Some name) (Some t) w = has_key name w ≡ true
IsThere name missing w = Unit {0}

-- Nothing that steps would put is missing.
abbrev pub LacksNothing : Steps → Walk → Type 0
LacksNothing no_steps w = Unit {0}
LacksNothing (step name to missing edit rest) w = IsThere name missing w × LacksNothing rest w

-- ---- changes

-- The bytes are those of one value of the kind.
abbrev pub IsValue : Value → Type 0
IsValue v = extent v.kind v.bytes ≡ Ok (length v.bytes)

-- What a change makes of a value is a value.
abbrev pub GivesValues : {X : Type 0} → Changing X → Type 0
GivesValues r = (n levels : ℕ) (v made : Value) → IsValue v → r n levels v ≡ Ok made → IsValue made

-- What a change makes of a value it makes of it again.
abbrev pub IsSettled : {X : Type 0} → Changing X → Type 0
IsSettled r = (n levels : ℕ) (v made : Value) → r n levels v ≡ Ok made → r n levels made ≡ Ok made

-- ---- steps

-- A name can be a key.
abbrev pub IsName : Option Utf8 → Type 0
IsName None = Unit {0}
IsName (Some name) = (is_utf8 name ≡ true) × (has_zero name ≡ false)

-- A value that is put has the bytes of one value of its kind, where they are no more than a document may have.
abbrev pub IsLiteral : Option Tree → Type 0
IsLiteral None = Unit {0}
IsLiteral (Some t) = length (enc t) ≤ max_bytes → extent (kind t) (enc t) ≡ Ok (length (enc t))

-- A name under which something is put can be a key.
abbrev pub IsNameOf : Option Tree → Option Utf8 → Type 0
IsNameOf None name = Unit {0}
IsNameOf (Some t) name = IsName name × IsLiteral (Some t)

-- The names that steps give, and the names and values of what they put, can be those of elements.
abbrev pub AreNames : Steps → Type 0
AreNames no_steps = Unit {0}
AreNames (step name to missing edit rest) = IsName to × IsNameOf missing name × AreNames rest

-- the new key and the edit of the first step for a name in a document
abbrev pub first_for : Steps → (name : Utf8) → Option (Option Utf8 × Edit)
first_for no_steps key = None
first_for (step name to missing edit rest) key = if is_for false name key then Some (to, edit) else first_for rest key

-- The elements that an edit is for stay.
abbrev pub LeavesNoneOut : Edit → Type 0
LeavesNoneOut drop_it = ⊥
LeavesNoneOut edit = Unit {0}

-- No step of the whole is for the new key.
abbrev pub IsFreshName : (array : Bool) → (whole : Steps) → (to : Option Utf8) → Type 0
IsFreshName array whole None = Unit {0}
IsFreshName array whole (Some to) = IsForNone array whole to

-- A step that puts an element is the first of the whole for its name, gives it no new key, and leaves it in.
abbrev pub StaysPut : (whole : Steps) → (name : Option Utf8) → (missing : Option Tree) → Edit → Type 0
StaysPut whole (Some name) (Some t) edit = (first_for whole name ≡ Some (None, edit)) × LeavesNoneOut edit
StaysPut whole name missing edit = Unit {0}

abbrev pub AreFreshNames : (array : Bool) → (whole : Steps) → Steps → Type 0
AreFreshNames array whole no_steps = Unit {0}
AreFreshNames array whole (step name to missing edit rest) = IsFreshName array whole to × StaysPut whole name missing edit × AreFreshNames array whole rest

abbrev mutual
  -- The names that steps give are no names of steps beside them, and what they put stays, at each depth.
  pub IsFresh : Edit → Type 0
  IsFresh keep = Unit {0}
  IsFresh drop_it = Unit {0}
  IsFresh (change n) = Unit {0}
  IsFresh (inside_it steps) = ((array : Bool) → AreFreshNames array steps steps) × AreNames steps × AreFresh steps

  pub AreFresh : Steps → Type 0
  AreFresh no_steps = Unit {0}
  AreFresh (step name to missing edit rest) = IsFresh edit × AreFresh rest
