-- What is changed in a document, and where. Source: this library's own programs.
use Rattle.std.specs.Prelude.{ℕ, Bool, true, false, Option, Some, None}
use Rattle.std.specs.Str.{bytes_eq}
use Rattle.bson_kinds.specs.Text.{Utf8}
use Rattle.bson_base.specs.Tree.{Tree}

mutual
  -- what is done with a value
  pub data Edit : Type 0 where
    -- it stays as it is
    keep : Edit
    -- its element is left out
    drop_it : Edit
    -- it is changed, as the change of this number does
    change : ℕ → Edit
    -- the elements in it are edited by these steps, if it is a document or an array
    inside_it : Steps → Edit

  -- Steps into a document or an array, each for the elements that no earlier one is for: those of this key, or all. Beside it are the key that they get, if it is another, and the
  -- value of an element that is put behind the others where there is none.
  pub data Steps : Type 0 where
    no_steps : Steps
    step : (name : Option Utf8) → (to : Option Utf8) → (missing : Option Tree) → Edit → Steps → Steps

-- A step is for an element of this key: one without a name for all, one with a name for those of that key in a document. (The keys of an array are no names.)
abbrev pub is_for : (array : Bool) → (name : Option Utf8) → (key : Utf8) → Bool
is_for array None key = true
is_for true (Some name) key = false
is_for false (Some name) key = bytes_eq name key
