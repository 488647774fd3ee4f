-- The fields of the structs that were joined, with how often each was there. Source: this library's own join of shapes.
use Rattle.std.specs.Prelude.{ℕ, ◌+◌, ◌≤◌, Bool, true, false, if◌then◌else◌, nat_lt, List, [], ◌∷◌}
use Rattle.std.specs.Str.{bytes_eq}
use Rattle.bson_kinds.specs.Text.{Utf8}
use Rattle.bson_base.specs.Tree.{Pairs, no_pairs, pair}
use Rattle.bson_shape.specs.Form.{Form, Fields, no_fields, field}
use Rattle.bson_infer_laws.specs.Inferred.{shape_of}
use Rattle.bson_infer_laws.specs.Join.{opt, join}

-- a field: in how many structs it was, and the join of what was there
pub record Counted : Type 0 where
  pub name : Utf8
  pub count : ℕ
  pub form : Form

-- a field of this name was there again; a new one goes last
abbrev pub put : Counted → List Counted → List Counted
put g [] = g ∷ []
put g (f ∷ fs) =
    if bytes_eq g.name f.name then (let h : Counted = record { name = f.name; count = f.count + g.count; form = join f.form g.form } in h) ∷ fs
    else f ∷ put g fs

abbrev pub puts : List Counted → List Counted → List Counted
puts fs [] = fs
puts fs (g ∷ gs) = puts (put g fs) gs

abbrev pub once : Utf8 → Form → Counted
once name s = record { name = name; count = 1; form = s }

-- the pairs of a document, each there once
abbrev pub counted_pairs : Pairs → List Counted
counted_pairs no_pairs = []
counted_pairs (pair key t ps) = once key (shape_of t) ∷ counted_pairs ps

abbrev pub opt_if : Bool → Form → Form
opt_if true s = opt s
opt_if false s = s

-- the fields of so many structs: one that was not in all of them is an option
abbrev pub settled : ℕ → List Counted → Fields
settled n [] = no_fields
settled n (f ∷ fs) = field f.name (opt_if (nat_lt f.count n) f.form) (settled n fs)

-- no field was there more often than this
abbrev pub AreCounted : ℕ → List Counted → Type 0
AreCounted n [] = Unit {0}
AreCounted n (f ∷ fs) = (f.count ≤ n) × AreCounted n fs
