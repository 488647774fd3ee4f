-- A form with the definitions around it, and what it is when it is seen through newtypes, lossy marks, references and definitions. Source: the usual meaning of recursive types.
use Rattle.std.specs.Prelude.{suc, Bool, ◌&&◌, if◌then◌else◌}
use Rattle.std.specs.Str.{bytes_eq}
use Rattle.bson_kinds.specs.Text.{Utf8}
use Rattle.bson_shape.specs.Form.{Form, lossy, newtype, reference, definitions, Fields, no_fields, field}
use Rattle.bson_shape.specs.Guarded.{count}
use Rattle.bson_shape.specs.Same.{same, same_fields}
use Rattle.bson_laws.specs.Unrolled.{repeated}

-- a form, and the innermost definitions around it
pub record Placed : Type 0 where
  pub around : Fields
  pub form : Form

abbrev pub placed : Fields → Form → Placed
placed h s = record { around = h; form = s }

-- the form, and the definitions around it, are the same
abbrev pub same_placed : Placed → Placed → Bool
same_placed p q = same p.form q.form && same_fields p.around q.around

-- what a reference is that has no definition: itself
abbrev pub undefined : Fields → Utf8 → Placed
undefined h name = placed h (reference name)

abbrev mutual
  -- what a form in a table is, seen through: a newtype and a lossy mark to the inner form, definitions to the form that they are for, and a reference to what its
  -- name means
  pub seen : (Utf8 → Placed) → (around : Fields) → Form → Placed
  seen means h (newtype name s) = seen means h s
  seen means h (lossy s) = seen means h s
  seen means h (reference name) = means name
  seen means h (definitions k s) = seen (repeated (suc (count k)) (λ inner name. seen_name inner k k name) (undefined k)) k s
  seen means h s = placed h s

  -- what the first definition of a name is, seen through
  pub seen_name : (Utf8 → Placed) → (around rest : Fields) → Utf8 → Placed
  seen_name means h no_fields key = undefined h key
  seen_name means h (field name s rest) key = if bytes_eq name key then seen means h s else seen_name means h rest key

-- What the names of a table mean. A chain of references from name to name comes to its end in as many steps as there are names, and one more.
abbrev pub names_in : Fields → Utf8 → Placed
names_in h = repeated (suc (count h)) (λ means name. seen_name means h h name) (undefined h)

-- what a form is, seen through
abbrev pub peel : Placed → Placed
peel p = seen (names_in p.around) p.around p.form
