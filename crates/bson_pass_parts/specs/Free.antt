-- A key that no field has, values that are dropped, a text that names a unit variant, and leaves at the keys of maps: for the contracts of the parts of the pass.
-- Source: this library's own readers and writers.
use Rattle.std.specs.Prelude.{◌≡◌, ℕ, Ok, List, [], ◌∷◌, Bool, false, true, if◌then◌else◌, string_bytes}
use Rattle.std.specs.Str.{bytes_eq}
use Rattle.bson_kinds.specs.Text.{Utf8}
use Rattle.bson_rawdoc.specs.Node.{Nodes}
use Rattle.bson_kinds.specs.Piece.{Piece}
use Rattle.bson_shape.specs.Makers.{is_unit}
use Rattle.bson_shape.specs.ShapeView.{content_of}
use Rattle.bson_shape.specs.declared.leaf.Leaf.{Leaf}
use Rattle.bson_shape.specs.declared.leaf.Leaf.TheVariants as leaves
use Rattle.bson_shape.specs.declared.shape.FieldShape.{FieldShape}
use Rattle.bson_shape.specs.declared.shape.VariantShape.{VariantShape}
use Rattle.bson_values.specs.Refusal.{Segment}
use Rattle.bson_laws.specs.Judged.{pass_nodes}

-- the key is the name of none of these fields
abbrev pub is_free : Utf8 → List FieldShape → Bool
is_free key [] = true
is_free key (f ∷ fs) = if bytes_eq (string_bytes f.name) key then false else is_free key fs

-- the variant of the name has its name alone
abbrev pub names_unit : Utf8 → List VariantShape → Bool
names_unit name [] = false
names_unit name (v ∷ vs) = if bytes_eq (string_bytes v.name) name then is_unit (content_of v.content) else names_unit name vs

-- a leaf that takes every key as it is
abbrev pub takes_keys : Leaf → Bool
takes_keys leaves.Str = true
takes_keys leaves.String = true
takes_keys l = false

-- nothing in these values is at fault, wherever their elements are
abbrev pub ArePassed : Nodes → Type 0
ArePassed ns = (place : ℕ → Piece → Segment) (i : ℕ) → pass_nodes place i ns ≡ Ok tt
