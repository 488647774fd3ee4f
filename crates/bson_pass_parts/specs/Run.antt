-- Elements in bytes one behind another, runs of them, and values that are written as they were read. It is for the contracts of the parts of the pass.
-- Source: this library's own readers and writers.
use Rattle.std.specs.Prelude.{◌≡◌, ℕ, ◌+◌, ◌-◌, ◌<◌, ◌≤◌, List, [], length, get_or, take, drop, false, string_bytes}
use Rattle.bson_base.specs.Sound.{HasBytes}
use Rattle.bson_kinds.specs.Text.{Bytes, Utf8, has_zero}
use Rattle.bson_base.specs.Tree.{element, after_length}
use Rattle.bson_kinds.specs.declared.element_type.ElementType.{ElementType}
use Rattle.bson_rawdoc.specs.Node.{node_in}
use Rattle.bson_rawdoc.specs.Walk.{Element, Walk, then_walk, walk_elements}
use Rattle.bson_shape.specs.Form.{Form}
use Rattle.bson_shape.specs.declared.shape.VariantShape.{VariantShape}
use Rattle.bson_pass_parts.specs.Put.{recast_node, IsPut}

-- the element of a kind and a key whose value is in these bytes
abbrev pub element_of : ElementType → Utf8 → Bytes → Element
element_of k key value = record { kind = k; key = key; value = value }

-- the element is the first of those in the bytes
abbrev pub IsFirst : Bytes → Element → Type 0
IsFirst bytes e = (rest : Walk) × (walk_elements bytes ≡ then_walk e rest)

-- how many bytes an element takes: its kind, its key, a zero, its value
abbrev pub size : Element → ℕ
size e = length e.key + length e.value + 2

-- the bytes begin with the element, and the others are behind it
pub record IsHead (bytes : Bytes) (e : Element) : Type 0 where
  pub fits : size e ≤ length bytes
  pub is : take (size e) bytes ≡ element e.kind e.key e.value
  pub closed : has_zero e.key ≡ false
  pub behind : walk_elements bytes ≡ then_walk e (walk_elements (drop (size e) bytes))

-- The bytes begin with the element of a kind and a value whose key is the name of the variant, which is one of these.
pub record NamesVariant (vs : List VariantShape) (bytes : Bytes) (v : VariantShape) (k : ElementType) (value : Bytes) : Type 0 where
  pub place : ℕ
  pub within : place < length vs
  pub there : v ≡ get_or vs place v
  pub head : IsHead bytes (element_of k (string_bytes v.name) value)

-- the bytes between two places
abbrev pub run : Bytes → (from at : ℕ) → Bytes
run bytes from at = take (at - from) (drop from bytes)

-- a value of the kind in these bytes is written at the shape as these bytes
abbrev pub IsKept : Form → (levels : ℕ) → ElementType → Bytes → Type 0
IsKept s levels k b = IsPut (recast_node s levels (node_in levels k b)) [] b k

-- the bytes of a binary of subtype 4 and sixteen bytes
abbrev pub IsUuid : Bytes → Type 0
IsUuid b = (inner : Bytes) × HasBytes 16 inner × (after_length 4 inner ≡ b)
