-- The join of two inferred forms. Source: this library's own join of shapes.
use Rattle.std.specs.Prelude.{Bool, true, false, ◌||◌, if◌then◌else◌, Option, Some, None, []}
use denote.Enum.Bare.{sameb}
use Rattle.bson_shape.specs.Form.{dropped, Form, leaf, optional, sequence, structure, enumeration, Fields, no_fields, field, no_variants, joined}
use Rattle.bson_shape.specs.declared.leaf.Leaf.{Leaf}
use Rattle.bson_shape.specs.declared.leaf.Leaf.TheVariants.{I32, I64, ByteBuf, Binary, Unit, Bson}
use Rattle.bson_shape.specs.contracts.leaf.Leaf as leaf_type
use Rattle.bson_laws.specs.Named.{form_of, has}

abbrev pub same_leaf : Leaf → Leaf → Bool
same_leaf l m = sameb leaf_type.the_type l m

-- the enum without variants, which no value has
abbrev pub nothing : Form
nothing = enumeration no_variants

abbrev pub is_nothing : Form → Bool
is_nothing (enumeration no_variants) = true
is_nothing s = false

abbrev pub is_unit : Form → Bool
is_unit (leaf l) = same_leaf l Unit
is_unit s = false

-- the form as an option; an option stays as it is
abbrev pub opt : Form → Form
opt (optional s) = optional s
opt s = optional s

-- the leaf that a leaf grows to
abbrev pub grown : Leaf → Leaf
grown I32 = I64
grown ByteBuf = Binary
grown l = l

-- the join of the two leaves is the second: they are equal, the first grows to it, or it takes every value
abbrev pub within : Leaf → Leaf → Bool
within l m = same_leaf l m || (same_leaf (grown l) m || same_leaf m Bson)

-- Two forms, no options, that nothing else joins: `<>` gives way to the other, `unit`, the form of null, makes the other an option, and else the join is `bson`.
abbrev pub join_unlike : Form → Form → Form
join_unlike a b =
    if is_nothing a then b
    else (if is_nothing b then a
    else (if is_unit a then optional b
    else (if is_unit b then optional a
    else leaf Bson)))

abbrev pub join_leaves : Leaf → Leaf → Form
join_leaves l m = if within m l then leaf l else (if within l m then leaf m else join_unlike (leaf l) (leaf m))

-- a field that only one struct has is an option
abbrev pub join_at : (Form → Form) → Form → Option Form → Form
join_at join x None = opt x
join_at join x (Some y) = join y

-- the fields of the second list that the first lacks
abbrev pub new_fields : Fields → Fields → Fields
new_fields fs no_fields = no_fields
new_fields fs (field name y gs) = if has fs name then new_fields fs gs else field name (opt y) (new_fields fs gs)

abbrev mutual
  -- An inferred form that has each value that one of the two has: of two equal forms that form. The structs that are inferred drop unknown fields.
  pub join : Form → Form → Form
  join (optional x) (optional y) = opt (join x y)
  join (optional x) b = if is_nothing b || is_unit b then optional x else opt (join x b)
  join a (optional y) = if is_nothing a || is_unit a then optional y else opt (join a y)
  join (leaf l) (leaf m) = join_leaves l m
  join (sequence x) (sequence y) = sequence (join x y)
  join (structure dropped n fs) (structure dropped m gs) = structure dropped [] (joined (join_fields fs gs) (new_fields fs gs))
  join a b = join_unlike a b

  -- the fields of the first list, each joined with that of its name
  pub join_fields : Fields → Fields → Fields
  join_fields no_fields gs = no_fields
  join_fields (field name x fs) gs = field name (join_at (join x) x (form_of gs name)) (join_fields fs gs)
