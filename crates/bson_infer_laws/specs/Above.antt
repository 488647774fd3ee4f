-- A form is above another where their join is that form: it has each value that the other has. Source: this library's own join of shapes.
use Rattle.std.specs.Prelude.{◌≡◌, true, false, ◌⊎◌, Option, Some, None, []}
use Rattle.bson_shape.specs.Form.{dropped, Form, leaf, optional, sequence, structure, enumeration, Fields, no_fields, field, no_variants}
use Rattle.bson_shape.specs.declared.leaf.Leaf.{Leaf}
use Rattle.bson_shape.specs.declared.leaf.Leaf.TheVariants.{Bson}
use Rattle.bson_laws.specs.Named.{form_of, has}
use Rattle.bson_infer_laws.specs.Join.{is_nothing, is_unit, within}

-- the form without its option
abbrev pub bare : Form → Form
bare (optional s) = s
bare s = s

abbrev pub IsOptional : Form → Type 0
IsOptional (optional s) = Unit {0}
IsOptional s = ⊥

abbrev pub IsBare : Form → Type 0
IsBare (optional s) = ⊥
IsBare s = Unit {0}

abbrev pub IsNothing : Form → Type 0
IsNothing s = is_nothing s ≡ true

abbrev pub LeafAbove : Leaf → Form → Type 0
LeafAbove l (leaf m) = within m l ≡ true
LeafAbove l (optional y) = ⊥
LeafAbove l (enumeration no_variants) = Unit {0}
LeafAbove l s = l ≡ Bson

abbrev pub SequenceAbove : (Form → Type 0) → Form → Type 0
SequenceAbove P (sequence y) = P y
SequenceAbove P s = IsNothing s

-- A field of the upper struct is above the lower struct's field of that name; where there is none, it has to be an option.
abbrev pub FieldAbove : (Form → Type 0) → Form → Option Form → Type 0
FieldAbove P x None = IsOptional x
FieldAbove P x (Some y) = P y

-- each field of the first list has its name in the second
abbrev pub NamedIn : Fields → Fields → Type 0
NamedIn no_fields fs = Unit {0}
NamedIn (field name y gs) fs = (has fs name ≡ true) × NamedIn gs fs

abbrev mutual
  pub Above : Form → Form → Type 0
  Above (optional x) b = (is_unit (bare b) ≡ true) ⊎ Above x (bare b)
  Above (leaf l) b = LeafAbove l b
  Above (sequence x) b = SequenceAbove (Above x) b
  Above (structure dropped n fs) (structure dropped m gs) = FieldsAbove fs gs × NamedIn gs fs
  Above a b = IsNothing b

  pub FieldsAbove : Fields → Fields → Type 0
  FieldsAbove no_fields gs = Unit {0}
  FieldsAbove (field name x fs) gs = FieldAbove (Above x) x (form_of gs name) × FieldsAbove fs gs

abbrev mutual
  -- The forms that inference and joins give: an option holds neither an option nor nothing, a struct drops unknown fields and has no name, the names of its
  -- fields are distinct, and the form of none is nothing.
  pub IsJoined : Form → Type 0
  IsJoined (leaf l) = Unit {0}
  IsJoined (optional s) = IsBare s × (is_nothing s ≡ false) × IsJoined s
  IsJoined (sequence s) = IsJoined s
  IsJoined (structure dropped name fs) = (name ≡ []) × AreJoined fs
  IsJoined s = IsNothing s

  pub AreJoined : Fields → Type 0
  AreJoined no_fields = Unit {0}
  AreJoined (field name s fs) = (has fs name ≡ false) × (is_nothing s ≡ false) × IsJoined s × AreJoined fs
