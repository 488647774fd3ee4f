-- The form of a shape. Source: serde's data model.
use Rattle.bson_kinds.specs.Text.{Utf8}
use Rattle.bson_shape.specs.declared.leaf.Leaf.{Leaf}

-- What is done with the fields of a document that a struct does not name.
pub data UnknownFields : Type 0 where
  -- they are passed over
  dropped : UnknownFields
  -- the document is refused
  denied : UnknownFields

mutual
  -- what a reader asks for
  pub data Form : Type 0 where
    leaf : Leaf → Form
    -- null, or a value of this form
    optional : (inner : Form) → Form
    -- a value of this form, whose texts are mended
    lossy : (inner : Form) → Form
    -- a value of this form, read and written as for a reader who is human
    human_readable : (inner : Form) → Form
    -- a value that has two forms: the one that applies for a reader who is human, and the other
    by_mode : (readable : Form) → (compact : Form) → Form
    -- an array whose elements have this form
    sequence : (item : Form) → Form
    -- a document: the form of its keys, and that of its values
    map : (key : Form) → (value : Form) → Form
    -- an array of elements that have these forms
    tuple : (parts : Parts) → Form
    -- the same, under a name
    tuple_structure : (name : Utf8) → (parts : Parts) → Form
    -- a value of the inner form, under a name
    newtype : (name : Utf8) → (inner : Form) → Form
    -- null, under a name
    unit_structure : (name : Utf8) → Form
    -- a struct with a name and fields in order, and what is done with other ones
    structure : (unknown : UnknownFields) → (name : Utf8) → (fields : Fields) → Form
    -- one of these variants
    enumeration : (variants : Variants) → Form
    -- what the definition of this name says, in the innermost definitions around it
    reference : (name : Utf8) → Form
    -- named definitions, and the form that they are for
    definitions : (table : Fields) → (body : Form) → Form

  -- names with their forms, in order: the fields of a struct, or definitions
  pub data Fields : Type 0 where
    no_fields : Fields
    field : (name : Utf8) → (form : Form) → (rest : Fields) → Fields

  -- the forms of a tuple, in order
  pub data Parts : Type 0 where
    no_parts : Parts
    part : (form : Form) → (rest : Parts) → Parts

  -- the variants of an enum, in order
  pub data Variants : Type 0 where
    no_variants : Variants
    variant : (name : Utf8) → (content : Content) → (rest : Variants) → Variants

  -- what a variant has beside its name
  pub data Content : Type 0 where
    unit_content : Content
    newtype_content : (form : Form) → Content
    tuple_content : (parts : Parts) → Content
    struct_content : (fields : Fields) → Content

-- the fields of one list, and then those of another
abbrev pub joined : Fields → Fields → Fields
joined no_fields gs = gs
joined (field name f fs) gs = field name f (joined fs gs)

-- one more field at the end
abbrev pub push_field : Fields → Utf8 → Form → Fields
push_field fs name f = joined fs (field name f no_fields)

-- the same for parts
abbrev pub joined_parts : Parts → Parts → Parts
joined_parts no_parts qs = qs
joined_parts (part f ps) qs = part f (joined_parts ps qs)

abbrev pub push_part : Parts → Form → Parts
push_part ps f = joined_parts ps (part f no_parts)

-- and for variants
abbrev pub joined_variants : Variants → Variants → Variants
joined_variants no_variants ws = ws
joined_variants (variant name c vs) ws = variant name c (joined_variants vs ws)

abbrev pub push_variant : Variants → Utf8 → Content → Variants
push_variant vs name c = joined_variants vs (variant name c no_variants)
