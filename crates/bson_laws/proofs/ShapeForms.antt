-- What the makers of shapes ask for, of forms that are unrolled: these may have any levels, a reference that is left asks for nothing, and definitions have no
-- names left.
use Rattle.std.specs.Prelude.{◌≡◌, true, false, None}
use Rattle.std.specs.Str.{is_utf8}
use Rattle.bson_kinds.specs.Text.{Utf8}
use Rattle.bson_kinds.specs.Reserved.{reserved_kind}
use Rattle.bson_shape.specs.Form.{Form, newtype, unit_structure, tuple_structure, structure, enumeration, Fields, Parts, Content, struct_content, Variants}
use Rattle.bson_shape.specs.Makers.{AreDistinct, has_repeat, variant_names, is_reserved_newtype, is_text_key}
use Rattle.bson_laws.specs.Every.{Rows, asking_nothing, Every, EveryField, EveryPart, EveryVariant, EveryContent}

-- a newtype
pub record IsNewtype (name : Utf8) : Type 0 where
  pub text : is_utf8 name ≡ true
  pub free : is_reserved_newtype name ≡ false

-- a struct
pub record IsStruct (name : Utf8) (fields : Fields) : Type 0 where
  pub text : is_utf8 name ≡ true
  pub free : reserved_kind name ≡ None
  pub distinct : AreDistinct fields

-- each name is a text, and none is reserved or there twice
abbrev IsShapeForm : Form → (inside : Type 0) → Type 0
IsShapeForm (tuple_structure name ps) inside = (is_utf8 name ≡ true) × inside
IsShapeForm (newtype name f) inside = IsNewtype name × inside
IsShapeForm (unit_structure name) inside = is_utf8 name ≡ true
IsShapeForm (structure u name fs) inside = IsStruct name fs × inside
IsShapeForm (enumeration vs) inside = (has_repeat (variant_names vs) ≡ false) × inside
IsShapeForm f inside = inside

-- the fields of a struct variant have different names
abbrev IsShapeContent : Content → (inside : Type 0) → Type 0
IsShapeContent (struct_content fs) inside = AreDistinct fs × inside
IsShapeContent c inside = inside

-- and so are those of fields and variants; a key is a text
abbrev pub shape_rows : Rows
shape_rows = record asking_nothing {
  of_form = IsShapeForm;
  of_map = λ key in_key in_value. (is_text_key key ≡ true) × in_key × in_value;
  of_definitions = λ in_fields in_forms in_body. in_body;
  of_field = λ name in_form in_rest. (is_utf8 name ≡ true) × in_form × in_rest;
  of_variant = λ name in_content in_rest. (is_utf8 name ≡ true) × in_content × in_rest;
  of_content = IsShapeContent;
}

-- what the makers of shapes ask of a form that is unrolled
abbrev pub IsShape : Form → Type 0
IsShape = Every shape_rows

abbrev pub AreShapes : Fields → Type 0
AreShapes = EveryField shape_rows

abbrev pub AreParts : Parts → Type 0
AreParts = EveryPart shape_rows

abbrev pub AreVariants : Variants → Type 0
AreVariants = EveryVariant shape_rows

abbrev pub IsContent : Content → Type 0
IsContent = EveryContent shape_rows
