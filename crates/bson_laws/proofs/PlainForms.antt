-- Plainness of forms that are unrolled: a reference that is left asks for nothing, and definitions have no names left.
use Rattle.bson_kinds.specs.Text.{IsFreeName}
use Rattle.bson_shape.specs.Form.{Form, lossy, human_readable, by_mode, newtype, structure, Fields, Parts, Content, Variants}
use Rattle.bson_laws.specs.Every.{Rows, asking_nothing, Every, EveryField, EveryPart, EveryVariant, EveryContent}
use Rattle.bson_laws.specs.Leaves.{leaf_kind}
use Rattle.bson_laws.specs.Plain.{IsKept, OwnsTextLeaf, IsPlainKey}

-- a leaf borrows no text
abbrev pub text_rows : Rows
text_rows = record asking_nothing {
  of_leaf = OwnsTextLeaf;
  of_definitions = λ in_fields in_forms in_body. in_body;
}

-- no text and no key is borrowed
abbrev pub OwnsTexts : Form → Type 0
OwnsTexts = Every text_rows

-- names are free, and where texts are mended none is borrowed
abbrev IsPlainForm : Form → (inside : Type 0) → Type 0
IsPlainForm (lossy s) inside = OwnsTexts s × inside
IsPlainForm (human_readable s) inside = ⊥
IsPlainForm (by_mode readable compact) inside = ⊥
IsPlainForm (newtype name s) inside = IsFreeName name × inside
IsPlainForm (structure u name fs) inside = IsFreeName name × inside
IsPlainForm s inside = inside

-- and so are those of fields and variants; a leaf keeps what it reads, and a key is a text
abbrev pub plain_rows : Rows
plain_rows = record asking_nothing {
  of_leaf = λ l. IsKept (leaf_kind l);
  of_form = IsPlainForm;
  of_map = λ key in_key in_value. IsPlainKey key × in_key × in_value;
  of_field = λ name in_form in_rest. IsFreeName name × in_form × in_rest;
  of_variant = λ name in_content in_rest. IsFreeName name × in_content × in_rest;
}

-- what plainness asks of a form that is unrolled
abbrev pub IsPlain : Form → Type 0
IsPlain = Every plain_rows

abbrev pub AreFieldsPlain : Fields → Type 0
AreFieldsPlain = EveryField plain_rows

abbrev pub ArePartsPlain : Parts → Type 0
ArePartsPlain = EveryPart plain_rows

abbrev pub AreVariantsPlain : Variants → Type 0
AreVariantsPlain = EveryVariant plain_rows

abbrev pub IsContentPlain : Content → Type 0
IsContentPlain = EveryContent plain_rows
