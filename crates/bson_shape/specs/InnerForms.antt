-- The forms in a form, each with its place. Source: this library's own notation.
use Rattle.std.specs.Prelude.{◌≡◌, ℕ, ◌+◌, true, false, List, [], ◌∷◌, ◌++◌, length, is_some, Contains}
use Rattle.bson_kinds.specs.Reserved.{reserved_kind}
use Rattle.bson_kinds.specs.Text.{Utf8}
use Rattle.bson_shape.specs.Form.{Form, leaf, optional, lossy, human_readable, by_mode, sequence, map, tuple, tuple_structure, newtype, unit_structure, structure, enumeration, reference, definitions, Fields, no_fields, field, Parts, no_parts, part, Variants, no_variants, variant, Content, unit_content, newtype_content, tuple_content, struct_content}
use Rattle.bson_shape.specs.Guarded.{LeadsBack}
use Rattle.bson_shape.specs.Levels.{max_shape_levels}
use Rattle.bson_shape.specs.Makers.{is_text_key, is_reserved_newtype, repeats, variants_repeat}
use Rattle.bson_shape.specs.Notation.{text, name_text, struct_name_text, opening_struct, in_parens, definition_texts, content_text}
use Rattle.bson_shape.specs.declared.error.ShapeError.{ShapeError}
use Rattle.bson_shape.specs.declared.error.ShapeError.TheVariants.{ReservedName, RepeatedName, KeyNotText, Unguarded, TooDeep, NoMemory}

-- A form in a notation: the place of its first byte, and how many forms are around it.
pub record Inner : Type 0 where
  pub place : ℕ
  pub around : ℕ
  pub form : Form

abbrev mutual
  -- a form whose text begins at this place, inside so many others, and the forms in it
  pub inner_forms : ℕ → ℕ → Form → List Inner
  inner_forms at around (leaf l) = record { place = at; around = around; form = leaf l } ∷ []
  inner_forms at around (optional f) = record { place = at; around = around; form = optional f } ∷ inner_forms (at + 1) (around + 1) f
  inner_forms at around (lossy f) = record { place = at; around = around; form = lossy f } ∷ inner_forms (at + 1) (around + 1) f
  inner_forms at around (human_readable f) = record { place = at; around = around; form = human_readable f } ∷ inner_forms (at + 1) (around + 1) f
  inner_forms at around (sequence f) = record { place = at; around = around; form = sequence f } ∷ inner_forms (at + 1) (around + 1) f
  inner_forms at around (by_mode r c) =
      record { place = at; around = around; form = by_mode r c } ∷ (inner_forms (at + 2) (around + 1) r ++ inner_forms (at + 2 + length (text r) + 1) (around + 1) c)
  inner_forms at around (map k v) =
      record { place = at; around = around; form = map k v } ∷ (inner_forms (at + 1) (around + 1) k ++ inner_forms (at + 1 + length (text k) + 1) (around + 1) v)
  inner_forms at around (tuple ps) = record { place = at; around = around; form = tuple ps } ∷ part_forms (at + 1) (around + 1) ps
  inner_forms at around (tuple_structure name ps) =
      record { place = at; around = around; form = tuple_structure name ps } ∷ part_forms (at + length (name_text name) + 1) (around + 1) ps
  inner_forms at around (newtype name f) =
      record { place = at; around = around; form = newtype name f } ∷ inner_forms (at + length (name_text name) + 1) (around + 1) f
  inner_forms at around (unit_structure name) = record { place = at; around = around; form = unit_structure name } ∷ []
  inner_forms at around (structure u name fs) =
      record { place = at; around = around; form = structure u name fs } ∷ field_forms (at + length (struct_name_text name) + length (opening_struct u)) (around + 1) fs
  inner_forms at around (enumeration vs) = record { place = at; around = around; form = enumeration vs } ∷ variant_forms (at + 1) (around + 1) vs
  inner_forms at around (reference name) = record { place = at; around = around; form = reference name } ∷ []
  inner_forms at around (definitions h f) =
      record { place = at; around = around; form = definitions h f } ∷ (field_forms (at + 2) (around + 1) h ++ inner_forms (at + 1 + length (in_parens (definition_texts h))) (around + 1) f)

  -- the forms in fields or definitions, where the text of the first one begins at this place; one byte is between a name and its form
  pub field_forms : ℕ → ℕ → Fields → List Inner
  field_forms at around no_fields = []
  field_forms at around (field name f fs) =
      inner_forms (at + length (name_text name) + 1) around f ++ field_forms (at + length (name_text name) + 1 + length (text f) + 1) around fs

  pub part_forms : ℕ → ℕ → Parts → List Inner
  part_forms at around no_parts = []
  part_forms at around (part f ps) = inner_forms at around f ++ part_forms (at + length (text f) + 1) around ps

  pub variant_forms : ℕ → ℕ → Variants → List Inner
  variant_forms at around no_variants = []
  variant_forms at around (variant name c vs) =
      content_forms (at + length (name_text name)) around c ++ variant_forms (at + length (name_text name ++ content_text c) + 1) around vs

  pub content_forms : ℕ → ℕ → Content → List Inner
  content_forms at around unit_content = []
  content_forms at around (newtype_content f) = inner_forms (at + 1) around f
  content_forms at around (tuple_content ps) = part_forms (at + 1) around ps
  content_forms at around (struct_content fs) = field_forms (at + 1) around fs

abbrev pub HasReservedName : Form → Type 0
HasReservedName (newtype name f) = is_reserved_newtype name ≡ true
HasReservedName (structure u name fs) = is_some (reserved_kind name) ≡ true
HasReservedName f = ⊥

abbrev pub HasRepeatedName : Form → Type 0
HasRepeatedName (structure u name fs) = repeats fs ≡ true
HasRepeatedName (enumeration vs) = variants_repeat vs ≡ true
HasRepeatedName (definitions h f) = repeats h ≡ true
HasRepeatedName f = ⊥

abbrev pub HasOtherKey : Form → Type 0
HasOtherKey (map k v) = is_text_key k ≡ false
HasOtherKey f = ⊥

-- some name leads back to itself
abbrev pub HasUnguarded : Form → Type 0
HasUnguarded (definitions h f) = (name : Utf8) × LeadsBack h name
HasUnguarded f = ⊥

-- the cause holds of the form; out of memory holds of none
abbrev pub HasCause : ShapeError → Inner → Type 0
HasCause ReservedName i = HasReservedName i.form
HasCause RepeatedName i = HasRepeatedName i.form
HasCause KeyNotText i = HasOtherKey i.form
HasCause Unguarded i = HasUnguarded i.form
HasCause TooDeep i = i.around ≡ max_shape_levels
HasCause NoMemory i = ⊥

-- In the form's notation a form begins at the place, and the cause holds of it.
pub record HasFault (f : Form) (place : ℕ) (cause : ShapeError) : Type 0 where
  pub inner : Inner
  pub stands : Contains (inner_forms 0 0 f) inner
  pub here : inner.place ≡ place
  pub is : HasCause cause inner
