-- The first refusal of a maker that is met in reading a notation from left to right. Source: this library's own notation.
use Rattle.std.specs.Prelude.{ℕ, ◌+◌, nat_le, if◌then◌else◌, ◌++◌, length, Option, Some, None, Result, Ok, Err}
use Rattle.bson_kinds.specs.Outcome.{or_else}
use Rattle.bson_shape.specs.Form.{Form, leaf, optional, lossy, human_readable, by_mode, sequence, map, tuple, tuple_structure, newtype, unit_structure, structure, enumeration, reference, definitions, Fields, no_fields, field, Parts, no_parts, part, Variants, no_variants, variant, Content, unit_content, newtype_content, tuple_content, struct_content}
use Rattle.bson_shape.specs.Levels.{max_shape_levels}
use Rattle.bson_shape.specs.Makers.{made_form}
use Rattle.bson_shape.specs.Notation.{text, name_text, struct_name_text, opening_struct, in_parens, definition_texts, content_text}
use Rattle.bson_shape.specs.declared.error.ShapeError.{ShapeError}
use Rattle.bson_shape.specs.declared.error.ShapeError.TheVariants.{TooDeep}

-- A refusal: how many bytes of the text have been read when it is met, the place of the first byte of the refused form, and the cause.
-- A place is a number of bytes from the start of the text.
pub record MakerRefusal : Type 0 where
  pub met : ℕ
  pub place : ℕ
  pub cause : ShapeError

-- a form inside 512 others is refused at its first byte
abbrev pub too_deep : ℕ → ℕ → Option MakerRefusal
too_deep at around = if nat_le max_shape_levels around then Some (record { met = at + 1; place = at; cause = TooDeep }) else None

-- what the maker refuses
abbrev pub refusal_of : ℕ → ℕ → Result Form ShapeError → Option MakerRefusal
refusal_of met place (Ok f) = None
refusal_of met place (Err e) = Some (record { met = met; place = place; cause = e })

-- of a form whose text begins at this place, inside so many others: that it is too deep, what is refused inside it, or what its maker refuses
-- behind its last byte
abbrev pub form_refusal : ℕ → ℕ → Form → Option MakerRefusal → Option MakerRefusal
form_refusal at around f inside = or_else (too_deep at around) (or_else inside (refusal_of (at + length (text f)) at (made_form f)))

abbrev mutual
  -- of a form whose text begins at this place, inside so many others
  pub first_refusal : ℕ → ℕ → Form → Option MakerRefusal
  first_refusal at around (leaf l) = form_refusal at around (leaf l) None
  first_refusal at around (optional f) = form_refusal at around (optional f) (first_refusal (at + 1) (around + 1) f)
  first_refusal at around (lossy f) = form_refusal at around (lossy f) (first_refusal (at + 1) (around + 1) f)
  first_refusal at around (human_readable f) = form_refusal at around (human_readable f) (first_refusal (at + 1) (around + 1) f)
  first_refusal at around (sequence f) = form_refusal at around (sequence f) (first_refusal (at + 1) (around + 1) f)
  first_refusal at around (by_mode r c) =
      form_refusal at around (by_mode r c) (or_else (first_refusal (at + 2) (around + 1) r) (first_refusal (at + 2 + length (text r) + 1) (around + 1) c))
  first_refusal at around (map k v) =
      form_refusal at around (map k v) (or_else (first_refusal (at + 1) (around + 1) k) (first_refusal (at + 1 + length (text k) + 1) (around + 1) v))
  first_refusal at around (tuple ps) = form_refusal at around (tuple ps) (parts_refusal (at + 1) (around + 1) ps)
  first_refusal at around (tuple_structure name ps) =
      form_refusal at around (tuple_structure name ps) (parts_refusal (at + length (name_text name) + 1) (around + 1) ps)
  first_refusal at around (newtype name f) = form_refusal at around (newtype name f) (first_refusal (at + length (name_text name) + 1) (around + 1) f)
  first_refusal at around (unit_structure name) = form_refusal at around (unit_structure name) None
  first_refusal at around (structure u name fs) =
      form_refusal at around (structure u name fs) (fields_refusal (at + length (struct_name_text name) + length (opening_struct u)) (around + 1) fs)
  first_refusal at around (enumeration vs) = form_refusal at around (enumeration vs) (variants_refusal (at + 1) (around + 1) vs)
  first_refusal at around (reference name) = form_refusal at around (reference name) None
  first_refusal at around (definitions h f) =
      form_refusal at around (definitions h f) (or_else (fields_refusal (at + 2) (around + 1) h) (first_refusal (at + 1 + length (in_parens (definition_texts h))) (around + 1) f))

  -- of fields or definitions, where the text of the first one begins at this place; one byte is between a name and its form
  pub fields_refusal : ℕ → ℕ → Fields → Option MakerRefusal
  fields_refusal at around no_fields = None
  fields_refusal at around (field name f fs) =
      or_else (first_refusal (at + length (name_text name) + 1) around f) (fields_refusal (at + length (name_text name) + 1 + length (text f) + 1) around fs)

  -- of parts, where the text of the first one begins at this place
  pub parts_refusal : ℕ → ℕ → Parts → Option MakerRefusal
  parts_refusal at around no_parts = None
  parts_refusal at around (part f ps) = or_else (first_refusal at around f) (parts_refusal (at + length (text f) + 1) around ps)

  -- of variants, where the text of the first one begins at this place
  pub variants_refusal : ℕ → ℕ → Variants → Option MakerRefusal
  variants_refusal at around no_variants = None
  variants_refusal at around (variant name c vs) =
      or_else (content_refusal (at + length (name_text name)) around c) (variants_refusal (at + length (name_text name ++ content_text c) + 1) around vs)

  -- of what a variant has, where its text begins at this place; no maker is called behind it
  pub content_refusal : ℕ → ℕ → Content → Option MakerRefusal
  content_refusal at around unit_content = None
  content_refusal at around (newtype_content f) = first_refusal (at + 1) around f
  content_refusal at around (tuple_content ps) = parts_refusal (at + 1) around ps
  content_refusal at around (struct_content fs) = fields_refusal (at + 1) around fs
