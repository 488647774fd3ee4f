-- A form whose references are replaced by what they mean, again and again. Source: the usual unfolding of recursive types.
use Rattle.std.specs.Prelude.{ℕ, zero, suc, if◌then◌else◌}
use Rattle.std.specs.Str.{bytes_eq}
use Rattle.bson_kinds.specs.Text.{Utf8}
use Rattle.bson_shape.specs.Form.{Form, leaf, optional, lossy, human_readable, by_mode, sequence, newtype, unit_structure, map, tuple, tuple_structure, structure, enumeration, reference, definitions, Fields, no_fields, field, Parts, no_parts, part, Content, unit_content, newtype_content, tuple_content, struct_content, Variants, no_variants, variant}
use Rattle.bson_shape.specs.Guarded.{count}

-- what references mean
abbrev pub Meanings : Type 0
Meanings = Utf8 → Form

-- A reference without a definition, and one that the rounds do not reach, means itself: every value is refused at it.
abbrev pub undefined : Meanings
undefined name = reference name

-- What stands for a reference and for definitions: definitions without a name, which are no option, no text, and none of two forms.
abbrev pub seen_through : Form → Form
seen_through s = definitions no_fields s

-- a step, so many times
abbrev pub repeated : {A : Type 0} → ℕ → (A → A) → A → A
repeated zero f x = x
repeated (suc n) f x = f (repeated n f x)

-- What the names of a table mean after so many rounds, from what they mean after one step more. Within a round a chain of references from name to
-- name comes to its end.
abbrev pub meanings : (rounds names : ℕ) → (Meanings → Meanings) → Meanings
meanings rounds names step = repeated rounds (repeated (suc names) step) undefined

-- so many rounds are unrolled
module _ (rounds : ℕ) where
  abbrev mutual
    -- each reference is replaced by what it means; those inside definitions, by what these are unrolled to
    pub unrolled : Form → Meanings → Form
    unrolled (leaf l) g = leaf l
    unrolled (optional s) g = optional (unrolled s g)
    unrolled (lossy s) g = lossy (unrolled s g)
    unrolled (human_readable s) g = human_readable (unrolled s g)
    unrolled (by_mode r c) g = by_mode (unrolled r g) (unrolled c g)
    unrolled (sequence s) g = sequence (unrolled s g)
    unrolled (map key s) g = map (unrolled key g) (unrolled s g)
    unrolled (tuple ps) g = tuple (unrolled_parts ps g)
    unrolled (tuple_structure name ps) g = tuple_structure name (unrolled_parts ps g)
    unrolled (newtype name s) g = newtype name (unrolled s g)
    unrolled (unit_structure name) g = unit_structure name
    unrolled (structure u name fs) g = structure u name (unrolled_fields fs g)
    unrolled (enumeration vs) g = enumeration (unrolled_variants vs g)
    unrolled (reference name) g = seen_through (g name)
    unrolled (definitions h s) g = seen_through (unrolled s (meanings rounds (count h) (λ k name. unrolled_name h k name)))

    -- what the first form of this name is unrolled to
    pub unrolled_name : Fields → Meanings → Utf8 → Form
    unrolled_name no_fields g key = undefined key
    unrolled_name (field name s h) g key = if bytes_eq name key then unrolled s g else unrolled_name h g key

    pub unrolled_fields : Fields → Meanings → Fields
    unrolled_fields no_fields g = no_fields
    unrolled_fields (field name s fs) g = field name (unrolled s g) (unrolled_fields fs g)

    pub unrolled_parts : Parts → Meanings → Parts
    unrolled_parts no_parts g = no_parts
    unrolled_parts (part s ps) g = part (unrolled s g) (unrolled_parts ps g)

    pub unrolled_variants : Variants → Meanings → Variants
    unrolled_variants no_variants g = no_variants
    unrolled_variants (variant name c vs) g = variant name (unrolled_content c g) (unrolled_variants vs g)

    pub unrolled_content : Content → Meanings → Content
    unrolled_content unit_content g = unit_content
    unrolled_content (newtype_content s) g = newtype_content (unrolled s g)
    unrolled_content (tuple_content ps) g = tuple_content (unrolled_parts ps g)
    unrolled_content (struct_content fs) g = struct_content (unrolled_fields fs g)

  -- one step: what each name of a table means, where references mean this
  abbrev pub step : Fields → Meanings → Meanings
  step h g = λ name. unrolled_name h g name

  -- what the names of a table mean
  abbrev pub names_in : Fields → Meanings
  names_in h = meanings rounds (count h) (λ g name. unrolled_name h g name)

  -- a form in a table
  abbrev pub in_table : Fields → Form → Form
  in_table h s = unrolled s (names_in h)

-- No value that is met in bytes or in a finished tree is as deep: of 200 levels each may be a scope, which is opened to a document around it, and what is
-- opened last has three more.
unfoldable pub max_steps : ℕ
max_steps = 404

-- the form that a shape is unrolled to, wherever it is read
abbrev pub whole : Form → Form
whole s = in_table max_steps no_fields s

-- and its parts
abbrev pub whole_fields : Fields → Fields
whole_fields fs = unrolled_fields max_steps fs (names_in max_steps no_fields)

abbrev pub whole_parts : Parts → Parts
whole_parts ps = unrolled_parts max_steps ps (names_in max_steps no_fields)
