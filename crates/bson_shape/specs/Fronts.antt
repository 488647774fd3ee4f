-- Which texts begin a notation, and where a text is refused, in the notation's own words. Source: this library's own notation.
use Rattle.std.specs.Prelude.{◌≡◌, ℕ, ◌+◌, ◌<◌, ◌≤◌, [], ◌∷◌, ◌++◌, Bool, true, false, ◌&&◌, ◌||◌, ◌==◌, if◌then◌else◌, length, take, drop, Some}
use Rattle.std.specs.Str.{is_utf8}
use Rattle.bson_kinds.specs.Text.{Utf8}
use Rattle.bson_shape.specs.Form.{Form, leaf, optional, lossy, human_readable, by_mode, sequence, map, tuple, tuple_structure, newtype, unit_structure, structure, enumeration, reference, definitions, Fields, no_fields, field, Parts, no_parts, part, Variants, no_variants, variant, Content, unit_content, newtype_content, tuple_content, struct_content}
use Rattle.bson_shape.specs.Notation.{at_sign, in_bare, names_form, text}
use Rattle.bson_shape.specs.FirstRefusal.{MakerRefusal, first_refusal}
use Rattle.bson_shape.specs.InnerForms.{HasFault}
use Rattle.bson_shape.specs.declared.error.ShapeError.{ShapeError}

abbrev mutual
  -- each name in the form is a text
  pub HasTextNames : Form → Type 0
  HasTextNames (leaf l) = Unit {0}
  HasTextNames (optional f) = HasTextNames f
  HasTextNames (lossy f) = HasTextNames f
  HasTextNames (human_readable f) = HasTextNames f
  HasTextNames (sequence f) = HasTextNames f
  HasTextNames (map k v) = HasTextNames k × HasTextNames v
  HasTextNames (by_mode r c) = HasTextNames r × HasTextNames c
  HasTextNames (tuple ps) = PartsHaveTextNames ps
  HasTextNames (tuple_structure name ps) = (is_utf8 name ≡ true) × PartsHaveTextNames ps
  HasTextNames (newtype name f) = (is_utf8 name ≡ true) × HasTextNames f
  HasTextNames (unit_structure name) = is_utf8 name ≡ true
  HasTextNames (structure u name fs) = (is_utf8 name ≡ true) × HaveTextNames fs
  HasTextNames (enumeration vs) = VariantsHaveTextNames vs
  HasTextNames (reference name) = is_utf8 name ≡ true
  HasTextNames (definitions h f) = HaveTextNames h × HasTextNames f

  pub HaveTextNames : Fields → Type 0
  HaveTextNames no_fields = Unit {0}
  HaveTextNames (field name f fs) = (is_utf8 name ≡ true) × HasTextNames f × HaveTextNames fs

  pub PartsHaveTextNames : Parts → Type 0
  PartsHaveTextNames no_parts = Unit {0}
  PartsHaveTextNames (part f ps) = HasTextNames f × PartsHaveTextNames ps

  pub VariantsHaveTextNames : Variants → Type 0
  VariantsHaveTextNames no_variants = Unit {0}
  VariantsHaveTextNames (variant name c vs) = (is_utf8 name ≡ true) × ContentHasTextNames c × VariantsHaveTextNames vs

  pub ContentHasTextNames : Content → Type 0
  ContentHasTextNames unit_content = Unit {0}
  ContentHasTextNames (newtype_content f) = HasTextNames f
  ContentHasTextNames (tuple_content ps) = PartsHaveTextNames ps
  ContentHasTextNames (struct_content fs) = HaveTextNames fs

-- Some notation begins with these bytes: the text of some form, whether or not its makers would refuse it.
pub record BeginsNotation (bytes : Utf8) : Type 0 where
  pub form : Form
  pub names : HasTextNames form
  pub rest : Utf8
  pub begins : text form ≡ bytes ++ rest

-- So many bytes are the longest front of the text with which some notation begins.
pub record IsLongestFront (bytes : Utf8) (count : ℕ) : Type 0 where
  pub within : count ≤ length bytes
  pub front : BeginsNotation (take count bytes)
  pub no_longer : count < length bytes → BeginsNotation (take (count + 1) bytes) → ⊥

-- the last byte is one of a bare name
abbrev pub ends_in_word : Utf8 → Bool
ends_in_word [] = false
ends_in_word (b ∷ []) = in_bare b
ends_in_word (b ∷ c ∷ bs) = ends_in_word (c ∷ bs)

-- a word before these bytes is longer
abbrev pub is_longer : Utf8 → Bool
is_longer [] = false
is_longer (b ∷ bs) = in_bare b

-- a word before these bytes goes on: it is longer, or it is the name of a form and no leaf
abbrev pub goes_on : Utf8 → Bool
goes_on [] = false
goes_on (b ∷ bs) = in_bare b || names_form b

-- The bytes end in `@` and bytes of a bare name. The test tells whether what is before them does.
abbrev pub refers : Bool → Utf8 → Bool
refers before [] = before
refers before (b ∷ bs) = refers ((b == at_sign) || (before && in_bare b)) bs

-- The word at the end of the first bytes goes on with the others; the name of a reference goes on where it is longer.
abbrev pub word_goes_on : Utf8 → Utf8 → Bool
word_goes_on front rest = ends_in_word front && (if refers false front then is_longer rest else goes_on rest)

-- The refusal is met in the text: some notation begins with the bytes that are read when it is met, and in that notation it is the first.
-- A leaf and a reference with a bare name have no closing byte, so a word that ends there in the notation has to end there in the text, too.
pub record IsMet (bytes : Utf8) (r : MakerRefusal) : Type 0 where
  pub within : r.met ≤ length bytes
  pub form : Form
  pub names : HasTextNames form
  pub rest : Utf8
  pub begins : text form ≡ take r.met bytes ++ rest
  pub first : first_refusal 0 0 form ≡ Some r
  pub ended : word_goes_on (take r.met bytes) rest ≡ false → word_goes_on (take r.met bytes) (drop r.met bytes) ≡ false

-- So many bytes are the longest front of the text with which some notation begins, and no maker refuses in it.
pub record IsNotNotationAt (bytes : Utf8) (place : ℕ) : Type 0 where
  pub longest : IsLongestFront bytes place
  pub unmet : (r : MakerRefusal) → IsMet bytes r → ⊥

-- A maker refuses the form that begins at this place, and this is the first refusal that is met.
pub record IsRefusedAt (bytes : Utf8) (place : ℕ) (cause : ShapeError) : Type 0 where
  pub met : ℕ
  pub is_met : IsMet bytes (record { met = met; place = place; cause = cause })
  pub fault : HasFault is_met.form place cause
