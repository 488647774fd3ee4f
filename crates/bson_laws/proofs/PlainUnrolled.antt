-- A plain shape is unrolled to a plain form.
use Rattle.std.proofs.Common.{ℕ, Bool, true, false, cond}
use Rattle.std.specs.Str.{bytes_eq}
use Rattle.bson_kinds.specs.Text.{Utf8}
use Rattle.bson_shape.specs.Form.{Form, leaf, optional, lossy, human_readable, by_mode, sequence, newtype, unit_structure, map, tuple, tuple_structure, structure, enumeration, reference, definitions, Fields, no_fields, field, Parts, no_parts, part, Content, unit_content, newtype_content, tuple_content, struct_content, Variants, no_variants, variant}
use Rattle.bson_laws.specs.Plain as plain
use Rattle.bson_laws.specs.Plain.{OwnsTextsIn, FieldsOwnTextsIn, PartsOwnTextsIn, VariantsOwnTextsIn, ContentOwnsTextsIn, DefinitionsOwnTexts, IsPlainKey, IsPlainIn, AreFieldsPlainIn, AreDefinitionsPlainIn, ArePartsPlainIn, AreVariantsPlainIn, IsContentPlainIn}
use Rattle.bson_laws.specs.Unrolled.{Meanings, unrolled, unrolled_name, unrolled_fields, unrolled_parts, unrolled_variants, unrolled_content, names_in, in_table, max_steps, whole}
use Rattle.bson_laws.specs.Every.{EveryContent, EveryField, EveryPart, EveryVariant}
use Rattle.bson_laws.proofs.PlainForms.{OwnsTexts, IsPlain, AreFieldsPlain, ArePartsPlain, AreVariantsPlain, IsContentPlain, text_rows}
use Rattle.bson_laws.proofs.Unrolling.{names_keep}
use Rattle.bson_laws.proofs.WritableUnrolled.{key_plain}

-- no reference means a form that borrows a text
abbrev AllOwn : Meanings → Type 0
AllOwn g = (name : Utf8) → OwnsTexts (g name)

-- each reference means a plain form, and one that borrows no text if the definitions around borrow none
abbrev AllPlain : Fields → Meanings → Type 0
AllPlain around g = ((name : Utf8) → IsPlain (g name)) × (DefinitionsOwnTexts around → AllOwn g)

module _ (m : ℕ) where
  mutual
    own_unrolled : (around : Type 0) (s : Form) (g : Meanings) → (around → AllOwn g) → OwnsTextsIn around s → OwnsTexts (unrolled m s g)
    own_unrolled a (leaf l) g h p = p
    own_unrolled a (optional s) g h p = own_unrolled a s g h p
    own_unrolled a (lossy s) g h p = own_unrolled a s g h p
    own_unrolled a (human_readable s) g h p = own_unrolled a s g h p
    own_unrolled a (by_mode r c) g h p = (own_unrolled a r g h p.0, own_unrolled a c g h p.1)
    own_unrolled a (sequence s) g h p = own_unrolled a s g h p
    own_unrolled a (map key s) g h p = (own_unrolled a key g h p.0, own_unrolled a s g h p.1)
    own_unrolled a (tuple ps) g h p = own_parts a ps g h p
    own_unrolled a (tuple_structure name ps) g h p = own_parts a ps g h p
    own_unrolled a (newtype name s) g h p = own_unrolled a s g h p
    own_unrolled a (unit_structure name) g h p = tt
    own_unrolled a (structure u name fs) g h p = own_fields a fs g h p
    own_unrolled a (enumeration vs) g h p = own_variants a vs g h p
    own_unrolled a (reference name) g h p = h p name
    own_unrolled a (definitions t s) g h p = own_unrolled (Unit {0}) s (names_in m t) (λ _. names_keep m AllOwn t (λ name. tt) (λ k q name. own_name (Unit {0}) t k (λ _. q) p.0 name)) p.1

    own_name : (around : Type 0) (t : Fields) (g : Meanings) → (around → AllOwn g) → FieldsOwnTextsIn around t → (key : Utf8) → OwnsTexts (unrolled_name m t g key)
    own_name a no_fields g h p key = tt
    own_name a (field name s t) g h p key = by_case (bytes_eq name key) (own_unrolled a s g h p.0) (own_name a t g h p.1 key) where
      by_case : (b : Bool) → OwnsTexts (unrolled m s g) → OwnsTexts (unrolled_name m t g key) → OwnsTexts (cond b (unrolled m s g) (unrolled_name m t g key))
      by_case true x y = x
      by_case false x y = y

    own_fields : (around : Type 0) (fs : Fields) (g : Meanings) → (around → AllOwn g) → FieldsOwnTextsIn around fs → EveryField text_rows (unrolled_fields m fs g)
    own_fields a no_fields g h p = tt
    own_fields a (field name s fs) g h p = (own_unrolled a s g h p.0, own_fields a fs g h p.1)

    own_parts : (around : Type 0) (ps : Parts) (g : Meanings) → (around → AllOwn g) → PartsOwnTextsIn around ps → EveryPart text_rows (unrolled_parts m ps g)
    own_parts a no_parts g h p = tt
    own_parts a (part s ps) g h p = (own_unrolled a s g h p.0, own_parts a ps g h p.1)

    own_variants : (around : Type 0) (vs : Variants) (g : Meanings) → (around → AllOwn g) → VariantsOwnTextsIn around vs → EveryVariant text_rows (unrolled_variants m vs g)
    own_variants a no_variants g h p = tt
    own_variants a (variant name c vs) g h p = (own_content a c g h p.0, own_variants a vs g h p.1)

    own_content : (around : Type 0) (c : Content) (g : Meanings) → (around → AllOwn g) → ContentOwnsTextsIn around c → EveryContent text_rows (unrolled_content m c g)
    own_content a unit_content g h p = tt
    own_content a (newtype_content s) g h p = own_unrolled a s g h p
    own_content a (tuple_content ps) g h p = own_parts a ps g h p
    own_content a (struct_content fs) g h p = own_fields a fs g h p

  mutual
    plain_unrolled : (around : Fields) (s : Form) (g : Meanings) → AllPlain around g → IsPlainIn around s → IsPlain (unrolled m s g)
    plain_unrolled a (leaf l) g h p = p
    plain_unrolled a (optional s) g h p = plain_unrolled a s g h p
    plain_unrolled a (lossy s) g h p = (own_unrolled (DefinitionsOwnTexts a) s g h.1 p.0, plain_unrolled a s g h p.1)
    plain_unrolled a (human_readable s) g h p = absurd p
    plain_unrolled a (by_mode r c) g h p = absurd p
    plain_unrolled a (sequence s) g h p = plain_unrolled a s g h p
    plain_unrolled a (map key s) g h p = (key_plain m key g p.0, plain_unrolled a key g h p.1, plain_unrolled a s g h p.2)
    plain_unrolled a (tuple ps) g h p = plain_parts a ps g h p
    plain_unrolled a (tuple_structure name ps) g h p = plain_parts a ps g h p
    plain_unrolled a (newtype name s) g h p = (p.0, plain_unrolled a s g h p.1)
    plain_unrolled a (unit_structure name) g h p = tt
    plain_unrolled a (structure u name fs) g h p = (p.0, plain_fields a fs g h p.1)
    plain_unrolled a (enumeration vs) g h p = plain_variants a vs g h p
    plain_unrolled a (reference name) g h p = (tt, h.0 name)
    plain_unrolled a (definitions t s) g h p = (tt, plain_unrolled t s (names_in m t) (names_keep m (AllPlain t) t ((λ name. tt), (λ q name. tt)) (λ k q. ((λ name. plain_name t t k q p.0 name), (λ o name. own_name (Unit {0}) t k (λ _. q.1 o) o name)))) p.1)

    plain_name : (around t : Fields) (g : Meanings) → AllPlain around g → AreDefinitionsPlainIn around t → (key : Utf8) → IsPlain (unrolled_name m t g key)
    plain_name a no_fields g h p key = tt
    plain_name a (field name s t) g h p key = by_case (bytes_eq name key) (plain_unrolled a s g h p.0) (plain_name a t g h p.1 key) where
      by_case : (b : Bool) → IsPlain (unrolled m s g) → IsPlain (unrolled_name m t g key) → IsPlain (cond b (unrolled m s g) (unrolled_name m t g key))
      by_case true x y = x
      by_case false x y = y

    plain_fields : (around fs : Fields) (g : Meanings) → AllPlain around g → AreFieldsPlainIn around fs → AreFieldsPlain (unrolled_fields m fs g)
    plain_fields a no_fields g h p = tt
    plain_fields a (field name s fs) g h p = (p.0, plain_unrolled a s g h p.1, plain_fields a fs g h p.2)

    plain_parts : (around : Fields) (ps : Parts) (g : Meanings) → AllPlain around g → ArePartsPlainIn around ps → ArePartsPlain (unrolled_parts m ps g)
    plain_parts a no_parts g h p = tt
    plain_parts a (part s ps) g h p = (plain_unrolled a s g h p.0, plain_parts a ps g h p.1)

    plain_variants : (around : Fields) (vs : Variants) (g : Meanings) → AllPlain around g → AreVariantsPlainIn around vs → AreVariantsPlain (unrolled_variants m vs g)
    plain_variants a no_variants g h p = tt
    plain_variants a (variant name c vs) g h p = (p.0, plain_content a c g h p.1, plain_variants a vs g h p.2)

    plain_content : (around : Fields) (c : Content) (g : Meanings) → AllPlain around g → IsContentPlainIn around c → IsContentPlain (unrolled_content m c g)
    plain_content a unit_content g h p = tt
    plain_content a (newtype_content s) g h p = plain_unrolled a s g h p
    plain_content a (tuple_content ps) g h p = plain_parts a ps g h p
    plain_content a (struct_content fs) g h p = plain_fields a fs g h p

  -- a shape, unrolled so many times
  pub plain_in : (s : Form) → plain.IsPlain s → IsPlain (in_table m no_fields s)
  plain_in s p = plain_unrolled no_fields s (names_in m no_fields) (names_keep m (AllPlain no_fields) no_fields ((λ name. tt), (λ q name. tt)) (λ k q. ((λ name. tt), (λ o name. tt)))) p

  pub own_in : (s : Form) → plain.OwnsTexts s → OwnsTexts (in_table m no_fields s)
  own_in s p = own_unrolled (Unit {0}) s (names_in m no_fields) (λ _. names_keep m AllOwn no_fields (λ name. tt) (λ k q name. tt)) p

pub plain_whole : (s : Form) → plain.IsPlain s → IsPlain (whole s)
plain_whole s p = plain_in max_steps s p

pub own_whole : (s : Form) → plain.OwnsTexts s → OwnsTexts (whole s)
own_whole s p = own_in max_steps s p
