-- The forms that do not depend on whether the reader is human are settled as they stand.
use Rattle.std.proofs.Common.{◌≡◌, Bool, true, false, cond, Option, Some, refl, ap, subst}
use Rattle.std.specs.Str.{bytes_eq}
use Rattle.bson_kinds.specs.Text.{Utf8}
use Rattle.bson_kinds.proofs.Outcomes.{some_is}
use Rattle.bson_shape.specs.Form.{Form, leaf, optional, lossy, human_readable, by_mode, sequence, newtype, map, tuple, tuple_structure, structure, enumeration, definitions, Fields, no_fields, field, Parts, no_parts, part, Content, unit_content, newtype_content, tuple_content, struct_content, Variants, no_variants, variant}
use Rattle.bson_laws.proofs.PlainForms.{IsPlain, AreFieldsPlain, ArePartsPlain, AreVariantsPlain, IsContentPlain}
use Rattle.bson_laws.specs.Settled.{settled, settled_fields, settled_parts, settled_variants, settled_content, IsSettled, settled_rows}
use Rattle.bson_laws.specs.Slots.{missing_value}
use Rattle.bson_laws.specs.Variants.{content_of}
use Rattle.bson_laws.specs.Views.{absent}
use Rattle.bson_laws.specs.Every.{EveryContent, EveryDefinition, EveryField, EveryPart, EveryVariant}
use Rattle.bson_laws.specs.Writable.{HasWritableKeys, writable_rows}
use Rattle.bson_kinds.proofs.Apart.{no_some}

mutual
  pub settled_same : (r : Bool) (s : Form) → IsSettled s → settled r s ≡ s
  settled_same r (optional s) h = ap optional (settled_same r s h)
  settled_same r (lossy s) h = ap lossy (settled_same r s h)
  settled_same r (human_readable s) h = absurd h
  settled_same r (by_mode s t) h = absurd h
  settled_same r (sequence s) h = ap sequence (settled_same r s h)
  settled_same r (map key s) h = ap (map key) (settled_same r s h)
  settled_same r (tuple ps) h = ap tuple (parts_same r ps h)
  settled_same r (tuple_structure name ps) h = ap (tuple_structure name) (parts_same r ps h)
  settled_same r (newtype name s) h = ap (newtype name) (settled_same r s h)
  settled_same r (structure u name fs) h = ap (structure u name) (fields_same r fs h)
  settled_same r (enumeration vs) h = ap enumeration (variants_same r vs h)
  settled_same r (definitions t s) h = λ i. definitions (fields_same r t h.0 i) (settled_same r s h.1 i)
  settled_same r s h = refl

  fields_same : (r : Bool) (fs : Fields) → EveryField settled_rows fs → settled_fields r fs ≡ fs
  fields_same r no_fields h = refl
  fields_same r (field name s fs) h = λ i. field name (settled_same r s h.0 i) (fields_same r fs h.1 i)

  parts_same : (r : Bool) (ps : Parts) → EveryPart settled_rows ps → settled_parts r ps ≡ ps
  parts_same r no_parts h = refl
  parts_same r (part s ps) h = λ i. part (settled_same r s h.0 i) (parts_same r ps h.1 i)

  variants_same : (r : Bool) (vs : Variants) → EveryVariant settled_rows vs → settled_variants r vs ≡ vs
  variants_same r no_variants h = refl
  variants_same r (variant name c vs) h = λ i. variant name (content_same r c h.0 i) (variants_same r vs h.1 i)

  content_same : (r : Bool) (c : Content) → EveryContent settled_rows c → settled_content r c ≡ c
  content_same r unit_content h = refl
  content_same r (newtype_content s) h = ap newtype_content (settled_same r s h)
  content_same r (tuple_content ps) h = ap tuple_content (parts_same r ps h)
  content_same r (struct_content fs) h = ap struct_content (fields_same r fs h)

mutual
  pub plain_settled : (s : Form) → IsPlain s → IsSettled s
  plain_settled (optional s) p = plain_settled s p
  plain_settled (lossy s) p = plain_settled s p.1
  plain_settled (human_readable s) p = p
  plain_settled (by_mode r c) p = p
  plain_settled (sequence s) p = plain_settled s p
  plain_settled (map key s) p = plain_settled s p.2
  plain_settled (tuple ps) p = plain_parts ps p
  plain_settled (tuple_structure name ps) p = plain_parts ps p
  plain_settled (newtype name s) p = plain_settled s p.1
  plain_settled (structure u name fs) p = plain_fields fs p.1
  plain_settled (enumeration vs) p = plain_variants vs p
  plain_settled (definitions h s) p = (plain_fields h p.0, plain_settled s p.1)
  plain_settled s p = tt

  plain_fields : (fs : Fields) → AreFieldsPlain fs → EveryField settled_rows fs
  plain_fields no_fields p = tt
  plain_fields (field name s fs) p = (plain_settled s p.1, plain_fields fs p.2)

  plain_parts : (ps : Parts) → ArePartsPlain ps → EveryPart settled_rows ps
  plain_parts no_parts p = tt
  plain_parts (part s ps) p = (plain_settled s p.0, plain_parts ps p.1)

  plain_variants : (vs : Variants) → AreVariantsPlain vs → EveryVariant settled_rows vs
  plain_variants no_variants p = tt
  plain_variants (variant name c vs) p = (plain_content c p.1, plain_variants vs p.2)

  plain_content : (c : Content) → IsContentPlain c → EveryContent settled_rows c
  plain_content unit_content p = tt
  plain_content (newtype_content s) p = plain_settled s p
  plain_content (tuple_content ps) p = plain_parts ps p
  plain_content (struct_content fs) p = plain_fields fs p

mutual
  pub writable_settled : (s : Form) → HasWritableKeys s → IsSettled s
  writable_settled (optional s) w = writable_settled s w
  writable_settled (lossy s) w = writable_settled s w
  writable_settled (human_readable s) w = w
  writable_settled (by_mode r c) w = w
  writable_settled (sequence s) w = writable_settled s w
  writable_settled (map key s) w = writable_settled s w.1
  writable_settled (tuple ps) w = writable_parts ps w
  writable_settled (tuple_structure name ps) w = writable_parts ps w
  writable_settled (newtype name s) w = writable_settled s w
  writable_settled (structure u name fs) w = writable_fields fs w
  writable_settled (enumeration vs) w = writable_variants vs w
  writable_settled (definitions h s) w = (writable_definitions h w.0, writable_settled s w.1)
  writable_settled s w = tt

  writable_fields : (fs : Fields) → EveryField writable_rows fs → EveryField settled_rows fs
  writable_fields no_fields w = tt
  writable_fields (field name s fs) w = (writable_settled s w.1, writable_fields fs w.2)

  writable_definitions : (h : Fields) → EveryDefinition writable_rows h → EveryField settled_rows h
  writable_definitions no_fields w = tt
  writable_definitions (field name s h) w = (writable_settled s w.0, writable_definitions h w.1)

  writable_parts : (ps : Parts) → EveryPart writable_rows ps → EveryPart settled_rows ps
  writable_parts no_parts w = tt
  writable_parts (part s ps) w = (writable_settled s w.0, writable_parts ps w.1)

  writable_variants : (vs : Variants) → EveryVariant writable_rows vs → EveryVariant settled_rows vs
  writable_variants no_variants w = tt
  writable_variants (variant name c vs) w = (writable_content c w.0, writable_variants vs w.1)

  writable_content : (c : Content) → EveryContent writable_rows c → EveryContent settled_rows c
  writable_content unit_content w = tt
  writable_content (newtype_content s) w = writable_settled s w
  writable_content (tuple_content ps) w = writable_parts ps w
  writable_content (struct_content fs) w = writable_fields fs w

-- ---- variants

chosen_settled : (b : Bool) (c d : Content) (o : Option Content) → EveryContent settled_rows c → cond b (Some c) o ≡ Some d → (o ≡ Some d → EveryContent settled_rows d) → EveryContent settled_rows d
chosen_settled true c d o p e h = subst (EveryContent settled_rows) (some_is c d e) p
chosen_settled false c d o p e h = h e

-- the contents of a variant
pub content_settled : (vs : Variants) (name : Utf8) (c : Content) → EveryVariant settled_rows vs → content_of vs name ≡ Some c → EveryContent settled_rows c
content_settled no_variants name c p e = absurd (no_some e)
content_settled (variant n d vs) name c p e = chosen_settled (bytes_eq n name) d c (content_of vs name) p.0 e (content_settled vs name c p.1)

-- ---- missing fields

-- what is settled is an option where the form is one
absent_settled : {T : Type 0} (r : Bool) (s : Form) → absent {T = T} (settled r s) ≡ absent {T = T} s
absent_settled r (leaf l) = refl
absent_settled r s = refl

-- of two forms the one that applies says what stands for a missing value
pub missing_expected : {T : Type 0} (r : Bool) (s t : Form) → missing_value {T = T} (settled r (by_mode s t)) ≡ absent {T = T} (cond r s t)
missing_expected true s t = absent_settled true s
missing_expected false s t = absent_settled false t
