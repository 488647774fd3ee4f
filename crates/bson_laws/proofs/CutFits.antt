-- A value fits a form exactly where it fits the form without what is deeper than the value.
use Rattle.std.proofs.Common.{◌≡◌, ℕ, zero, suc, ◌≤◌, Bool, true, false, cond, Option, Some, None, refl, ap, sym, subst, ◌∙◌, arith}
use Rattle.std.specs.Prelude.{option_map}
use Rattle.std.specs.Str.{bytes_eq}
use Rattle.bson_kinds.specs.Text.{Utf8}
use Rattle.bson_shape.specs.Form.{Form, leaf, optional, lossy, sequence, newtype, unit_structure, map, tuple, tuple_structure, structure, enumeration, definitions, Fields, no_fields, field, Parts, no_parts, part, Content, unit_content, newtype_content, tuple_content, struct_content, Variants, no_variants, variant}
use Rattle.bson_values.specs.Value as value
use Rattle.bson_values.specs.Value.{Value, Items, no_items, item, Entries, no_entries, entry, FieldValues, no_field_values, field_value}
use Rattle.bson_laws.specs.Depths.{value_depth, items_depth, entries_depth, fields_depth}
use Rattle.bson_laws.specs.Fits.{FitsKey, Fits, ItemsFit, PartsFit, EntriesFit, FieldsFit}
use Rattle.bson_laws.specs.Variants.{content_of}
use Rattle.bson_laws.proofs.Cut.{cut, cut_fields, cut_parts, cut_variants, cut_content}
use Rattle.bson_laws.proofs.Fitting.{fits_lossy, lossy_fits, fits_body, body_fits}
use Rattle.bson_kinds.proofs.Apart.{no_some}

-- ---- the variants of a cut form

content_kept : (vs : Variants) (name : Utf8) (d : ℕ) → content_of (cut_variants vs d) name ≡ option_map (λ c. cut_content c d) (content_of vs name)
content_kept no_variants name d = refl
content_kept (variant word c vs) name d = by_case (bytes_eq word name) (content_kept vs name d) where
  by_case : (b : Bool) → content_of (cut_variants vs d) name ≡ option_map (λ c. cut_content c d) (content_of vs name)
      → cond b (Some (cut_content c d)) (content_of (cut_variants vs d) name) ≡ option_map (λ c. cut_content c d) (cond b (Some c) (content_of vs name))
  by_case true h = refl
  by_case false h = h

kept_is : (vs : Variants) (name : Utf8) (d : ℕ) (c : Content) → content_of vs name ≡ Some c → content_of (cut_variants vs d) name ≡ Some (cut_content c d)
kept_is vs name d c e = content_kept vs name d ∙ ap (option_map (λ c. cut_content c d)) e

unit_from : (o : Option Content) (d : ℕ) → option_map (λ c. cut_content c d) o ≡ Some unit_content → o ≡ Some unit_content
unit_from None d e = absurd (no_some e)
unit_from (Some unit_content) d e = refl
unit_from (Some (newtype_content s)) zero e = absurd cc
unit_from (Some (newtype_content s)) (suc d) e = absurd cc
unit_from (Some (tuple_content ps)) zero e = absurd cc
unit_from (Some (tuple_content ps)) (suc d) e = absurd cc
unit_from (Some (struct_content fs)) zero e = absurd cc
unit_from (Some (struct_content fs)) (suc d) e = absurd cc

pub newtype_is : (s r : Form) → Some (newtype_content s) ≡ Some (newtype_content r) → s ≡ r
newtype_is s r e = cc

pub tuple_is : (ps qs : Parts) → Some (tuple_content ps) ≡ Some (tuple_content qs) → ps ≡ qs
tuple_is ps qs e = cc

pub struct_is : (fs gs : Fields) → Some (struct_content fs) ≡ Some (struct_content gs) → fs ≡ gs
struct_is fs gs e = cc

newtype_from : (o : Option Content) (d : ℕ) (r : Form) → option_map (λ c. cut_content c (suc d)) o ≡ Some (newtype_content r) → (s : Form) × (o ≡ Some (newtype_content s)) × (cut s d ≡ r)
newtype_from None d r e = absurd (no_some e)
newtype_from (Some (newtype_content s)) d r e = (s, refl, newtype_is (cut s d) r e)
newtype_from (Some c) d r e = absurd cc

tuple_from : (o : Option Content) (d : ℕ) (qs : Parts) → option_map (λ c. cut_content c (suc d)) o ≡ Some (tuple_content qs) → (ps : Parts) × (o ≡ Some (tuple_content ps)) × (cut_parts ps d ≡ qs)
tuple_from None d r e = absurd (no_some e)
tuple_from (Some (tuple_content ps)) d r e = (ps, refl, tuple_is (cut_parts ps d) r e)
tuple_from (Some c) d r e = absurd cc

struct_from : (o : Option Content) (d : ℕ) (gs : Fields) → option_map (λ c. cut_content c (suc d)) o ≡ Some (struct_content gs) → (fs : Fields) × (o ≡ Some (struct_content fs)) × (cut_fields fs d ≡ gs)
struct_from None d r e = absurd (no_some e)
struct_from (Some (struct_content fs)) d r e = (fs, refl, struct_is (cut_fields fs d) r e)
struct_from (Some c) d r e = absurd cc

-- ---- keys

key_cut : (key : Form) (k : Value) → FitsKey key k → FitsKey (cut key 0) k
key_cut (leaf l) k f = f
key_cut (enumeration vs) (value.unit_variant name) f = kept_is vs name 0 unit_content f
key_cut s k f = absurd f

key_uncut : (key : Form) (k : Value) → FitsKey (cut key 0) k → FitsKey key k
key_uncut (leaf l) k f = f
key_uncut (enumeration vs) (value.unit_variant name) f = unit_from (content_of vs name) 0 (sym (content_kept vs name 0) ∙ f)
key_uncut s k f = absurd f

-- ---- all values

mutual
  pub fits_cut : (v : Value) (s : Form) (d : ℕ) → value_depth v ≤ d → Fits v s → Fits v (cut s d)
  fits_cut v (leaf l) d h f = f
  fits_cut v (lossy s) d h f = lossy_fits v (cut s d) (fits_cut v s d h (fits_lossy v s f))
  fits_cut v (definitions t s) d h f = body_fits v t (cut s d) (fits_cut v s d h (fits_body v t s f))
  fits_cut value.none (optional s) d h f = tt
  fits_cut (value.some v) (optional s) d h f = fits_cut v s d h f
  fits_cut (value.newtype name v) (newtype n s) d h f = (f.0, fits_cut v s d h f.1)
  fits_cut (value.unit_structure name) (unit_structure n) d h f = f
  fits_cut (value.sequence vs) (sequence s) zero h f = absurd (omega arith)
  fits_cut (value.sequence vs) (sequence s) (suc d) h f = items_cut vs s d (omega arith) f
  fits_cut (value.map es) (map key s) zero h f = absurd (omega arith)
  fits_cut (value.map es) (map key s) (suc d) h f = entries_cut es key s d (omega arith) f
  fits_cut (value.tuple vs) (tuple ps) zero h f = absurd (omega arith)
  fits_cut (value.tuple vs) (tuple ps) (suc d) h f = parts_cut vs ps d (omega arith) f
  fits_cut (value.tuple_structure name vs) (tuple_structure n ps) zero h f = absurd (omega arith)
  fits_cut (value.tuple_structure name vs) (tuple_structure n ps) (suc d) h f = (f.0, parts_cut vs ps d (omega arith) f.1)
  fits_cut (value.structure name vs) (structure u n fs) zero h f = absurd (omega arith)
  fits_cut (value.structure name vs) (structure u n fs) (suc d) h f = (f.0, fields_cut vs fs d (omega arith) f.1)
  fits_cut (value.unit_variant name) (enumeration ws) d h f = kept_is ws name d unit_content f
  fits_cut (value.newtype_variant name v) (enumeration ws) zero h f = absurd (omega arith)
  fits_cut (value.newtype_variant name v) (enumeration ws) (suc d) h f = (cut f.0 d, kept_is ws name (suc d) (newtype_content f.0) f.1, fits_cut v f.0 d (omega arith) f.2)
  fits_cut (value.tuple_variant name vs) (enumeration ws) zero h f = absurd (omega arith)
  fits_cut (value.tuple_variant name vs) (enumeration ws) (suc d) h f = (cut_parts f.0 d, kept_is ws name (suc d) (tuple_content f.0) f.1, parts_cut vs f.0 d (omega arith) f.2)
  fits_cut (value.structure_variant name vs) (enumeration ws) zero h f = absurd (omega arith)
  fits_cut (value.structure_variant name vs) (enumeration ws) (suc d) h f = (cut_fields f.0 d, kept_is ws name (suc d) (struct_content f.0) f.1, fields_cut vs f.0 d (omega arith) f.2)
  fits_cut v s d h f = absurd f

  items_cut : (vs : Items) (s : Form) (d : ℕ) → items_depth vs ≤ d → ItemsFit vs s → ItemsFit vs (cut s d)
  items_cut no_items s d h f = tt
  items_cut (item v vs) s d h f = (fits_cut v s d (omega arith) f.0, items_cut vs s d (omega arith) f.1)

  parts_cut : (vs : Items) (ps : Parts) (d : ℕ) → items_depth vs ≤ d → PartsFit vs ps → PartsFit vs (cut_parts ps d)
  parts_cut no_items no_parts d h f = tt
  parts_cut (item v vs) (part s ps) d h f = (fits_cut v s d (omega arith) f.0, parts_cut vs ps d (omega arith) f.1)
  parts_cut vs ps d h f = absurd f

  entries_cut : (es : Entries) (key s : Form) (d : ℕ) → entries_depth es ≤ d → EntriesFit es key s → EntriesFit es (cut key 0) (cut s d)
  entries_cut no_entries key s d h f = tt
  entries_cut (entry k v es) key s d h f = (key_cut key k f.0, fits_cut v s d (omega arith) f.1, entries_cut es key s d (omega arith) f.2)

  fields_cut : (vs : FieldValues) (fs : Fields) (d : ℕ) → fields_depth vs ≤ d → FieldsFit vs fs → FieldsFit vs (cut_fields fs d)
  fields_cut no_field_values no_fields d h f = tt
  fields_cut (field_value name v vs) (field n s fs) d h f = (f.0, fits_cut v s d (omega arith) f.1, fields_cut vs fs d (omega arith) f.2)
  fields_cut vs fs d h f = absurd f

mutual
  pub fits_uncut : (v : Value) (s : Form) (d : ℕ) → value_depth v ≤ d → Fits v (cut s d) → Fits v s
  fits_uncut v (leaf l) d h f = f
  fits_uncut v (lossy s) d h f = lossy_fits v s (fits_uncut v s d h (fits_lossy v (cut s d) f))
  fits_uncut v (definitions t s) d h f = body_fits v t s (fits_uncut v s d h (fits_body v t (cut s d) f))
  fits_uncut value.none (optional s) d h f = tt
  fits_uncut (value.some v) (optional s) d h f = fits_uncut v s d h f
  fits_uncut (value.newtype name v) (newtype n s) d h f = (f.0, fits_uncut v s d h f.1)
  fits_uncut (value.unit_structure name) (unit_structure n) d h f = f
  fits_uncut (value.sequence vs) (sequence s) zero h f = absurd (omega arith)
  fits_uncut (value.sequence vs) (sequence s) (suc d) h f = items_uncut vs s d (omega arith) f
  fits_uncut (value.map es) (map key s) zero h f = absurd (omega arith)
  fits_uncut (value.map es) (map key s) (suc d) h f = entries_uncut es key s d (omega arith) f
  fits_uncut (value.tuple vs) (tuple ps) zero h f = absurd (omega arith)
  fits_uncut (value.tuple vs) (tuple ps) (suc d) h f = parts_uncut vs ps d (omega arith) f
  fits_uncut (value.tuple_structure name vs) (tuple_structure n ps) zero h f = absurd (omega arith)
  fits_uncut (value.tuple_structure name vs) (tuple_structure n ps) (suc d) h f = (f.0, parts_uncut vs ps d (omega arith) f.1)
  fits_uncut (value.structure name vs) (structure u n fs) zero h f = absurd (omega arith)
  fits_uncut (value.structure name vs) (structure u n fs) (suc d) h f = (f.0, fields_uncut vs fs d (omega arith) f.1)
  fits_uncut (value.unit_variant name) (enumeration ws) d h f = unit_from (content_of ws name) d (sym (content_kept ws name d) ∙ f)
  fits_uncut (value.newtype_variant name v) (enumeration ws) zero h f = absurd (omega arith)
  fits_uncut (value.newtype_variant name v) (enumeration ws) (suc d) h f =
      let a = newtype_from (content_of ws name) d f.0 (sym (content_kept ws name (suc d)) ∙ f.1) in
      (a.0, a.1, fits_uncut v a.0 d (omega arith) (subst (λ s. Fits v s) (sym a.2) f.2))
  fits_uncut (value.tuple_variant name vs) (enumeration ws) zero h f = absurd (omega arith)
  fits_uncut (value.tuple_variant name vs) (enumeration ws) (suc d) h f =
      let a = tuple_from (content_of ws name) d f.0 (sym (content_kept ws name (suc d)) ∙ f.1) in
      (a.0, a.1, parts_uncut vs a.0 d (omega arith) (subst (λ s. PartsFit vs s) (sym a.2) f.2))
  fits_uncut (value.structure_variant name vs) (enumeration ws) zero h f = absurd (omega arith)
  fits_uncut (value.structure_variant name vs) (enumeration ws) (suc d) h f =
      let a = struct_from (content_of ws name) d f.0 (sym (content_kept ws name (suc d)) ∙ f.1) in
      (a.0, a.1, fields_uncut vs a.0 d (omega arith) (subst (λ s. FieldsFit vs s) (sym a.2) f.2))
  fits_uncut v s d h f = absurd f

  items_uncut : (vs : Items) (s : Form) (d : ℕ) → items_depth vs ≤ d → ItemsFit vs (cut s d) → ItemsFit vs s
  items_uncut no_items s d h f = tt
  items_uncut (item v vs) s d h f = (fits_uncut v s d (omega arith) f.0, items_uncut vs s d (omega arith) f.1)

  parts_uncut : (vs : Items) (ps : Parts) (d : ℕ) → items_depth vs ≤ d → PartsFit vs (cut_parts ps d) → PartsFit vs ps
  parts_uncut no_items no_parts d h f = tt
  parts_uncut (item v vs) (part s ps) d h f = (fits_uncut v s d (omega arith) f.0, parts_uncut vs ps d (omega arith) f.1)
  parts_uncut vs ps d h f = absurd f

  entries_uncut : (es : Entries) (key s : Form) (d : ℕ) → entries_depth es ≤ d → EntriesFit es (cut key 0) (cut s d) → EntriesFit es key s
  entries_uncut no_entries key s d h f = tt
  entries_uncut (entry k v es) key s d h f = (key_uncut key k f.0, fits_uncut v s d (omega arith) f.1, entries_uncut es key s d (omega arith) f.2)

  fields_uncut : (vs : FieldValues) (fs : Fields) (d : ℕ) → fields_depth vs ≤ d → FieldsFit vs (cut_fields fs d) → FieldsFit vs fs
  fields_uncut no_field_values no_fields d h f = tt
  fields_uncut (field_value name v vs) (field n s fs) d h f = (f.0, fits_uncut v s d (omega arith) f.1, fields_uncut vs fs d (omega arith) f.2)
  fields_uncut vs fs d h f = absurd f
