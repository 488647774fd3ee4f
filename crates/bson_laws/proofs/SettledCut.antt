-- A form is cut and settled in either order.
use Rattle.std.proofs.Common.{◌≡◌, ℕ, zero, suc, Bool, true, false, cond, refl, ap, sym, ◌∙◌}
use Rattle.bson_shape.specs.Form.{Form, optional, lossy, human_readable, by_mode, sequence, newtype, map, tuple, tuple_structure, structure, enumeration, definitions, Fields, no_fields, field, Parts, no_parts, part, Content, unit_content, newtype_content, tuple_content, struct_content, Variants, no_variants, variant}
use Rattle.bson_laws.specs.Settled.{alike, settled, settled_fields, settled_parts, settled_variants, settled_content}
use Rattle.bson_laws.proofs.Cut.{cut, cut_fields, cut_parts, cut_variants, cut_content}

expected_cut : (b : Bool) (s t : Form) (d : ℕ) → cut (cond b s t) d ≡ cond b (cut s d) (cut t d)
expected_cut true s t d = refl
expected_cut false s t d = refl

-- the key of a map stays as it is
mutual
  pub settled_cut : (r : Bool) (s : Form) (d : ℕ) → cut (settled r s) d ≡ settled r (cut s d)
  settled_cut r (optional s) d = ap optional (settled_cut r s d)
  settled_cut r (lossy s) d = ap lossy (settled_cut r s d)
  settled_cut r (human_readable s) d = ap human_readable (settled_cut true s d)
  settled_cut r (by_mode s t) d = ap alike (expected_cut r (settled r s) (settled r t) d ∙ (λ i. cond r (settled_cut r s d i) (settled_cut r t d i)))
  settled_cut r (sequence s) zero = refl
  settled_cut r (sequence s) (suc d) = ap sequence (settled_cut r s d)
  settled_cut r (map key s) zero = refl
  settled_cut r (map key s) (suc d) = ap (map (cut key 0)) (settled_cut r s d)
  settled_cut r (tuple ps) zero = refl
  settled_cut r (tuple ps) (suc d) = ap tuple (parts_cut r ps d)
  settled_cut r (tuple_structure name ps) zero = refl
  settled_cut r (tuple_structure name ps) (suc d) = ap (tuple_structure name) (parts_cut r ps d)
  settled_cut r (newtype name s) d = ap (newtype name) (settled_cut r s d)
  settled_cut r (structure u name fs) zero = refl
  settled_cut r (structure u name fs) (suc d) = ap (structure u name) (fields_cut r fs d)
  settled_cut r (enumeration vs) d = ap enumeration (variants_cut r vs d)
  settled_cut r (definitions h s) d = ap (definitions (settled_fields r h)) (settled_cut r s d)
  settled_cut r s d = refl

  fields_cut : (r : Bool) (fs : Fields) (d : ℕ) → cut_fields (settled_fields r fs) d ≡ settled_fields r (cut_fields fs d)
  fields_cut r no_fields d = refl
  fields_cut r (field name s fs) d = λ i. field name (settled_cut r s d i) (fields_cut r fs d i)

  parts_cut : (r : Bool) (ps : Parts) (d : ℕ) → cut_parts (settled_parts r ps) d ≡ settled_parts r (cut_parts ps d)
  parts_cut r no_parts d = refl
  parts_cut r (part s ps) d = λ i. part (settled_cut r s d i) (parts_cut r ps d i)

  variants_cut : (r : Bool) (vs : Variants) (d : ℕ) → cut_variants (settled_variants r vs) d ≡ settled_variants r (cut_variants vs d)
  variants_cut r no_variants d = refl
  variants_cut r (variant name c vs) d = λ i. variant name (content_cut r c d i) (variants_cut r vs d i)

  content_cut : (r : Bool) (c : Content) (d : ℕ) → cut_content (settled_content r c) d ≡ settled_content r (cut_content c d)
  content_cut r unit_content d = refl
  content_cut r (newtype_content s) zero = refl
  content_cut r (newtype_content s) (suc d) = ap newtype_content (settled_cut r s d)
  content_cut r (tuple_content ps) zero = refl
  content_cut r (tuple_content ps) (suc d) = ap tuple_content (parts_cut r ps d)
  content_cut r (struct_content fs) zero = refl
  content_cut r (struct_content fs) (suc d) = ap struct_content (fields_cut r fs d)

-- forms that agree down to a depth do so when they are settled
pub settled_alike : (r : Bool) (s t : Form) (d : ℕ) → cut s d ≡ cut t d → cut (settled r s) d ≡ cut (settled r t) d
settled_alike r s t d e = settled_cut r s d ∙ ap (settled r) e ∙ sym (settled_cut r t d)
