-- How the prover stores the form of a shape.
use Rattle.std.specs.Prelude.{◌≡◌, refl}
use Rattle.std.specs.Coded.{Coded, coded_ℕ, coded_list}
use Rattle.std.proofs.Common.{ap, arith}
use base.Stored.{Gv, gnil, gnum, gcons}
use Rattle.bson_kinds.specs.Prover.Stored.{head, tail, num}
use Rattle.bson_kinds.specs.Text.{Utf8}
use Rattle.bson_shape.specs.Form.{UnknownFields, dropped, denied, Form, leaf, optional, lossy, human_readable, by_mode, sequence, map, tuple, tuple_structure, newtype, unit_structure, structure, enumeration, reference, definitions, Fields, no_fields, field, Parts, no_parts, part, Variants, no_variants, variant, Content, unit_content, newtype_content, tuple_content, struct_content}
use Rattle.bson_shape.specs.contracts.leaf.Leaf as leaf_type

abbrev text_coded : Coded Utf8
text_coded = coded_list coded_ℕ

abbrev unknown_code : UnknownFields → Gv
unknown_code dropped = gnum 0
unknown_code denied = gnum 1

abbrev mutual
  pub form_code : Form → Gv
  form_code (leaf l) = gcons (gnum 0) (leaf_type.the_row.coded.code l)
  form_code (optional f) = gcons (gnum 3) (form_code f)
  form_code (lossy f) = gcons (gnum 10) (form_code f)
  form_code (human_readable f) = gcons (gnum 11) (form_code f)
  form_code (sequence f) = gcons (gnum 2) (form_code f)
  form_code (by_mode r c) = gcons (gnum 12) (gcons (form_code r) (form_code c))
  form_code (map k v) = gcons (gnum 6) (gcons (form_code k) (form_code v))
  form_code (newtype n f) = gcons (gnum 4) (gcons (text_coded.code n) (form_code f))
  form_code (unit_structure n) = gcons (gnum 5) (text_coded.code n)
  form_code (tuple ps) = gcons (gnum 7) (parts_code ps)
  form_code (tuple_structure n ps) = gcons (gnum 8) (gcons (text_coded.code n) (parts_code ps))
  form_code (enumeration vs) = gcons (gnum 9) (variants_code vs)
  form_code (reference n) = gcons (gnum 13) (text_coded.code n)
  form_code (definitions h f) = gcons (gnum 14) (gcons (fields_code h) (form_code f))
  form_code (structure u n fs) = gcons (gnum 1) (gcons (unknown_code u) (gcons (text_coded.code n) (fields_code fs)))

  pub fields_code : Fields → Gv
  fields_code no_fields = gcons (gnum 0) gnil
  fields_code (field n s fs) = gcons (gnum 1) (gcons (text_coded.code n) (gcons (form_code s) (fields_code fs)))

  pub parts_code : Parts → Gv
  parts_code no_parts = gcons (gnum 0) gnil
  parts_code (part f ps) = gcons (gnum 1) (gcons (form_code f) (parts_code ps))

  pub variants_code : Variants → Gv
  variants_code no_variants = gcons (gnum 0) gnil
  variants_code (variant n c vs) = gcons (gnum 1) (gcons (text_coded.code n) (gcons (content_code c) (variants_code vs)))

  pub content_code : Content → Gv
  content_code unit_content = gcons (gnum 0) gnil
  content_code (newtype_content f) = gcons (gnum 1) (form_code f)
  content_code (tuple_content ps) = gcons (gnum 2) (parts_code ps)
  content_code (struct_content fs) = gcons (gnum 3) (fields_code fs)

unknown_inj : (u w : UnknownFields) → unknown_code u ≡ unknown_code w → u ≡ w
unknown_inj dropped dropped p = refl
unknown_inj denied denied p = refl
unknown_inj u w p = absurd (omega (arith, ap (λ g. num g) p))

mutual
  pub form_inj : (x y : Form) → form_code x ≡ form_code y → x ≡ y
  form_inj (leaf l) (leaf m) p = ap leaf (leaf_type.the_row.coded.inj l m (ap (λ g. tail g) p))
  form_inj (optional f) (optional g) p = ap optional (form_inj f g (ap (λ g. tail g) p))
  form_inj (lossy f) (lossy g) p = ap lossy (form_inj f g (ap (λ g. tail g) p))
  form_inj (human_readable f) (human_readable g) p = ap human_readable (form_inj f g (ap (λ g. tail g) p))
  form_inj (sequence f) (sequence g) p = ap sequence (form_inj f g (ap (λ g. tail g) p))
  form_inj (by_mode r c) (by_mode s d) p = λ i. by_mode (form_inj r s (ap (λ g. head (tail g)) p) i) (form_inj c d (ap (λ g. tail (tail g)) p) i)
  form_inj (map k v) (map l w) p = λ i. map (form_inj k l (ap (λ g. head (tail g)) p) i) (form_inj v w (ap (λ g. tail (tail g)) p) i)
  form_inj (newtype n f) (newtype m g) p = λ i. newtype (text_coded.inj n m (ap (λ g. head (tail g)) p) i) (form_inj f g (ap (λ g. tail (tail g)) p) i)
  form_inj (unit_structure n) (unit_structure m) p = ap unit_structure (text_coded.inj n m (ap (λ g. tail g) p))
  form_inj (tuple ps) (tuple qs) p = ap tuple (parts_inj ps qs (ap (λ g. tail g) p))
  form_inj (tuple_structure n ps) (tuple_structure m qs) p = λ i. tuple_structure (text_coded.inj n m (ap (λ g. head (tail g)) p) i) (parts_inj ps qs (ap (λ g. tail (tail g)) p) i)
  form_inj (enumeration vs) (enumeration ws) p = ap enumeration (variants_inj vs ws (ap (λ g. tail g) p))
  form_inj (reference n) (reference m) p = ap reference (text_coded.inj n m (ap (λ g. tail g) p))
  form_inj (definitions h f) (definitions k g) p = λ i. definitions (fields_inj h k (ap (λ g. head (tail g)) p) i) (form_inj f g (ap (λ g. tail (tail g)) p) i)
  form_inj (structure u n fs) (structure w m gs) p = λ i. structure (unknown_inj u w (ap (λ g. head (tail g)) p) i) (text_coded.inj n m (ap (λ g. head (tail (tail g))) p) i) (fields_inj fs gs (ap (λ g. tail (tail (tail g))) p) i)
  form_inj x y p = absurd (omega (arith, ap (λ g. num (head g)) p))

  pub fields_inj : (x y : Fields) → fields_code x ≡ fields_code y → x ≡ y
  fields_inj no_fields no_fields p = refl
  fields_inj (field n s fs) (field m t gs) p = λ i. field (text_coded.inj n m (ap (λ g. head (tail g)) p) i) (form_inj s t (ap (λ g. head (tail (tail g))) p) i) (fields_inj fs gs (ap (λ g. tail (tail (tail g))) p) i)
  fields_inj x y p = absurd (omega (arith, ap (λ g. num (head g)) p))

  pub parts_inj : (x y : Parts) → parts_code x ≡ parts_code y → x ≡ y
  parts_inj no_parts no_parts p = refl
  parts_inj (part f ps) (part g qs) p = λ i. part (form_inj f g (ap (λ g. head (tail g)) p) i) (parts_inj ps qs (ap (λ g. tail (tail g)) p) i)
  parts_inj x y p = absurd (omega (arith, ap (λ g. num (head g)) p))

  pub variants_inj : (x y : Variants) → variants_code x ≡ variants_code y → x ≡ y
  variants_inj no_variants no_variants p = refl
  variants_inj (variant n c vs) (variant m d ws) p = λ i. variant (text_coded.inj n m (ap (λ g. head (tail g)) p) i) (content_inj c d (ap (λ g. head (tail (tail g))) p) i) (variants_inj vs ws (ap (λ g. tail (tail (tail g))) p) i)
  variants_inj x y p = absurd (omega (arith, ap (λ g. num (head g)) p))

  pub content_inj : (x y : Content) → content_code x ≡ content_code y → x ≡ y
  content_inj unit_content unit_content p = refl
  content_inj (newtype_content f) (newtype_content g) p = ap newtype_content (form_inj f g (ap (λ g. tail g) p))
  content_inj (tuple_content ps) (tuple_content qs) p = ap tuple_content (parts_inj ps qs (ap (λ g. tail g) p))
  content_inj (struct_content fs) (struct_content gs) p = ap struct_content (fields_inj fs gs (ap (λ g. tail g) p))
  content_inj x y p = absurd (omega (arith, ap (λ g. num (head g)) p))

abbrev pub coded_form : Coded Form
coded_form = record { code = form_code; inj = form_inj }
