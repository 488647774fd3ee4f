-- `same` decides whether two forms are equal.
use Rattle.std.proofs.Common.{◌≡◌, true, refl, ap, subst}
use Rattle.std.specs.Prelude.{◌&&◌}
use Rattle.std.specs.Bool.{Decides}
use Rattle.std.specs.Str.{bytes_eq}
use Rattle.std.specs.Cmp.{IsPartialEquivalence, partial_equiv_from_equiv, decided}
use Rattle.std.proofs.lemmas.Bool.{and_parts, and_from, false≢true}
use Rattle.std.proofs.lemmas.Slice.Eq.{bytes_eq-Decides}
use denote.Enum.Bare.{same_true, true_same}
use Rattle.bson_kinds.specs.Text.{Utf8}
use Rattle.bson_shape.specs.Form.{UnknownFields, dropped, denied, Form, leaf, optional, lossy, human_readable, by_mode, sequence, map, tuple, tuple_structure, newtype, unit_structure, structure, enumeration, reference, definitions, Fields, no_fields, field, Parts, no_parts, part, Variants, no_variants, variant, Content, unit_content, newtype_content, tuple_content, struct_content}
use Rattle.bson_shape.specs.Same.{same_unknown, same, same_fields, same_parts, same_variants, same_content}
use Rattle.bson_shape.specs.contracts.leaf.Leaf as leaf_type

bytes_alike : (name : Utf8) → bytes_eq name name ≡ true
bytes_alike name = (bytes_eq-Decides name name).1 refl

unknown_is : (u w : UnknownFields) → same_unknown u w ≡ true → u ≡ w
unknown_is dropped dropped e = refl
unknown_is denied denied e = refl
unknown_is u w e = absurd (false≢true e)

unknown_alike : (u : UnknownFields) → same_unknown u u ≡ true
unknown_alike dropped = refl
unknown_alike denied = refl

mutual
  same_is : (f g : Form) → same f g ≡ true → f ≡ g
  same_is (leaf l) (leaf m) e = ap leaf (same_true leaf_type.the_type tt l m e)
  same_is (optional f) (optional g) e = ap optional (same_is f g e)
  same_is (lossy f) (lossy g) e = ap lossy (same_is f g e)
  same_is (human_readable f) (human_readable g) e = ap human_readable (same_is f g e)
  same_is (sequence f) (sequence g) e = ap sequence (same_is f g e)
  same_is (by_mode r c) (by_mode s d) e = let b = and_parts (same r s) (same c d) e in λ i. by_mode (same_is r s b.0 i) (same_is c d b.1 i)
  same_is (map k v) (map l w) e =
      let b = and_parts (same k l) (same v w) e in
      λ i. map (same_is k l b.0 i) (same_is v w b.1 i)
  same_is (tuple ps) (tuple qs) e = ap tuple (parts_are ps qs e)
  same_is (tuple_structure name ps) (tuple_structure n qs) e =
      let b = and_parts (bytes_eq name n) (same_parts ps qs) e in
      λ i. tuple_structure ((bytes_eq-Decides name n).0 b.0 i) (parts_are ps qs b.1 i)
  same_is (newtype name f) (newtype n g) e =
      let b = and_parts (bytes_eq name n) (same f g) e in
      λ i. newtype ((bytes_eq-Decides name n).0 b.0 i) (same_is f g b.1 i)
  same_is (unit_structure name) (unit_structure n) e = ap unit_structure ((bytes_eq-Decides name n).0 e)
  same_is (structure u name fs) (structure w n gs) e =
      let a = and_parts (same_unknown u w) (bytes_eq name n && same_fields fs gs) e in
      let b = and_parts (bytes_eq name n) (same_fields fs gs) a.1 in
      λ i. structure (unknown_is u w a.0 i) ((bytes_eq-Decides name n).0 b.0 i) (fields_are fs gs b.1 i)
  same_is (enumeration vs) (enumeration ws) e = ap enumeration (variants_are vs ws e)
  same_is (reference name) (reference n) e = ap reference ((bytes_eq-Decides name n).0 e)
  same_is (definitions h f) (definitions k g) e =
      let b = and_parts (same_fields h k) (same f g) e in
      λ i. definitions (fields_are h k b.0 i) (same_is f g b.1 i)
  same_is f g e = absurd (false≢true e)

  fields_are : (fs gs : Fields) → same_fields fs gs ≡ true → fs ≡ gs
  fields_are no_fields no_fields e = refl
  fields_are (field name f fs) (field n g gs) e =
      let b = and_parts (bytes_eq name n) (same f g && same_fields fs gs) e in
      let d = and_parts (same f g) (same_fields fs gs) b.1 in
      λ i. field ((bytes_eq-Decides name n).0 b.0 i) (same_is f g d.0 i) (fields_are fs gs d.1 i)
  fields_are fs gs e = absurd (false≢true e)

  parts_are : (ps qs : Parts) → same_parts ps qs ≡ true → ps ≡ qs
  parts_are no_parts no_parts e = refl
  parts_are (part f ps) (part g qs) e =
      let b = and_parts (same f g) (same_parts ps qs) e in
      λ i. part (same_is f g b.0 i) (parts_are ps qs b.1 i)
  parts_are ps qs e = absurd (false≢true e)

  variants_are : (vs ws : Variants) → same_variants vs ws ≡ true → vs ≡ ws
  variants_are no_variants no_variants e = refl
  variants_are (variant name c vs) (variant n d ws) e =
      let b = and_parts (bytes_eq name n) (same_content c d && same_variants vs ws) e in
      let k = and_parts (same_content c d) (same_variants vs ws) b.1 in
      λ i. variant ((bytes_eq-Decides name n).0 b.0 i) (content_is c d k.0 i) (variants_are vs ws k.1 i)
  variants_are vs ws e = absurd (false≢true e)

  content_is : (c d : Content) → same_content c d ≡ true → c ≡ d
  content_is unit_content unit_content e = refl
  content_is (newtype_content f) (newtype_content g) e = ap newtype_content (same_is f g e)
  content_is (tuple_content ps) (tuple_content qs) e = ap tuple_content (parts_are ps qs e)
  content_is (struct_content fs) (struct_content gs) e = ap struct_content (fields_are fs gs e)
  content_is c d e = absurd (false≢true e)

mutual
  same_itself : (f : Form) → same f f ≡ true
  same_itself (leaf l) = true_same leaf_type.the_type l l refl
  same_itself (optional f) = same_itself f
  same_itself (lossy f) = same_itself f
  same_itself (human_readable f) = same_itself f
  same_itself (sequence f) = same_itself f
  same_itself (by_mode r c) = and_from _ _ (same_itself r) (same_itself c)
  same_itself (map k v) = and_from _ _ (same_itself k) (same_itself v)
  same_itself (tuple ps) = parts_alike ps
  same_itself (tuple_structure name ps) = and_from _ _ (bytes_alike name) (parts_alike ps)
  same_itself (newtype name f) = and_from _ _ (bytes_alike name) (same_itself f)
  same_itself (unit_structure name) = bytes_alike name
  same_itself (structure u name fs) = and_from _ _ (unknown_alike u) (and_from _ _ (bytes_alike name) (fields_alike fs))
  same_itself (enumeration vs) = variants_alike vs
  same_itself (reference name) = bytes_alike name
  same_itself (definitions h f) = and_from _ _ (fields_alike h) (same_itself f)

  fields_alike : (fs : Fields) → same_fields fs fs ≡ true
  fields_alike no_fields = refl
  fields_alike (field name f fs) = and_from _ _ (bytes_alike name) (and_from _ _ (same_itself f) (fields_alike fs))

  parts_alike : (ps : Parts) → same_parts ps ps ≡ true
  parts_alike no_parts = refl
  parts_alike (part f ps) = and_from _ _ (same_itself f) (parts_alike ps)

  variants_alike : (vs : Variants) → same_variants vs vs ≡ true
  variants_alike no_variants = refl
  variants_alike (variant name c vs) = and_from _ _ (bytes_alike name) (and_from _ _ (content_alike c) (variants_alike vs))

  content_alike : (c : Content) → same_content c c ≡ true
  content_alike unit_content = refl
  content_alike (newtype_content f) = same_itself f
  content_alike (tuple_content ps) = parts_alike ps
  content_alike (struct_content fs) = fields_alike fs

pub same_decides : (f g : Form) → Decides (same f g) (f ≡ g)
same_decides f g = (same_is f g, λ e. subst (λ h. same f h ≡ true) e (same_itself f))

-- the laws of `==`
pub same_laws : IsPartialEquivalence same
same_laws = partial_equiv_from_equiv (decided same same_decides)
