-- The test of plain shapes tells which are.
use Rattle.std.proofs.Common.{◌≡◌, Bool, true, false, refl, ap, ◌∙◌}
use Rattle.std.specs.Prelude.{◌&&◌, not}
use Rattle.bson_kinds.specs.Text.{Utf8, has_zero, begins_with_dollar, IsFreeName, is_free_name}
use Rattle.bson_shape.specs.Form.{Form, leaf, optional, lossy, human_readable, by_mode, sequence, newtype, unit_structure, map, tuple, tuple_structure, structure, enumeration, reference, definitions, Fields, no_fields, field, Parts, no_parts, part, Content, unit_content, newtype_content, tuple_content, struct_content, Variants, no_variants, variant}
use Rattle.bson_shape.specs.declared.leaf.Leaf.{Leaf}
use Rattle.bson_shape.specs.declared.leaf.Leaf.TheVariants.{Str}
use Rattle.bson_laws.specs.Leaves.{LeafKind, ignored, texts, raw_documents, raw_arrays, raw_values, leaf_kind}
use Rattle.bson_laws.specs.Plain.{IsKept, OwnsTextLeaf, OwnsTextsIn, FieldsOwnTextsIn, PartsOwnTextsIn, VariantsOwnTextsIn, ContentOwnsTextsIn, DefinitionsOwnTexts, IsPlainKey, IsPlainIn, AreFieldsPlainIn, AreDefinitionsPlainIn, ArePartsPlainIn, AreVariantsPlainIn, IsContentPlainIn, IsPlain}
use Rattle.bson_evolve_laws.specs.PlainTest.{is_kept, owns_text_leaf, owns_texts, fields_own_texts, parts_own_texts, variants_own_texts, content_owns_texts, is_plain_key, is_plain_in, are_fields_plain_in, are_definitions_plain_in, are_parts_plain_in, are_variants_plain_in, is_content_plain_in, is_plain}
use Rattle.bson_evolve_laws.specs.Rows.{is_texts}

both_true : (a b : Bool) → (a && b) ≡ true → (a ≡ true) × (b ≡ true)
both_true true b e = (refl, e)
both_true false b e = absurd (let both : false ≡ true = e in cc)

pub both : (a b : Bool) → a ≡ true → b ≡ true → (a && b) ≡ true
both a b e f = ap (λ c. c && b) e ∙ f

not_true : (b : Bool) → not b ≡ true → b ≡ false
not_true true e = absurd (let both : false ≡ true = e in cc)
not_true false e = refl

true_not : (b : Bool) → b ≡ false → not b ≡ true
true_not b e = ap not e

-- ---- what the test finds

kept : (k : LeafKind) → is_kept k ≡ true → IsKept k
kept ignored e = absurd (let both : false ≡ true = e in cc)
kept raw_documents e = absurd (let both : false ≡ true = e in cc)
kept raw_arrays e = absurd (let both : false ≡ true = e in cc)
kept raw_values e = absurd (let both : false ≡ true = e in cc)
kept k e = tt

free : (n : Utf8) → is_free_name n ≡ true → IsFreeName n
free n e =
    let r = both_true (not (has_zero n)) (not (begins_with_dollar n)) e in
    record { no_zero = not_true (has_zero n) r.0; no_dollar = not_true (begins_with_dollar n) r.1 }

owned_leaf : (l : Leaf) → owns_text_leaf l ≡ true → OwnsTextLeaf l
owned_leaf Str e = absurd (let both : false ≡ true = e in cc)
owned_leaf l e = tt

key : (s : Form) → is_plain_key s ≡ true → IsPlainKey s
key (leaf l) e = texts_is (leaf_kind l) e where
  texts_is : (k : LeafKind) → is_texts k ≡ true → k ≡ texts
  texts_is texts e = refl
  texts_is k e = absurd (let both : false ≡ true = e in cc)
key (enumeration vs) e = e
key s e = absurd (let both : false ≡ true = e in cc)

mutual
  owned : (P : Type 0) (b : Bool) → (b ≡ true → P) → (s : Form) → owns_texts b s ≡ true → OwnsTextsIn P s
  owned P b f (leaf l) e = owned_leaf l e
  owned P b f (optional s) e = owned P b f s e
  owned P b f (lossy s) e = owned P b f s e
  owned P b f (human_readable s) e = owned P b f s e
  owned P b f (by_mode r c) e = let q = both_true (owns_texts b r) (owns_texts b c) e in (owned P b f r q.0, owned P b f c q.1)
  owned P b f (newtype n s) e = owned P b f s e
  owned P b f (unit_structure n) e = tt
  owned P b f (sequence s) e = owned P b f s e
  owned P b f (map k s) e = let q = both_true (owns_texts b k) (owns_texts b s) e in (owned P b f k q.0, owned P b f s q.1)
  owned P b f (tuple ps) e = owned_parts P b f ps e
  owned P b f (tuple_structure n ps) e = owned_parts P b f ps e
  owned P b f (enumeration vs) e = owned_variants P b f vs e
  owned P b f (structure u n fs) e = owned_fields P b f fs e
  owned P b f (reference n) e = f e
  owned P b f (definitions h s) e = let q = both_true (fields_own_texts true h) (owns_texts true s) e in (owned_fields (Unit {0}) true (λ k. tt) h q.0, owned (Unit {0}) true (λ k. tt) s q.1)

  owned_fields : (P : Type 0) (b : Bool) → (b ≡ true → P) → (fs : Fields) → fields_own_texts b fs ≡ true → FieldsOwnTextsIn P fs
  owned_fields P b f no_fields e = tt
  owned_fields P b f (field n s fs) e = let q = both_true (owns_texts b s) (fields_own_texts b fs) e in (owned P b f s q.0, owned_fields P b f fs q.1)

  owned_parts : (P : Type 0) (b : Bool) → (b ≡ true → P) → (ps : Parts) → parts_own_texts b ps ≡ true → PartsOwnTextsIn P ps
  owned_parts P b f no_parts e = tt
  owned_parts P b f (part s ps) e = let q = both_true (owns_texts b s) (parts_own_texts b ps) e in (owned P b f s q.0, owned_parts P b f ps q.1)

  owned_variants : (P : Type 0) (b : Bool) → (b ≡ true → P) → (vs : Variants) → variants_own_texts b vs ≡ true → VariantsOwnTextsIn P vs
  owned_variants P b f no_variants e = tt
  owned_variants P b f (variant n c vs) e = let q = both_true (content_owns_texts b c) (variants_own_texts b vs) e in (owned_content P b f c q.0, owned_variants P b f vs q.1)

  owned_content : (P : Type 0) (b : Bool) → (b ≡ true → P) → (c : Content) → content_owns_texts b c ≡ true → ContentOwnsTextsIn P c
  owned_content P b f unit_content e = tt
  owned_content P b f (newtype_content s) e = owned P b f s e
  owned_content P b f (tuple_content ps) e = owned_parts P b f ps e
  owned_content P b f (struct_content fs) e = owned_fields P b f fs e

mutual
  found : (h : Fields) (s : Form) → is_plain_in h s ≡ true → IsPlainIn h s
  found h (leaf l) e = kept (leaf_kind l) e
  found h (optional s) e = found h s e
  found h (lossy s) e =
      let q = both_true (owns_texts (fields_own_texts true h) s) (is_plain_in h s) e in
      (owned (DefinitionsOwnTexts h) (fields_own_texts true h) (λ k. owned_fields (Unit {0}) true (λ j. tt) h k) s q.0, found h s q.1)
  found h (human_readable s) e = absurd (let both : false ≡ true = e in cc)
  found h (by_mode r c) e = absurd (let both : false ≡ true = e in cc)
  found h (newtype n s) e = let q = both_true (is_free_name n) (is_plain_in h s) e in (free n q.0, found h s q.1)
  found h (unit_structure n) e = tt
  found h (sequence s) e = found h s e
  found h (map k s) e =
      let q = both_true (is_plain_key k && is_plain_in h k) (is_plain_in h s) e in
      let r = both_true (is_plain_key k) (is_plain_in h k) q.0 in
      (key k r.0, found h k r.1, found h s q.1)
  found h (tuple ps) e = found_parts h ps e
  found h (tuple_structure n ps) e = found_parts h ps e
  found h (enumeration vs) e = found_variants h vs e
  found h (structure u n fs) e = let q = both_true (is_free_name n) (are_fields_plain_in h fs) e in (free n q.0, found_fields h fs q.1)
  found h (reference n) e = e
  found h (definitions k s) e = let q = both_true (are_definitions_plain_in k k) (is_plain_in k s) e in (found_definitions k k q.0, found k s q.1)

  found_fields : (h fs : Fields) → are_fields_plain_in h fs ≡ true → AreFieldsPlainIn h fs
  found_fields h no_fields e = tt
  found_fields h (field n s fs) e =
      let q = both_true (is_free_name n && is_plain_in h s) (are_fields_plain_in h fs) e in
      let r = both_true (is_free_name n) (is_plain_in h s) q.0 in
      (free n r.0, found h s r.1, found_fields h fs q.1)

  found_definitions : (h fs : Fields) → are_definitions_plain_in h fs ≡ true → AreDefinitionsPlainIn h fs
  found_definitions h no_fields e = tt
  found_definitions h (field n s fs) e = let q = both_true (is_plain_in h s) (are_definitions_plain_in h fs) e in (found h s q.0, found_definitions h fs q.1)

  found_parts : (h : Fields) (ps : Parts) → are_parts_plain_in h ps ≡ true → ArePartsPlainIn h ps
  found_parts h no_parts e = tt
  found_parts h (part s ps) e = let q = both_true (is_plain_in h s) (are_parts_plain_in h ps) e in (found h s q.0, found_parts h ps q.1)

  found_variants : (h : Fields) (vs : Variants) → are_variants_plain_in h vs ≡ true → AreVariantsPlainIn h vs
  found_variants h no_variants e = tt
  found_variants h (variant n c vs) e =
      let q = both_true (is_free_name n && is_content_plain_in h c) (are_variants_plain_in h vs) e in
      let r = both_true (is_free_name n) (is_content_plain_in h c) q.0 in
      (free n r.0, found_content h c r.1, found_variants h vs q.1)

  found_content : (h : Fields) (c : Content) → is_content_plain_in h c ≡ true → IsContentPlainIn h c
  found_content h unit_content e = tt
  found_content h (newtype_content s) e = found h s e
  found_content h (tuple_content ps) e = found_parts h ps e
  found_content h (struct_content fs) e = found_fields h fs e

-- ---- what is plain passes it

kept_so : (k : LeafKind) → IsKept k → is_kept k ≡ true
kept_so ignored p = absurd p
kept_so raw_documents p = absurd p
kept_so raw_arrays p = absurd p
kept_so raw_values p = absurd p
kept_so k p = refl

free_so : (n : Utf8) → IsFreeName n → is_free_name n ≡ true
free_so n p = both (not (has_zero n)) (not (begins_with_dollar n)) (true_not (has_zero n) p.no_zero) (true_not (begins_with_dollar n) p.no_dollar)

leaf_so : (l : Leaf) → OwnsTextLeaf l → owns_text_leaf l ≡ true
leaf_so Str p = absurd p
leaf_so l p = refl

key_so : (s : Form) → IsPlainKey s → is_plain_key s ≡ true
key_so (leaf l) p = ap is_texts p
key_so (enumeration vs) p = p
key_so s p = absurd p

mutual
  owned_so : (P : Type 0) (b : Bool) → (P → b ≡ true) → (s : Form) → OwnsTextsIn P s → owns_texts b s ≡ true
  owned_so P b f (leaf l) p = leaf_so l p
  owned_so P b f (optional s) p = owned_so P b f s p
  owned_so P b f (lossy s) p = owned_so P b f s p
  owned_so P b f (human_readable s) p = owned_so P b f s p
  owned_so P b f (by_mode r c) p = both (owns_texts b r) (owns_texts b c) (owned_so P b f r p.0) (owned_so P b f c p.1)
  owned_so P b f (newtype n s) p = owned_so P b f s p
  owned_so P b f (unit_structure n) p = refl
  owned_so P b f (sequence s) p = owned_so P b f s p
  owned_so P b f (map k s) p = both (owns_texts b k) (owns_texts b s) (owned_so P b f k p.0) (owned_so P b f s p.1)
  owned_so P b f (tuple ps) p = parts_so P b f ps p
  owned_so P b f (tuple_structure n ps) p = parts_so P b f ps p
  owned_so P b f (enumeration vs) p = variants_so P b f vs p
  owned_so P b f (structure u n fs) p = fields_so P b f fs p
  owned_so P b f (reference n) p = f p
  owned_so P b f (definitions h s) p = both (fields_own_texts true h) (owns_texts true s) (fields_so (Unit {0}) true (λ k. refl) h p.0) (owned_so (Unit {0}) true (λ k. refl) s p.1)

  fields_so : (P : Type 0) (b : Bool) → (P → b ≡ true) → (fs : Fields) → FieldsOwnTextsIn P fs → fields_own_texts b fs ≡ true
  fields_so P b f no_fields p = refl
  fields_so P b f (field n s fs) p = both (owns_texts b s) (fields_own_texts b fs) (owned_so P b f s p.0) (fields_so P b f fs p.1)

  parts_so : (P : Type 0) (b : Bool) → (P → b ≡ true) → (ps : Parts) → PartsOwnTextsIn P ps → parts_own_texts b ps ≡ true
  parts_so P b f no_parts p = refl
  parts_so P b f (part s ps) p = both (owns_texts b s) (parts_own_texts b ps) (owned_so P b f s p.0) (parts_so P b f ps p.1)

  variants_so : (P : Type 0) (b : Bool) → (P → b ≡ true) → (vs : Variants) → VariantsOwnTextsIn P vs → variants_own_texts b vs ≡ true
  variants_so P b f no_variants p = refl
  variants_so P b f (variant n c vs) p = both (content_owns_texts b c) (variants_own_texts b vs) (content_so P b f c p.0) (variants_so P b f vs p.1)

  content_so : (P : Type 0) (b : Bool) → (P → b ≡ true) → (c : Content) → ContentOwnsTextsIn P c → content_owns_texts b c ≡ true
  content_so P b f unit_content p = refl
  content_so P b f (newtype_content s) p = owned_so P b f s p
  content_so P b f (tuple_content ps) p = parts_so P b f ps p
  content_so P b f (struct_content fs) p = fields_so P b f fs p

mutual
  plain_so : (h : Fields) (s : Form) → IsPlainIn h s → is_plain_in h s ≡ true
  plain_so h (leaf l) p = kept_so (leaf_kind l) p
  plain_so h (optional s) p = plain_so h s p
  plain_so h (lossy s) p =
      both (owns_texts (fields_own_texts true h) s) (is_plain_in h s)
      (owned_so (DefinitionsOwnTexts h) (fields_own_texts true h) (λ q. fields_so (Unit {0}) true (λ k. refl) h q) s p.0) (plain_so h s p.1)
  plain_so h (human_readable s) p = absurd p
  plain_so h (by_mode r c) p = absurd p
  plain_so h (newtype n s) p = both (is_free_name n) (is_plain_in h s) (free_so n p.0) (plain_so h s p.1)
  plain_so h (unit_structure n) p = refl
  plain_so h (sequence s) p = plain_so h s p
  plain_so h (map k s) p = both (is_plain_key k && is_plain_in h k) (is_plain_in h s) (both (is_plain_key k) (is_plain_in h k) (key_so k p.0) (plain_so h k p.1)) (plain_so h s p.2)
  plain_so h (tuple ps) p = plain_parts_so h ps p
  plain_so h (tuple_structure n ps) p = plain_parts_so h ps p
  plain_so h (enumeration vs) p = plain_variants_so h vs p
  plain_so h (structure u n fs) p = both (is_free_name n) (are_fields_plain_in h fs) (free_so n p.0) (plain_fields_so h fs p.1)
  plain_so h (reference n) p = p
  plain_so h (definitions k s) p = both (are_definitions_plain_in k k) (is_plain_in k s) (plain_definitions_so k k p.0) (plain_so k s p.1)

  plain_fields_so : (h fs : Fields) → AreFieldsPlainIn h fs → are_fields_plain_in h fs ≡ true
  plain_fields_so h no_fields p = refl
  plain_fields_so h (field n s fs) p =
      both (is_free_name n && is_plain_in h s) (are_fields_plain_in h fs) (both (is_free_name n) (is_plain_in h s) (free_so n p.0) (plain_so h s p.1)) (plain_fields_so h fs p.2)

  plain_definitions_so : (h fs : Fields) → AreDefinitionsPlainIn h fs → are_definitions_plain_in h fs ≡ true
  plain_definitions_so h no_fields p = refl
  plain_definitions_so h (field n s fs) p = both (is_plain_in h s) (are_definitions_plain_in h fs) (plain_so h s p.0) (plain_definitions_so h fs p.1)

  plain_parts_so : (h : Fields) (ps : Parts) → ArePartsPlainIn h ps → are_parts_plain_in h ps ≡ true
  plain_parts_so h no_parts p = refl
  plain_parts_so h (part s ps) p = both (is_plain_in h s) (are_parts_plain_in h ps) (plain_so h s p.0) (plain_parts_so h ps p.1)

  plain_variants_so : (h : Fields) (vs : Variants) → AreVariantsPlainIn h vs → are_variants_plain_in h vs ≡ true
  plain_variants_so h no_variants p = refl
  plain_variants_so h (variant n c vs) p =
      both (is_free_name n && is_content_plain_in h c) (are_variants_plain_in h vs) (both (is_free_name n) (is_content_plain_in h c) (free_so n p.0) (plain_content_so h c p.1))
      (plain_variants_so h vs p.2)

  plain_content_so : (h : Fields) (c : Content) → IsContentPlainIn h c → is_content_plain_in h c ≡ true
  plain_content_so h unit_content p = refl
  plain_content_so h (newtype_content s) p = plain_so h s p
  plain_content_so h (tuple_content ps) p = plain_parts_so h ps p
  plain_content_so h (struct_content fs) p = plain_fields_so h fs p

-- ---- so it tells exactly which shapes are plain

pub plain_found : (s : Form) → is_plain s ≡ true → IsPlain s
plain_found s e = found no_fields s e

pub plain_passes : (s : Form) → IsPlain s → is_plain s ≡ true
plain_passes s p = plain_so no_fields s p
