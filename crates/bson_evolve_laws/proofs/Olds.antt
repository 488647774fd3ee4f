-- What a value that fits a part of a shape means, one layer at a time: a document of a struct has each of its keys and no other.
use Rattle.std.proofs.Common.{◌≡◌, ℕ, suc, ◌≤◌, Bool, true, false, cond, Option, Some, None, refl, ap, sym, subst, ◌∙◌, inl, inr, arith}
use Rattle.std.specs.Prelude.{IsSome, ◌⊎◌, ◌||◌, option_map, option_and_then}
use Rattle.std.specs.Str.{bytes_eq}
use Rattle.bson_base.specs.Pairs.{lookup}
use Rattle.bson_kinds.specs.Reserved.{reserved_kind}
use Rattle.bson_base.specs.Sound.{IsClean, ArePairsClean, Lacks}
use Rattle.bson_kinds.specs.Text.{Utf8, IsFreeName}
use Rattle.bson_base.specs.Tree as tree
use Rattle.bson_base.specs.Tree.{Tree, string, document, array, null, Pairs, no_pairs, pair, Trees, no_trees}
use Rattle.bson_kinds.proofs.Outcomes.{some_is, some_map, some_then}
use Rattle.bson_shape.specs.Form.{Form, leaf, optional, lossy, sequence, newtype, unit_structure, map, tuple, tuple_structure, structure, enumeration, reference, definitions, Fields, no_fields, field, Parts, no_parts, part, Content, unit_content, newtype_content, tuple_content, struct_content, Variants, no_variants, variant}
use Rattle.bson_shape.specs.Makers.{is_reserved_newtype, IsShape, AreShapes, AreParts, AreVariants, IsContent}
use Rattle.bson_shape.specs.declared.leaf.Leaf.TheVariants.{Bson}
use Rattle.bson_values.specs.Value as value
use Rattle.bson_values.specs.Value.{Value, Items, no_items, item, Entries, no_entries, entry, FieldValues, no_field_values, field_value}
use Rattle.bson_laws.specs.Depths.{value_depth, items_depth, entries_depth, fields_depth}
use Rattle.bson_laws.specs.Fits.{FitsKey, Fits, ItemsFit, PartsFit, EntriesFit, FieldsFit}
use Rattle.bson_laws.specs.Means.{key_text, under_name, means, means_items, means_entries, means_fields, norm}
use Rattle.bson_laws.specs.Plain.{IsPlainKey, IsPlainIn, AreFieldsPlainIn, ArePartsPlainIn, AreVariantsPlainIn, IsContentPlainIn}
use Rattle.bson_laws.specs.Recursive.{FitsIn}
use Rattle.bson_laws.specs.Unrolled as unrolled
use Rattle.bson_laws.specs.Unrolled.{Meanings, unrolled_fields, unrolled_parts, unrolled_variants, unrolled_content, in_table}
use Rattle.bson_laws.specs.Variants.{content_of}
use Rattle.bson_laws.specs.Views.{views, views_key, views_leaf_key, named_unit}
use Rattle.bson_laws.proofs.Equations.{fits_as, reference_fits, definitions_fit}
use Rattle.bson_laws.proofs.Fitted.{bytes_eq-refl, chosen_t, chosen_f, Unnamed, unlike_swap, views_means}
use Rattle.bson_laws.proofs.Fitting.{fits_lossy}
use Rattle.bson_laws.proofs.Free.{free_means, free_struct_means, free_newtype_name, free_struct_name}
use Rattle.bson_laws.proofs.Spelled.{tree_is, trees_are, pairs_are}
use Rattle.bson_laws.specs.Named.{has}
use Rattle.bson_evolve_laws.specs.Placed.{placed, peel}
use Rattle.bson_evolve_laws.proofs.Layer.{AllTrees, AllPairs, HoldsAt, KeysIn, MayMiss, whole, Either, PartsAt, FieldsAt, ContentAt, VariantAt, Layer}
use Rattle.bson_evolve_laws.proofs.Peels.{IsPeeled, IsAround, IsPart, peel_part, peeled}
use Rattle.bson_kinds.proofs.Apart.{no_some}

-- a value that fits the part means the tree
pub record IsMeant (h : Fields) (s : Form) (t : Tree) : Type 0 where
  pub value : Value
  pub fits : FitsIn h value s
  pub is : means value ≡ Some t

-- so it is, or the part is `bson`, which has every tree
pub record Has (h : Fields) (s : Form) (t : Tree) : Type 0 where
  pub is : IsPart h s
  pub has : IsMeant h s t ⊎ (s ≡ leaf Bson)

-- ---- what is seen through

newtype_meant : (h : Fields) (n : Utf8) (s : Form) (t : Tree) (v : Value) → IsFreeName n → FitsIn h v (newtype n s) → means v ≡ Some t → IsMeant h s t
newtype_meant h n s t (value.newtype m w) p f e = record { value = w; fits = f.1; is = sym (free_means m w (ap is_reserved_newtype f.0 ∙ free_newtype_name n p)) ∙ e }
newtype_meant h n s t v p f e = absurd f

pub meant_peel : (h : Fields) (s : Form) → IsPart h s → (t : Tree) → IsMeant h s t → IsMeant (peel (placed h s)).around (peel (placed h s)).form t
meant_peel =
    peeled (λ h s q. (t : Tree) → IsMeant h s t → IsMeant q.around q.form t) (λ h s p t m. m) (λ h n s q p c t m. c t (newtype_meant h n s t m.value p.plain.0 m.fits m.is))
    (λ h s q p c t m. c t (record { value = m.value; fits = fits_lossy m.value (in_table (suc (value_depth m.value)) h s) m.fits; is = m.is }))
    (λ h k s q p c t m. c t (record { value = m.value; fits = definitions_fit h k s m.value m.fits; is = m.is }))
    (λ h n s q p e c t m. c t (record { value = m.value; fits = reference_fits h n s m.value p.around.table e m.fits; is = m.is }))

-- ---- the variants of a form that is unrolled

content_unrolled : (m : ℕ) (g : Meanings) (vs : Variants) (name : Utf8) → content_of (unrolled_variants m vs g) name ≡ option_map (λ c. unrolled_content m c g) (content_of vs name)
content_unrolled m g no_variants name = refl
content_unrolled m g (variant word c vs) name = by_case (bytes_eq word name) (content_unrolled m g vs name) where
  by_case : (b : Bool) → content_of (unrolled_variants m vs g) name ≡ option_map (λ d. unrolled_content m d g) (content_of vs name)
      → cond b (Some (unrolled_content m c g)) (content_of (unrolled_variants m vs g) name) ≡ option_map (λ d. unrolled_content m d g) (cond b (Some c) (content_of vs name))
  by_case true h = refl
  by_case false h = h

unit_from : (m : ℕ) (g : Meanings) (o : Option Content) → option_map (λ c. unrolled_content m c g) o ≡ Some unit_content → o ≡ Some unit_content
unit_from m g None e = absurd (no_some e)
unit_from m g (Some unit_content) e = refl
unit_from m g o e = absurd cc

newtype_is : (s r : Form) → Some (newtype_content s) ≡ Some (newtype_content r) → s ≡ r
newtype_is s r e = cc

tuple_is : (ps qs : Parts) → Some (tuple_content ps) ≡ Some (tuple_content qs) → ps ≡ qs
tuple_is ps qs e = cc

struct_is : (fs gs : Fields) → Some (struct_content fs) ≡ Some (struct_content gs) → fs ≡ gs
struct_is fs gs e = cc

newtype_from : (m : ℕ) (g : Meanings) (o : Option Content) (r : Form) → option_map (λ c. unrolled_content m c g) o ≡ Some (newtype_content r) → (s : Form) × (o ≡ Some (newtype_content s)) × (unrolled.unrolled m s g ≡ r)
newtype_from m g None r e = absurd (no_some e)
newtype_from m g (Some (newtype_content s)) r e = (s, refl, newtype_is (unrolled.unrolled m s g) r e)
newtype_from m g (Some c) r e = absurd cc

tuple_from : (m : ℕ) (g : Meanings) (o : Option Content) (qs : Parts) → option_map (λ c. unrolled_content m c g) o ≡ Some (tuple_content qs) → (ps : Parts) × (o ≡ Some (tuple_content ps)) × (unrolled_parts m ps g ≡ qs)
tuple_from m g None qs e = absurd (no_some e)
tuple_from m g (Some (tuple_content ps)) qs e = (ps, refl, tuple_is (unrolled_parts m ps g) qs e)
tuple_from m g (Some c) qs e = absurd cc

struct_from : (m : ℕ) (g : Meanings) (o : Option Content) (gs : Fields) → option_map (λ c. unrolled_content m c g) o ≡ Some (struct_content gs) → (fs : Fields) × (o ≡ Some (struct_content fs)) × (unrolled_fields m fs g ≡ gs)
struct_from m g None gs e = absurd (no_some e)
struct_from m g (Some (struct_content fs)) gs e = (fs, refl, struct_is (unrolled_fields m fs g) gs e)
struct_from m g (Some c) gs e = absurd cc

-- what a form has one of whose variants is unrolled
pub unit_back : (m : ℕ) (g : Meanings) (vs : Variants) (name : Utf8) → content_of (unrolled_variants m vs g) name ≡ Some unit_content → content_of vs name ≡ Some unit_content
unit_back m g vs name e = unit_from m g (content_of vs name) (sym (content_unrolled m g vs name) ∙ e)

pub unit_kept : (m : ℕ) (g : Meanings) (vs : Variants) (name : Utf8) → content_of vs name ≡ Some unit_content → content_of (unrolled_variants m vs g) name ≡ Some unit_content
unit_kept m g vs name e = content_unrolled m g vs name ∙ ap (option_map (λ c. unrolled_content m c g)) e

found_content : (vs : Variants) (name : Utf8) (c : Content) → AreVariants vs → content_of vs name ≡ Some c → IsContent c
found_content no_variants name c a e = absurd (no_some e)
found_content (variant n d vs) name c a e = by_case (bytes_eq n name) e (λ i. found_content vs name c a.2 i) where
  by_case : (b : Bool) → cond b (Some d) (content_of vs name) ≡ Some c → (content_of vs name ≡ Some c → IsContent c) → IsContent c
  by_case true i others = subst IsContent (some_is d c i) a.1
  by_case false i others = others i

found_plain : (g : Fields) (vs : Variants) (name : Utf8) (c : Content) → AreVariantsPlainIn g vs → content_of vs name ≡ Some c → IsContentPlainIn g c
found_plain g no_variants name c a e = absurd (no_some e)
found_plain g (variant n d vs) name c a e = by_case (bytes_eq n name) e (λ i. found_plain g vs name c a.2 i) where
  by_case : (b : Bool) → cond b (Some d) (content_of vs name) ≡ Some c → (content_of vs name ≡ Some c → IsContentPlainIn g c) → IsContentPlainIn g c
  by_case true i others = subst (IsContentPlainIn g) (some_is d c i) a.1
  by_case false i others = others i

variant_at : (H : Form → Tree → Type 0) (vs : Variants) (name : Utf8) (c : Content) (t : Tree) → content_of vs name ≡ Some c → ContentAt whole H c t → VariantAt whole H vs name t
variant_at H no_variants name c t e h = absurd cc
variant_at H (variant n d vs) name c t e h = at (bytes_eq n name) e (λ f. variant_at H vs name c t f h)
  where
    at : (b : Bool) → cond b (Some d) (content_of vs name) ≡ Some c → (content_of vs name ≡ Some c → VariantAt whole H vs name t) → Either b (ContentAt whole H d t) (VariantAt whole H vs name t)
    at true e others = subst (λ x. ContentAt whole H x t) (sym (some_is d c e)) h
    at false e others = others e

-- ---- one layer

some_view : {A : Type 0} (o : Option A) (x : A) → o ≡ Some x → IsSome o
some_view o x e = subst IsSome (sym e) refl

key_means : (m : ℕ) (g : Meanings) (key : Form) (k : Value) (x : Utf8) → IsPlainKey key → FitsKey (unrolled.unrolled m key g) k → key_text k ≡ Some x → IsSome (views_key key x)
key_means m g (leaf l) k x p f e = subst (λ j. IsSome (views_leaf_key j x)) (sym p) refl
key_means m g (enumeration vs) (value.unit_variant name) x p f e =
    subst (λ z. IsSome (named_unit z (content_of vs z))) (some_is name x e) (subst (λ o. IsSome (named_unit name o)) (sym (unit_back m g vs name f)) refl)
key_means m g (enumeration vs) k x p f e = absurd f
key_means m g s k x p f e = absurd p

or_true : (a : Bool) → (a || true) ≡ true
or_true true = refl
or_true false = refl

keys_more : (ps : Pairs) (n : Utf8) (s : Form) (fs : Fields) → KeysIn ps fs → KeysIn ps (field n s fs)
keys_more no_pairs n s fs h = tt
keys_more (pair key t ps) n s fs h = (ap (λ b. bytes_eq n key || b) h.0 ∙ or_true (bytes_eq n key), keys_more ps n s fs h.1)

null_or : (H : Form → Tree → Type 0) (s : Form) (t : Tree) → H s t → Layer whole H (optional s) t
null_or H s null h = tt
null_or H s t h = h

module _ (h : Fields) (around : IsAround h) where
  abbrev H : Form → Tree → Type 0
  H s t = Has h s t

  abbrev names : ℕ → Meanings
  names m = unrolled.names_in m h

  -- an inner value, at what its own depth asks for
  inner : (m : ℕ) (s : Form) (v : Value) (t : Tree) → IsPart h s → suc (value_depth v) ≤ m → Fits v (in_table m h s) → means v ≡ Some t → H s t
  inner m s v t p le f e = record { is = p; has = inl (record { value = v; fits = fits_as m (suc (value_depth v)) h s v around.table p.shape le (omega arith) f; is = e }) }

  piece : (s : Form) → IsShape s → IsPlainIn h s → IsPart h s
  piece s shape plain = record { around = around; shape = shape; plain = plain }

  items_in : (m : ℕ) (s : Form) → IsPart h s → (vs : Items) (ts : Trees) → suc (items_depth vs) ≤ m → ItemsFit vs (in_table m h s) → means_items vs ≡ Some ts → AllTrees (H s) ts
  items_in m s p no_items ts le f e = subst (AllTrees (H s)) (trees_are no_trees ts e) tt
  items_in m s p (item v vs) ts le f e =
      let a = some_then (λ t. option_map (tree.tree t) (means_items vs)) (means v) ts e in
      let b = some_map (tree.tree a.0) (means_items vs) ts a.2 in
      subst (AllTrees (H s)) b.2 (inner m s v a.0 p (omega (arith, le)) f.0 a.1, items_in m s p vs b.0 (omega (arith, le)) f.1 b.1)

  parts_in : (m : ℕ) (ps : Parts) → AreParts ps → ArePartsPlainIn h ps → (vs : Items) (ts : Trees) → suc (items_depth vs) ≤ m → PartsFit vs (unrolled_parts m ps (names m)) → means_items vs ≡ Some ts → PartsAt H ps ts
  parts_in m no_parts shapes plain no_items ts le f e = subst (PartsAt H no_parts) (trees_are no_trees ts e) tt
  parts_in m (part s ps) shapes plain (item v vs) ts le f e =
      let a = some_then (λ t. option_map (tree.tree t) (means_items vs)) (means v) ts e in
      let b = some_map (tree.tree a.0) (means_items vs) ts a.2 in
      subst (PartsAt H (part s ps)) b.2 (inner m s v a.0 (piece s shapes.0 plain.0) (omega (arith, le)) f.0 a.1, parts_in m ps shapes.1 plain.1 vs b.0 (omega (arith, le)) f.1 b.1)
  parts_in m no_parts shapes plain (item v vs) ts le f e = absurd f
  parts_in m (part s ps) shapes plain no_items ts le f e = absurd f

  entries_in : (m : ℕ) (key s : Form) → IsPlainKey key → IsPart h s → (es : Entries) (ps : Pairs) → suc (entries_depth es) ≤ m → EntriesFit es (in_table m h key) (in_table m h s) → means_entries es ≡ Some ps
      → AllPairs (λ k. IsSome (views_key key k)) (H s) ps
  entries_in m key s plain p no_entries ps le f e = subst (AllPairs (λ k. IsSome (views_key key k)) (H s)) (pairs_are no_pairs ps e) tt
  entries_in m key s plain p (entry k v es) ps le f e =
      let a = some_then (λ x. option_and_then (λ t. option_map (pair x t) (means_entries es)) (means v)) (key_text k) ps e in
      let b = some_then (λ t. option_map (pair a.0 t) (means_entries es)) (means v) ps a.2 in
      let q = some_map (pair a.0 b.0) (means_entries es) ps b.2 in
      subst (AllPairs (λ k. IsSome (views_key key k)) (H s)) q.2
      (key_means m (names m) key k a.0 plain f.0 a.1, inner m s v b.0 p (omega (arith, le)) f.1 b.1, entries_in m key s plain p es q.0 (omega (arith, le)) f.2 q.1)

  -- the fields of a shape are named as the keys of what a value of it means
  unnamed : (m : ℕ) (key : Utf8) (vs : FieldValues) (fs : Fields) (ps : Pairs) → FieldsFit vs (unrolled_fields m fs (names m)) → means_fields vs ≡ Some ps → Lacks key ps → Unnamed key fs
  unnamed m key no_field_values no_fields ps f e l = tt
  unnamed m key no_field_values (field n s fs) ps f e l = absurd f
  unnamed m key (field_value x v vs) no_fields ps f e l = absurd f
  unnamed m key (field_value x v vs) (field n s fs) ps f e l =
      let a = some_then (λ t. option_map (pair x t) (means_fields vs)) (means v) ps e in
      let b = some_map (pair x a.0) (means_fields vs) ps a.2 in
      let k = subst (Lacks key) (sym b.2) l in
      (subst (λ z. bytes_eq z key ≡ false) f.0 (unlike_swap key x k.0), unnamed m key vs fs b.0 f.2 b.1 k.1)

  -- a pair that no field names
  hold_more : (fs : Fields) (key : Utf8) (t : Tree) (ps : Pairs) → Unnamed key fs → FieldsAt whole H fs ps → FieldsAt whole H fs (pair key t ps)
  hold_more no_fields key t ps u k = tt
  hold_more (field name s fs) key t ps u k =
      (subst (HoldsAt (H s) (MayMiss whole s)) (sym (chosen_f (bytes_eq name key) t (lookup name ps) u.0)) k.0, hold_more fs key t ps u.1 k.1)

  fields_in : (m : ℕ) (fs : Fields) → AreShapes fs → AreFieldsPlainIn h fs → (vs : FieldValues) (ps : Pairs) → suc (fields_depth vs) ≤ m → FieldsFit vs (unrolled_fields m fs (names m)) → means_fields vs ≡ Some ps → ArePairsClean ps
      → FieldsAt whole H fs ps × KeysIn ps fs
  fields_in m no_fields shapes plain no_field_values ps le f e c = subst (λ x. FieldsAt whole H no_fields x × KeysIn x no_fields) (pairs_are no_pairs ps e) (tt, tt)
  fields_in m (field n s fs) shapes plain no_field_values ps le f e c = absurd f
  fields_in m no_fields shapes plain (field_value x v vs) ps le f e c = absurd f
  fields_in m (field n s fs) shapes plain (field_value x v vs) ps le f e c =
      let a = some_then (λ t. option_map (pair x t) (means_fields vs)) (means v) ps e in
      let b = some_map (pair x a.0) (means_fields vs) ps a.2 in
      subst (λ z. ArePairsClean z → FieldsAt whole H (field n s fs) z × KeysIn z (field n s fs)) b.2
      (λ c'.
      let r = fields_in m fs shapes.2 plain.2 vs b.0 (omega (arith, le)) f.2 b.1 c'.3 in
      let is = subst (λ z. bytes_eq z x ≡ true) f.0 (bytes_eq-refl x) in (
        (
          subst (HoldsAt (H s) (MayMiss whole s)) (sym (chosen_t (bytes_eq n x) a.0 (lookup n b.0) is)) (inner m s v a.0 (piece s shapes.1 plain.1) (omega (arith, le)) f.1 a.1),
          hold_more fs x a.0 b.0 (unnamed m x vs fs b.0 f.2 b.1 c'.1) r.0,
        ),
        (ap (λ z. z || has fs x) is, keys_more b.0 n s fs r.1),
      ))
      c

  -- the contents of a variant
  newtype_in : (vs : Variants) → AreVariants vs → AreVariantsPlainIn h vs → (name : Utf8) (v : Value) (t : Tree)
      → (r : Form) × (content_of (unrolled_variants (suc (suc (value_depth v))) vs (names (suc (suc (value_depth v))))) name ≡ Some (newtype_content r)) × Fits v r → means v ≡ Some t → VariantAt whole H vs name t
  newtype_in vs shapes plain name v t f e =
      let m = suc (suc (value_depth v)) in
      let o = newtype_from m (names m) (content_of vs name) f.0 (sym (content_unrolled m (names m) vs name) ∙ f.1) in
      variant_at H vs name (newtype_content o.0) t o.1
      (inner m o.0 v t (piece o.0 (found_content vs name (newtype_content o.0) shapes o.1) (found_plain h vs name (newtype_content o.0) plain o.1)) (omega arith) (subst (Fits v) (sym o.2) f.2) e)

  tuple_in : (vs : Variants) → AreVariants vs → AreVariantsPlainIn h vs → (name : Utf8) (ws : Items) (ts : Trees)
      → (qs : Parts) × (content_of (unrolled_variants (suc (suc (items_depth ws))) vs (names (suc (suc (items_depth ws))))) name ≡ Some (tuple_content qs)) × PartsFit ws qs → means_items ws ≡ Some ts → VariantAt whole H vs name (array ts)
  tuple_in vs shapes plain name ws ts f e =
      let m = suc (suc (items_depth ws)) in
      let o = tuple_from m (names m) (content_of vs name) f.0 (sym (content_unrolled m (names m) vs name) ∙ f.1) in
      variant_at H vs name (tuple_content o.0) (array ts) o.1
      (parts_in m o.0 (found_content vs name (tuple_content o.0) shapes o.1) (found_plain h vs name (tuple_content o.0) plain o.1) ws ts (omega arith) (subst (PartsFit ws) (sym o.2) f.2) e)

  struct_in : (vs : Variants) → AreVariants vs → AreVariantsPlainIn h vs → (name : Utf8) (ws : FieldValues) (ps : Pairs)
      → (gs : Fields) × (content_of (unrolled_variants (suc (suc (fields_depth ws))) vs (names (suc (suc (fields_depth ws))))) name ≡ Some (struct_content gs)) × FieldsFit ws gs → means_fields ws ≡ Some ps → ArePairsClean ps
      → VariantAt whole H vs name (document ps)
  struct_in vs shapes plain name ws ps f e c =
      let m = suc (suc (fields_depth ws)) in
      let o = struct_from m (names m) (content_of vs name) f.0 (sym (content_unrolled m (names m) vs name) ∙ f.1) in
      variant_at H vs name (struct_content o.0) (document ps) o.1
      (fields_in m o.0 (found_content vs name (struct_content o.0) shapes o.1).1 (found_plain h vs name (struct_content o.0) plain o.1) ws ps (omega arith) (subst (FieldsFit ws) (sym o.2) f.2) e c)

  layer_of : (s : Form) (v : Value) (t : Tree) → IsPart h s → IsPeeled s → FitsIn h v s → means v ≡ Some t → IsClean t → Layer whole H s t
  layer_of (leaf l) v t p q f e c = some_view (views (leaf l) t) (norm v) (views_means v (leaf l) t p.plain f e c)
  layer_of (optional s) value.none t p q f e c = subst (Layer whole H (optional s)) (tree_is null t e) tt
  layer_of (optional s) (value.some v) t p q f e c = null_or H s t (record { is = piece s p.shape.1 p.plain; has = inl (record { value = v; fits = f; is = e }) })
  layer_of (unit_structure n) (value.unit_structure m) t p q f e c = subst (Layer whole H (unit_structure n)) (tree_is null t e) tt
  layer_of (sequence s) (value.sequence vs) t p q f e c =
      let a = some_map array (means_items vs) t e in
      subst (Layer whole H (sequence s)) a.2 (items_in (suc (suc (items_depth vs))) s (piece s p.shape.1 p.plain) vs a.0 (omega arith) f a.1)
  layer_of (map key s) (value.map es) t p q f e c =
      let a = some_map document (means_entries es) t e in
      subst (Layer whole H (map key s)) a.2 (entries_in (suc (suc (entries_depth es))) key s p.plain.0 (piece s p.shape.3 p.plain.2) es a.0 (omega arith) f a.1)
  layer_of (tuple ps) (value.tuple vs) t p q f e c =
      let a = some_map array (means_items vs) t e in
      subst (Layer whole H (tuple ps)) a.2 (parts_in (suc (suc (items_depth vs))) ps p.shape.1 p.plain vs a.0 (omega arith) f a.1)
  layer_of (tuple_structure n ps) (value.tuple_structure m vs) t p q f e c =
      let a = some_map array (means_items vs) t e in
      subst (Layer whole H (tuple_structure n ps)) a.2 (parts_in (suc (suc (items_depth vs))) ps p.shape.2 p.plain vs a.0 (omega arith) f.1 a.1)
  layer_of (structure u n fs) (value.structure m vs) t p q f e c =
      let a = some_map document (means_fields vs) t (sym (free_struct_means m vs (ap reserved_kind f.0 ∙ free_struct_name n p.plain.0)) ∙ e) in
      subst (λ x. IsClean x → Layer whole H (structure u n fs) x) a.2 (λ c'. fields_in (suc (suc (fields_depth vs))) fs p.shape.1 p.plain.1 vs a.0 (omega arith) f.1 a.1 c') c
  layer_of (enumeration vs) (value.unit_variant name) t p q f e c =
      subst (Layer whole H (enumeration vs)) (tree_is (string name) t e) (unit_back 1 (names 1) vs name f)
  layer_of (enumeration vs) (value.newtype_variant name v) t p q f e c =
      let a = some_map (under_name name) (means v) t e in
      subst (Layer whole H (enumeration vs)) a.2 (newtype_in vs p.shape.1 p.plain name v a.0 f a.1)
  layer_of (enumeration vs) (value.tuple_variant name ws) t p q f e c =
      let a = some_map (λ ts. under_name name (array ts)) (means_items ws) t e in
      subst (Layer whole H (enumeration vs)) a.2 (tuple_in vs p.shape.1 p.plain name ws a.0 f a.1)
  layer_of (enumeration vs) (value.structure_variant name ws) t p q f e c =
      let a = some_map (λ ps. under_name name (document ps)) (means_fields ws) t e in
      subst (λ x. IsClean x → Layer whole H (enumeration vs) x) a.2 (λ c'. struct_in vs p.shape.1 p.plain name ws a.0 f a.1 c'.2) c
  layer_of (newtype n s) v t p q f e c = absurd q
  layer_of (lossy s) v t p q f e c = absurd q
  layer_of (definitions k s) v t p q f e c = absurd q
  layer_of (reference n) v t p q f e c = absurd q
  layer_of s v t p q f e c = absurd f

bson_layer : (h : Fields) (t : Tree) → Layer whole (Has h) (leaf Bson) t
bson_layer h t = refl

-- what a part that is seen through has is a layer of what its parts have
pub has_layer : (h : Fields) (s : Form) (t : Tree) → IsPeeled s → IsClean t → Has h s t → Layer whole (Has h) s t
has_layer h s t q c p = by_kind p.has where
  by_kind : IsMeant h s t ⊎ (s ≡ leaf Bson) → Layer whole (Has h) s t
  by_kind (inl m) = layer_of h p.is.around s m.value t p.is q m.fits m.is c
  by_kind (inr e) = subst (λ x. Layer whole (Has h) x t) (sym e) (bson_layer h t)

bson_peel : (h : Fields) (s : Form) → s ≡ leaf Bson → (peel (placed h s)).form ≡ leaf Bson
bson_peel h s e = ap (λ x. (peel (placed h x)).form) e

pub has_peel : (h : Fields) (s : Form) (t : Tree) → Has h s t → Has (peel (placed h s)).around (peel (placed h s)).form t
has_peel h s t p = record { is = peel_part h s p.is; has = by_kind p.has } where
  by_kind : IsMeant h s t ⊎ (s ≡ leaf Bson) → IsMeant (peel (placed h s)).around (peel (placed h s)).form t ⊎ ((peel (placed h s)).form ≡ leaf Bson)
  by_kind (inl m) = inl (meant_peel h s p.is t m)
  by_kind (inr e) = inr (bson_peel h s e)

pub bson_has : (h : Fields) → IsAround h → (t : Tree) → Has h (leaf Bson) t
bson_has h around t = record { is = record { around = around; shape = tt; plain = tt }; has = inr refl }
