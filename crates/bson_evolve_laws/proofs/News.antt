-- A part of a shape has a view of a tree where it has one of each part of the tree, one layer at a time.
use Rattle.std.proofs.Common.{◌≡◌, ℕ, suc, ◌≤◌, Bool, true, false, cond, Option, Some, None, refl, ap, sym, subst, ◌∙◌, arith}
use Rattle.std.specs.Prelude.{IsSome, ◌||◌, ◌&&◌, option_map}
use Rattle.std.specs.Str.{bytes_eq}
use Rattle.bson_base.specs.Pairs.{lookup}
use Rattle.bson_kinds.specs.Text.{Utf8}
use Rattle.bson_base.specs.Tree.{Tree, string, document, array, null, depth, Pairs, no_pairs, pair, pairs_depth, Trees, no_trees, tree, trees_depth}
use Rattle.bson_shape.specs.Form.{UnknownFields, dropped, denied, Form, leaf, optional, sequence, unit_structure, map, tuple, tuple_structure, structure, enumeration, Fields, no_fields, field, Parts, no_parts, part, Content, unit_content, newtype_content, tuple_content, struct_content, Variants, no_variants, variant}
use Rattle.bson_shape.specs.Makers.{has_name, has_field, IsShape, AreShapes, AreParts, AreVariants, IsContent}
use Rattle.bson_values.specs.Value as value
use Rattle.bson_values.specs.Value.{Value, item, entry, field_value}
use Rattle.bson_laws.specs.Recursive.{view}
use Rattle.bson_laws.specs.Unrolled as unrolled
use Rattle.bson_laws.specs.Unrolled.{Meanings, unrolled_fields, unrolled_parts, unrolled_variants, unrolled_content, in_table}
use Rattle.bson_laws.specs.Variants.{content_of}
use Rattle.bson_laws.specs.Views.{views, views_items, views_entries, views_key, named_unit, absent, views_at, are_named, all_known, views_fields, views_parts, views_variant, views_content}
use Rattle.bson_laws.proofs.Equations.{view_as, view_reference, view_definitions}
use Rattle.bson_laws.proofs.Fitted.{bytes_eq-refl, bytes_same}
use Rattle.bson_laws.proofs.Unrolling.{fields_named}
use Rattle.bson_laws.specs.Named.{has}
use Rattle.bson_evolve_laws.specs.Placed.{placed, peel}
use Rattle.bson_evolve_laws.proofs.Layer.{AllTrees, AllPairs, IsOptional, HoldsAt, KeysIn, KeysHold, loose, Either, PartsAt, FieldsAt, ContentAt, VariantAt, IsOpen, Layer}
use Rattle.bson_evolve_laws.proofs.Olds.{unit_kept}
use Rattle.bson_evolve_laws.proofs.Peels.{IsAround, IsPart, peeled}
use Rattle.bson_evolve_laws.proofs.Somes.{mapped, both_some, then_some, from_mapped}

-- the part has a view of the tree
abbrev pub Sees : Fields → Form → Tree → Type 0
Sees h s t = IsSome (view h s t)

-- ---- what is seen through

pub sees_peel : (h : Fields) (s : Form) → IsPart h s → (t : Tree) → Sees (peel (placed h s)).around (peel (placed h s)).form t → Sees h s t
sees_peel =
    peeled (λ h s q. (t : Tree) → Sees q.around q.form t → Sees h s t) (λ h s p t v. v) (λ h n s q p c t v. mapped (value.newtype n) (view h s t) (c t v)) (λ h s q p c t v. c t v)
    (λ h k s q p c t v. subst IsSome (sym (view_definitions h k s t)) (c t v)) (λ h n s q p e c t v. subst IsSome (sym (view_reference h n s t p.around.table e)) (c t v))

-- ---- names and keys

same_swap : (xs ys : Utf8) → bytes_eq xs ys ≡ true → bytes_eq ys xs ≡ true
same_swap xs ys e = subst (λ z. bytes_eq z xs ≡ true) (bytes_same xs ys e) (bytes_eq-refl xs)

named : (fs : Fields) (key : Utf8) → has fs key ≡ true → has_field key fs ≡ true
named no_fields key e = absurd (let none : false ≡ true = e in cc)
named (field n s fs) key e = by_case (bytes_eq n key) refl e (λ i. named fs key i) where
  or_right : (a b : Bool) → b ≡ true → (a || b) ≡ true
  or_right true b i = refl
  or_right false b i = i

  by_case : (b : Bool) → bytes_eq n key ≡ b → (b || has fs key) ≡ true → (has fs key ≡ true → has_field key fs ≡ true) → (bytes_eq key n || has_field key fs) ≡ true
  by_case true is i others = ap (λ b. b || has_field key fs) (same_swap n key is)
  by_case false is i others = or_right (bytes_eq key n) (has_field key fs) (others i)

known : (m : ℕ) (g : Meanings) (fs : Fields) (ps : Pairs) → KeysIn ps fs → are_named (unrolled_fields m fs g) ps ≡ true
known m g fs no_pairs k = refl
known m g fs (pair key t ps) k =
    ap (λ names. has_name key names && are_named (unrolled_fields m fs g) ps) (fields_named m fs g)
    ∙ ap (λ b. b && are_named (unrolled_fields m fs g) ps) (named fs key k.0)
    ∙ known m g fs ps k.1

all_seen : (m : ℕ) (g : Meanings) (u : UnknownFields) (fs : Fields) (ps : Pairs) → KeysHold loose u ps fs → all_known u (unrolled_fields m fs g) ps ≡ true
all_seen m g dropped fs ps k = refl
all_seen m g denied fs ps k = known m g fs ps k

if_known : (b : Bool) (o : Option Value) → b ≡ true → IsSome o → IsSome (cond b o None)
if_known true o e h = h
if_known false o e h = absurd (let both : false ≡ true = e in cc)

unit_here : (name : Utf8) (o : Option Content) → o ≡ Some unit_content → IsSome (named_unit name o)
unit_here name o e = subst (λ x. IsSome (named_unit name x)) (sym e) refl

none_there : {P : Type 0} → IsSome {T = Value} None → P
none_there e = absurd cc

unit_named : (name : Utf8) (o : Option Content) → IsSome (named_unit name o) → o ≡ Some unit_content
unit_named name (Some unit_content) h = refl
unit_named name o h = none_there h

key_seen : (m : ℕ) (g : Meanings) (key : Form) (name : Utf8) → IsSome (views_key key name) → IsSome (views_key (unrolled.unrolled m key g) name)
key_seen m g (leaf l) name h = h
key_seen m g (enumeration vs) name h = unit_here name (content_of (unrolled_variants m vs g) name) (unit_kept m g vs name (unit_named name (content_of vs name) h))
key_seen m g s name h = none_there h

chosen : (b : Bool) (A B : Type 0) (x y : Option Value) → Either b A B → (A → IsSome x) → (B → IsSome y) → IsSome (cond b x y)
chosen true A B x y h f g = f h
chosen false A B x y h f g = g h

-- ---- one layer

module _ (h : Fields) (around : IsAround h) where
  abbrev K : Form → Tree → Type 0
  K s t = Sees h s t

  abbrev names : ℕ → Meanings
  names m = unrolled.names_in m h

  inner : (m : ℕ) (s : Form) (t : Tree) → IsShape s → suc (depth t) ≤ m → K s t → IsSome (views (in_table m h s) t)
  inner m s t shape le v = subst IsSome (sym (view_as m h s t around.table shape le)) v

  items_seen : (m : ℕ) (s : Form) → IsShape s → (ts : Trees) → suc (trees_depth ts) ≤ m → AllTrees (K s) ts → IsSome (views_items (views (in_table m h s)) ts)
  items_seen m s shape no_trees le v = refl
  items_seen m s shape (tree t ts) le v =
      both_some item (views (in_table m h s) t) (views_items (views (in_table m h s)) ts) (inner m s t shape (omega (arith, le)) v.0) (items_seen m s shape ts (omega (arith, le)) v.1)

  entries_seen : (m : ℕ) (key s : Form) → IsShape s → (ps : Pairs) → suc (pairs_depth ps) ≤ m → AllPairs (λ k. IsSome (views_key key k)) (K s) ps
      → IsSome (views_entries (views_key (in_table m h key)) (views (in_table m h s)) ps)
  entries_seen m key s shape no_pairs le v = refl
  entries_seen m key s shape (pair n t ps) le v =
      then_some entry (views_key (in_table m h key) n) (views (in_table m h s) t) (views_entries (views_key (in_table m h key)) (views (in_table m h s)) ps) (key_seen m (names m) key n v.0)
      (inner m s t shape (omega (arith, le)) v.1) (entries_seen m key s shape ps (omega (arith, le)) v.2)

  parts_seen : (m : ℕ) (qs : Parts) → AreParts qs → (ts : Trees) → suc (trees_depth ts) ≤ m → PartsAt K qs ts → IsSome (views_parts (unrolled_parts m qs (names m)) ts)
  parts_seen m no_parts shapes no_trees le v = refl
  parts_seen m (part s qs) shapes (tree t ts) le v =
      both_some item (views (in_table m h s) t) (views_parts (unrolled_parts m qs (names m)) ts) (inner m s t shapes.0 (omega (arith, le)) v.0) (parts_seen m qs shapes.1 ts (omega (arith, le)) v.1)
  parts_seen m no_parts shapes (tree t ts) le v = absurd v
  parts_seen m (part s qs) shapes no_trees le v = absurd v

  -- what is at a key is no deeper than the document
  abbrev IsWithin : Option Tree → ℕ → Type 0
  IsWithin None d = Unit {0}
  IsWithin (Some t) d = depth t ≤ d

  found_within : (key : Utf8) (ps : Pairs) (d : ℕ) → pairs_depth ps ≤ d → IsWithin (lookup key ps) d
  found_within key no_pairs d w = tt
  found_within key (pair name t ps) d w = by_case (bytes_eq key name) (found_within key ps d (omega (arith, w))) where
    by_case : (b : Bool) → IsWithin (lookup key ps) d → IsWithin (cond b (Some t) (lookup key ps)) d
    by_case true i = omega (arith, w)
    by_case false i = i

  absent_seen : (m : ℕ) (s : Form) → IsOptional s → IsSome (absent {T = Utf8} (in_table m h s))
  absent_seen m (optional s) v = refl
  absent_seen m s v = absurd v

  at_seen : (m d : ℕ) (s : Form) → IsShape s → suc d ≤ m → (o : Option Tree) → IsWithin o d → HoldsAt (K s) (IsOptional s) o → IsSome (views_at (views (in_table m h s)) (absent (in_table m h s)) o)
  at_seen m d s shape le None w v = absent_seen m s v
  at_seen m d s shape le (Some t) w v = inner m s t shape (omega (arith, le, w)) v

  fields_seen : (m : ℕ) (fs : Fields) → AreShapes fs → (ps : Pairs) → suc (pairs_depth ps) ≤ m → FieldsAt loose K fs ps → IsSome (views_fields (unrolled_fields m fs (names m)) ps)
  fields_seen m no_fields shapes ps le v = refl
  fields_seen m (field n s fs) shapes ps le v =
      both_some (field_value n) (views_at (views (in_table m h s)) (absent (in_table m h s)) (lookup n ps)) (views_fields (unrolled_fields m fs (names m)) ps)
      (at_seen m (pairs_depth ps) s shapes.1 le (lookup n ps) (found_within n ps (pairs_depth ps) (omega arith)) v.0) (fields_seen m fs shapes.2 ps le v.1)

  content_seen : (m : ℕ) (name : Utf8) (c : Content) → IsContent c → (t : Tree) → suc (depth t) ≤ m → ContentAt loose K c t → IsSome (views_content name (unrolled_content m c (names m)) t)
  content_seen m name (newtype_content s) shape t le v = mapped (value.newtype_variant name) (views (in_table m h s) t) (inner m s t shape le v)
  content_seen m name (tuple_content qs) shapes (array ts) le v = mapped (value.tuple_variant name) (views_parts (unrolled_parts m qs (names m)) ts) (parts_seen m qs shapes ts (omega (arith, le)) v)
  content_seen m name (struct_content fs) shapes (document ps) le v =
      mapped (value.structure_variant name) (views_fields (unrolled_fields m fs (names m)) ps) (fields_seen m fs shapes.1 ps (omega (arith, le)) v.0)
  content_seen m name c shape t le v = absurd v

  variant_seen : (m : ℕ) (vs : Variants) → AreVariants vs → (key : Utf8) (t : Tree) → suc (depth t) ≤ m → VariantAt loose K vs key t → IsSome (views_variant (unrolled_variants m vs (names m)) key t)
  variant_seen m no_variants shapes key t le v = absurd v
  variant_seen m (variant n c vs) shapes key t le v =
      chosen (bytes_eq n key) (ContentAt loose K c t) (VariantAt loose K vs key t) (views_content n (unrolled_content m c (names m)) t) (views_variant (unrolled_variants m vs (names m)) key t) v
      (λ k. content_seen m n c shapes.1 t le k) (λ k. variant_seen m vs shapes.2 key t le k)

  layer_seen : (s : Form) (t : Tree) → IsPart h s → Layer loose K s t → K s t
  layer_seen (leaf l) t p v = v
  layer_seen (optional s) null p v = refl
  layer_seen (optional s) t p v = mapped value.some (view h s t) v
  layer_seen (unit_structure n) null p v = refl
  layer_seen (sequence s) (array ts) p v =
      let m = suc (suc (trees_depth ts)) in
      mapped value.sequence (views_items (views (in_table m h s)) ts) (items_seen m s p.shape.1 ts (omega arith) v)
  layer_seen (map key s) (document ps) p v =
      let m = suc (suc (pairs_depth ps)) in
      mapped value.map (views_entries (views_key (in_table m h key)) (views (in_table m h s)) ps) (entries_seen m key s p.shape.3 ps (omega arith) v)
  layer_seen (tuple qs) (array ts) p v =
      let m = suc (suc (trees_depth ts)) in
      mapped value.tuple (views_parts (unrolled_parts m qs (names m)) ts) (parts_seen m qs p.shape.1 ts (omega arith) v)
  layer_seen (tuple_structure n qs) (array ts) p v =
      let m = suc (suc (trees_depth ts)) in
      mapped (value.tuple_structure n) (views_parts (unrolled_parts m qs (names m)) ts) (parts_seen m qs p.shape.2 ts (omega arith) v)
  layer_seen (structure u n fs) (document ps) p v =
      let m = suc (suc (pairs_depth ps)) in
      if_known (all_known u (unrolled_fields m fs (names m)) ps) (option_map (value.structure n) (views_fields (unrolled_fields m fs (names m)) ps)) (all_seen m (names m) u fs ps v.1)
      (mapped (value.structure n) (views_fields (unrolled_fields m fs (names m)) ps) (fields_seen m fs p.shape.1 ps (omega arith) v.0))
  layer_seen (enumeration vs) (string n) p v = unit_here n (content_of (unrolled_variants 1 vs (names 1)) n) (unit_kept 1 (names 1) vs n v)
  layer_seen (enumeration vs) (document (pair n t no_pairs)) p v =
      let m = suc (depth (document (pair n t no_pairs))) in
      variant_seen m vs p.shape.1 n t (omega arith) v
  layer_seen s t p v = absurd v

-- where each part of the tree has a view at the part of the form, the tree has one
pub sees_in : (h : Fields) (s : Form) (t : Tree) → IsPart h s → Layer loose (Sees h) s t → Sees h s t
sees_in h s t p v = layer_seen h p.around s t p v

pub sees_out : (h : Fields) (s : Form) (t : Tree) → IsOpen s → Sees h s t → Layer loose (Sees h) s t
sees_out h (leaf l) t o v = v
sees_out h (optional s) null o v = tt
sees_out h (optional s) t o v = from_mapped value.some (view h s t) v
sees_out h (unit_structure n) null o v = tt
sees_out h (unit_structure n) t o v = none_there v
sees_out h s t o v = absurd o
