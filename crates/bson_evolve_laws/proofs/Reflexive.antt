-- A plain shape is compatible with itself: a part and the same part under options are a relation that is closed under the rows.
use Rattle.std.proofs.Common.{◌≡◌, ℕ, zero, suc, ℤ, Bool, true, false, cond, List, [], ◌∷◌, ◌++◌, Option, Some, None, refl, ap, sym, subst, ◌∙◌, arith}
use Rattle.std.specs.Prelude.{◌||◌, ◌&&◌, int_le, option_map, option_and_then}
use Rattle.std.specs.Str.{bytes_eq}
use Rattle.std.proofs.lemmas.Int.{ints}
use Rattle.bson_kinds.specs.Text.{Utf8}
use Rattle.bson_shape.specs.Form.{dropped, denied, Form, leaf, optional, lossy, sequence, newtype, unit_structure, map, tuple, tuple_structure, structure, enumeration, reference, definitions, Fields, no_fields, field, Parts, no_parts, part, Content, unit_content, newtype_content, tuple_content, struct_content, Variants, no_variants, variant}
use Rattle.bson_shape.specs.Makers.{has_name, has_repeat, field_names, variant_names, is_unit, are_units, IsShape, AreShapes, AreParts, AreVariants, IsContent}
use Rattle.bson_shape.specs.declared.leaf.Leaf.{Leaf}
use Rattle.bson_values.specs.Refusal.{Path, at_key, at_index}
use Rattle.bson_values.specs.Value.{IntegerType, least, greatest}
use Rattle.bson_laws.specs.Leaves.{LeafKind, anything, ignored, numbers, texts, units, of_kind, trees, documents, extended_values, raw_documents, raw_arrays, raw_values, leaf_kind}
use Rattle.bson_laws.specs.Plain.{IsKept, IsPlainKey, IsPlain, IsPlainIn, AreFieldsPlainIn, ArePartsPlainIn, AreVariantsPlainIn, IsContentPlainIn}
use Rattle.bson_laws.specs.Variants.{content_of}
use Rattle.bson_laws.proofs.DatumNormal.{own_kind}
use Rattle.bson_laws.proofs.Fitted.{bytes_eq-refl}
use Rattle.bson_evolve_laws.specs.Compatible.{Meets, Met, RowMeets, IsCompatible}
use Rattle.bson_laws.specs.Named.{form_of, has}
use Rattle.bson_evolve_laws.specs.Placed.{Placed, placed, peel}
use Rattle.bson_evolve_laws.specs.Rows.{Step, step, each_value, Answer, top, lies_in, is_free, leaf_in, is_texts, is_units, field_row, struct_row, are_known, parts_row, is_unit_name, names_in, keys_pass, content_row, enum_row, and_also, to_leaf, to_optional, row}
use Rattle.bson_evolve_laws.proofs.Closed.{closed_passing}
use Rattle.bson_evolve_laws.proofs.Compatible.{whole_part}
use Rattle.bson_evolve_laws.proofs.Peels.{IsPeeled, IsAround, IsPart, peel_is, peel_part}

-- what is peeled is what it is, seen through
stays : (h : Fields) (s : Form) → IsPeeled s → peel (placed h s) ≡ placed h s
stays h (newtype n s) p = absurd p
stays h (lossy s) p = absurd p
stays h (definitions k s) p = absurd p
stays h (reference n) p = absurd p
stays h s p = refl

-- the second part is the first one under so many options
abbrev UnderTo : ℕ → Placed → Placed → Type 0
UnderTo zero a b = peel b ≡ peel a
UnderTo (suc n) a b = (g : Fields) × (y : Form) × (peel b ≡ placed g (optional y)) × UnderTo n a (placed g y)

-- the part, and itself under some options
record IsUnder (a b : Placed) : Type 0 where
  is : IsPart a.around a.form
  count : ℕ
  under : UnderTo count a b

under_peel : (n : ℕ) (a b : Placed) → peel (peel a) ≡ peel a → UnderTo n a b → UnderTo n (peel a) b
under_peel zero a b e u = u ∙ sym e
under_peel (suc n) a b e u = (u.0, u.1, u.2, under_peel n a (placed u.0 u.1) e u.3)

-- what is under options is so without its own option, under one more
unwrap : (n : ℕ) (a b : Placed) (h : Fields) (x : Form) → peel a ≡ placed h (optional x) → UnderTo n a b → UnderTo (suc n) (placed h x) b
unwrap zero a b h x e u = (h, x, u ∙ e, refl)
unwrap (suc n) a b h x e u = (u.0, u.1, u.2, unwrap n a (placed u.0 u.1) h x e u.3)

-- ---- leaves

lies_in_itself : (t : IntegerType) → lies_in t t ≡ true
lies_in_itself t = both (int_le (least t) (least t)) (int_le (greatest (top t)) (greatest (top t))) (le_self (least t)) (le_self (greatest (top t)))
  where
    both : (a b : Bool) → a ≡ true → b ≡ true → (a && b) ≡ true
    both a b e f = ap (λ c. c && b) e ∙ f

    le_self : (n : ℤ) → int_le n n ≡ true
    le_self n = grind (arith, ints)

module _ (R : Form → Form → Type 0) where
  if_true : (b : Bool) → b ≡ true → Met R (cond b (Some []) None)
  if_true true e = tt
  if_true false e = absurd (let both : false ≡ true = e in cc)

  leaf_self : (l : Leaf) (k : LeafKind) → leaf_kind l ≡ k → IsKept k → Met R (to_leaf (leaf l) (leaf l) k)
  leaf_self l (extended_values trees) e p = tt
  leaf_self l (extended_values documents) e p = subst (λ j. Met R (cond (leaf_in j (extended_values documents)) (Some []) None)) (sym e) tt
  leaf_self l anything e p = subst (λ j. Met R (cond (is_free j) (Some []) None)) (sym e) tt
  leaf_self l units e p = subst (λ j. Met R (cond (is_units j) (Some []) None)) (sym e) tt
  leaf_self l texts e p = subst (λ j. Met R (cond (leaf_in j texts) (Some []) None)) (sym e) tt
  leaf_self l ignored e p = absurd p
  leaf_self l raw_documents e p = absurd p
  leaf_self l raw_arrays e p = absurd p
  leaf_self l raw_values e p = absurd p
  leaf_self l k e p = subst (λ j. Met R (cond (leaf_in j k) (Some []) None)) (sym e) (kind_self k p)
    where
      kind_self : (k : LeafKind) → IsKept k → Met R (cond (leaf_in k k) (Some []) None)
      kind_self (numbers t) p = if_true (lies_in t t) (lies_in_itself t)
      kind_self (extended_values (of_kind k)) p = if_true _ (own_kind k)
      kind_self (extended_values k) p = tt
      kind_self ignored p = absurd p
      kind_self raw_documents p = absurd p
      kind_self raw_arrays p = absurd p
      kind_self raw_values p = absurd p
      kind_self k p = tt

-- ---- names that are found

-- each field of the first list is the first of its name in the second one
abbrev AllFound : Fields → Fields → Type 0
AllFound no_fields fs = Unit {0}
AllFound (field n y gs) fs = (form_of fs n ≡ Some y) × AllFound gs fs

or_false : (a b : Bool) → (a || b) ≡ false → (a ≡ false) × (b ≡ false)
or_false true b e = absurd (let both : true ≡ false = e in cc)
or_false false b e = (refl, e)

found_more : (gs fs : Fields) (n : Utf8) (y : Form) → has_name n (field_names gs) ≡ false → AllFound gs fs → AllFound gs (field n y fs)
found_more no_fields fs n y e a = tt
found_more (field m z gs) fs n y e a =
    let r = or_false (bytes_eq n m) (has_name n (field_names gs)) e in
    (ap (λ b. cond b (Some y) (form_of fs m)) r.0 ∙ a.0, found_more gs fs n y r.1 a.1)

found_here : (n : Utf8) (y : Form) (fs : Fields) → form_of (field n y fs) n ≡ Some y
found_here n y fs = ap (λ b. cond b (Some y) (form_of fs n)) (bytes_eq-refl n)

all_found : (fs : Fields) → has_repeat (field_names fs) ≡ false → AllFound fs fs
all_found no_fields e = tt
all_found (field n y fs) e =
    let r = or_false (has_name n (field_names fs)) (has_repeat (field_names fs)) e in
    (found_here n y fs, found_more fs fs n y r.0 (all_found fs r.1))

abbrev AllContents : Variants → Variants → Type 0
AllContents no_variants ws = Unit {0}
AllContents (variant n c vs) ws = (content_of ws n ≡ Some c) × AllContents vs ws

contents_more : (vs ws : Variants) (n : Utf8) (c : Content) → has_name n (variant_names vs) ≡ false → AllContents vs ws → AllContents vs (variant n c ws)
contents_more no_variants ws n c e a = tt
contents_more (variant m d vs) ws n c e a =
    let r = or_false (bytes_eq n m) (has_name n (variant_names vs)) e in
    (ap (λ b. cond b (Some c) (content_of ws m)) r.0 ∙ a.0, contents_more vs ws n c r.1 a.1)

all_contents : (vs : Variants) → has_repeat (variant_names vs) ≡ false → AllContents vs vs
all_contents no_variants e = tt
all_contents (variant n c vs) e =
    let r = or_false (has_name n (variant_names vs)) (has_repeat (variant_names vs)) e in
    (ap (λ b. cond b (Some c) (content_of vs n)) (bytes_eq-refl n), contents_more vs vs n c r.0 (all_contents vs r.1))

and_parts : (a b : Bool) → (a && b) ≡ true → (a ≡ true) × (b ≡ true)
and_parts true b e = (refl, e)
and_parts false b e = absurd (let both : false ≡ true = e in cc)

unit_name : (c : Content) → is_unit c ≡ true → is_unit_name (Some c) ≡ true
unit_name unit_content e = refl
unit_name c e = absurd (let both : false ≡ true = e in cc)

names_self : (vs ws : Variants) → are_units vs ≡ true → AllContents vs ws → names_in vs ws ≡ true
names_self no_variants ws e a = refl
names_self (variant n c vs) ws e a =
    let r = and_parts (is_unit c) (are_units vs) e in
    ap (λ b. b && names_in vs ws) (ap is_unit_name a.0 ∙ unit_name c r.0) ∙ names_self vs ws r.1 a.1

keys_self : (k : Form) → IsPlainKey k → IsShape k → keys_pass k k ≡ true
keys_self (leaf l) p s = ap is_texts p
keys_self (enumeration vs) p s = names_self vs vs p (all_contents vs s.0.distinct)
keys_self k p s = absurd p

named_more : (gs fs : Fields) (n : Utf8) (y : Form) → are_known gs fs ≡ true → are_known gs (field n y fs) ≡ true
named_more no_fields fs n y e = refl
named_more (field m z gs) fs n y e =
    let r = and_parts (has fs m) (are_known gs fs) e in
    ap (λ b. b && are_known gs (field n y fs)) (or_right (bytes_eq n m) (has fs m) r.0) ∙ named_more gs fs n y r.1
  where
    or_right : (a b : Bool) → b ≡ true → (a || b) ≡ true
    or_right true b i = refl
    or_right false b i = i

known_self : (fs : Fields) → are_known fs fs ≡ true
known_self no_fields = refl
known_self (field n y fs) = ap (λ b. (b || has fs n) && are_known fs (field n y fs)) (bytes_eq-refl n) ∙ named_more fs fs n y (known_self fs)

-- ---- a row of a part with itself

module _ (h : Fields) (around : IsAround h) where
  abbrev R : Form → Form → Type 0
  R x y = IsUnder (placed h x) (placed h y)

  self : (s : Form) → IsShape s → IsPlainIn h s → R s s
  self s shape plain = record { is = record { around = around; shape = shape; plain = plain }; count = 0; under = refl }

  one_more : (path : Path) (n : Utf8) (o : Option Form) (y : Form) (r : Answer) → o ≡ Some y → R y y → Met R r → Met R (option_and_then (field_row path n o y) r)
  one_more path n None y r e p m = absurd (let none : None ≡ Some y = e in cc)
  one_more path n (Some x) y None e p m = absurd m
  one_more path n (Some x) y (Some rest) e p m = (subst (λ z. R z y) (same y x e) p, m) where
    same : (y x : Form) → Some x ≡ Some y → y ≡ x
    same y x i = sym cc

  fields_self : (path : Path) (fs gs : Fields) → AllFound gs fs → AreShapes gs → AreFieldsPlainIn h gs → Met R (struct_row path fs gs)
  fields_self path fs no_fields a shapes plain = tt
  fields_self path fs (field n y gs) a shapes plain =
      one_more path n (form_of fs n) y (struct_row path fs gs) a.0 (self y shapes.1 plain.1) (fields_self path fs gs a.1 shapes.2 plain.2)

  item_more : (s : Step) (r : Answer) → R s.old s.new → Met R r → Met R (option_map (λ rest. s ∷ rest) r)
  item_more s None p m = absurd m
  item_more s (Some rest) p m = (p, m)

  parts_self : (path : Path) (i : ℕ) (ps : Parts) → AreParts ps → ArePartsPlainIn h ps → Met R (parts_row path i ps ps)
  parts_self path i no_parts shapes plain = tt
  parts_self path i (part s ps) shapes plain =
      item_more (step (path ++ (at_index i ∷ [])) s s) (parts_row path (suc i) ps ps) (self s shapes.0 plain.0) (parts_self path (suc i) ps shapes.1 plain.1)

  content_self : (n : Utf8) (c : Content) → IsContent c → IsContentPlainIn h c → Met R (content_row n c (Some c))
  content_self n unit_content shape plain = tt
  content_self n (newtype_content s) shape plain = (self s shape plain, tt)
  content_self n (tuple_content ps) shape plain = parts_self (at_key n ∷ []) 0 ps shape plain
  content_self n (struct_content fs) shape plain = fields_self (at_key n ∷ []) fs fs (all_found fs shape.0) shape.1 plain

  all_steps : (xs rest : List Step) → Meets R xs → Meets R rest → Meets R (xs ++ rest)
  all_steps [] rest a b = b
  all_steps (x ∷ xs) rest a b = (a.0, all_steps xs rest a.1 b)

  both_met : (o r : Answer) → Met R o → Met R r → Met R (and_also o r)
  both_met None r a b = absurd a
  both_met (Some ss) None a b = absurd b
  both_met (Some ss) (Some rest) a b = all_steps ss rest a b

  variants_self : (vs ws : Variants) → AllContents vs ws → AreVariants vs → AreVariantsPlainIn h vs → Met R (enum_row vs ws)
  variants_self no_variants ws a shapes plain = tt
  variants_self (variant n c vs) ws a shapes plain =
      both_met (content_row n c (content_of ws n)) (enum_row vs ws) (subst (λ o. Met R (content_row n c o)) (sym a.0) (content_self n c shapes.1 plain.1))
      (variants_self vs ws a.1 shapes.2 plain.2)

  when_met : (b : Bool) (o : Answer) → b ≡ true → Met R o → Met R (cond b o None)
  when_met true o e m = m
  when_met false o e m = absurd (let both : false ≡ true = e in cc)

  row_self : (s : Form) → IsPart h s → IsPeeled s → Met R (row s s)
  row_self (leaf l) p q = leaf_self R l (leaf_kind l) refl p.plain
  row_self (optional s) p q =
      (record { is = record { around = around; shape = p.shape.1; plain = p.plain }; count = 1; under = (h, s, refl, refl) }, tt)
  row_self (unit_structure n) p q = tt
  row_self (sequence s) p q = (self s p.shape.1 p.plain, tt)
  row_self (map k s) p q = when_met (keys_pass k k) (each_value s s) (keys_self k p.plain.0 p.shape.2) (self s p.shape.3 p.plain.2, tt)
  row_self (tuple ps) p q = parts_self [] 0 ps p.shape.1 p.plain
  row_self (tuple_structure n ps) p q = parts_self [] 0 ps p.shape.2 p.plain
  row_self (structure dropped n fs) p q = fields_self [] fs fs (all_found fs p.shape.0.distinct) p.shape.1 p.plain.1
  row_self (structure denied n fs) p q = when_met (are_known fs fs) (struct_row [] fs fs) (known_self fs) (fields_self [] fs fs (all_found fs p.shape.0.distinct) p.shape.1 p.plain.1)
  row_self (enumeration vs) p q = variants_self vs vs (all_contents vs p.shape.0.distinct) p.shape.1 p.plain
  row_self (newtype n s) p q = absurd q
  row_self (lossy s) p q = absurd q
  row_self (definitions k s) p q = absurd q
  row_self (reference n) p q = absurd q
  row_self s p q = absurd p.plain

-- ---- a row of a part with itself under options

abbrev AtBoth : Placed → Fields → Form → Form → Type 0
AtBoth a g x z = IsUnder (placed a.around x) (placed g z)

under_row : (a : Placed) (g : Fields) (y : Form) (n : ℕ) → IsPart a.around a.form → IsPeeled a.form → UnderTo n a (placed g y) → Met (λ u v. IsUnder (placed a.around u) (placed g v)) (to_optional a.form y)
under_row a g y n p q u = by_form a.form refl q where
  here : (s : Form) → a.form ≡ s → AtBoth a g s y
  here s e = subst (λ x. AtBoth a g x y) e (record { is = p; count = n; under = u })

  unit_or : (l : Leaf) (b : Bool) → AtBoth a g (leaf l) y → Met (AtBoth a g) (cond b (Some []) (Some (step [] (leaf l) y ∷ [])))
  unit_or l true k = tt
  unit_or l false k = (k, tt)

  inner : (x : Form) → a.form ≡ optional x → AtBoth a g x (optional y)
  inner x e =
      record {
        is = record { around = p.around; shape = (subst IsShape e p.shape).1; plain = subst (IsPlainIn a.around) e p.plain };
        count = suc (suc n);
        under = (g, y, refl, unwrap n a (placed g y) a.around x (ap (λ s. peel (placed a.around s)) e) u);
      }

  by_form : (s : Form) → a.form ≡ s → IsPeeled s → Met (AtBoth a g) (to_optional s y)
  by_form (leaf l) e r = unit_or l (is_units (leaf_kind l)) (here (leaf l) e)
  by_form (optional x) e r = (inner x e, tt)
  by_form (unit_structure m) e r = tt
  by_form s e r = (here s e, tt)

-- ---- the relation is closed

closed : (a b : Placed) → IsUnder a b → RowMeets IsUnder (peel a) (peel b)
closed a b r = by_count r.count r.under where
  p : IsPart (peel a).around (peel a).form
  p = peel_part a.around a.form r.is

  q : IsPeeled (peel a).form
  q = peel_is a.around a.form r.is

  by_count : (n : ℕ) → UnderTo n a b → RowMeets IsUnder (peel a) (peel b)
  by_count zero u = subst (RowMeets IsUnder (peel a)) (sym u) (row_self (peel a).around p.around (peel a).form p q)
  by_count (suc n) u =
      subst (RowMeets IsUnder (peel a)) (sym u.2)
      (under_row (peel a) u.0 u.1 n p q (under_peel n a (placed u.0 u.1) (stays (peel a).around (peel a).form q) u.3))

pub reflexive : (s : Form) → IsShape s → IsPlain s → IsCompatible s s
reflexive s shape plain =
    closed_passing IsUnder closed (placed no_fields s) (placed no_fields s) (record { is = whole_part s shape plain; count = 0; under = refl })
