-- A pair that passes: the new form has a view of each tree of the old one, where this holds of the pairs that the row names.
use Rattle.std.proofs.Common.{◌≡◌, ℕ, suc, ◌+◌, ◌<◌, Bool, true, false, cond, List, [], ◌∷◌, ◌++◌, Option, Some, None, inl, inr, refl, ap, sym, subst, ◌∙◌, arith}
use Rattle.std.specs.Prelude.{IsSome, ◌⊎◌, ◌||◌, ◌&&◌, option_map, option_and_then}
use Rattle.std.specs.Str.{bytes_eq}
use Rattle.bson_base.specs.Pairs.{lookup}
use Rattle.bson_kinds.specs.Text.{Utf8}
use Rattle.bson_base.specs.Sound.{IsClean}
use Rattle.bson_base.specs.Tree.{Tree, string, document, array, null, Pairs, no_pairs, pair, Trees, no_trees, tree}
use Rattle.bson_shape.specs.Form.{UnknownFields, dropped, denied, Form, leaf, optional, sequence, unit_structure, map, tuple, tuple_structure, structure, enumeration, Fields, no_fields, field, Parts, no_parts, part, Content, unit_content, newtype_content, tuple_content, struct_content, Variants, no_variants, variant}
use Rattle.bson_shape.specs.Makers.{are_units}
use Rattle.bson_shape.specs.declared.leaf.Leaf.{Leaf}
use Rattle.bson_shape.specs.declared.leaf.Leaf.TheVariants.{Any, Bson}
use Rattle.bson_values.specs.Value as value
use Rattle.bson_values.specs.Value.{item, entry}
use Rattle.bson_values.specs.Refusal.{Path, at_key}
use Rattle.bson_laws.specs.Leaves.{LeafKind, anything, texts, units, trees, documents, extended_values, leaf_kind}
use Rattle.bson_laws.specs.Variants.{content_of}
use Rattle.bson_laws.specs.Views.{views_any, views_any_items, views_any_entries, views_leaf, views_leaf_key, views_key, named_unit, views_unit}
use Rattle.bson_laws.proofs.Fitted.{bytes_same}
use Rattle.bson_laws.specs.Named.{form_of, has}
use Rattle.bson_evolve_laws.proofs.Layer.{AllTrees, AllPairs, IsOptional, HoldsAt, KeysIn, KeysHold, loose, whole, Either, PartsAt, FieldsAt, ContentAt, VariantAt, IsOpen, Layer}
use Rattle.bson_evolve_laws.specs.Compatible.{Meets, Met}
use Rattle.bson_evolve_laws.specs.Rows.{Step, Answer, passes_if, and_also, field_row, struct_row, are_known, parts_row, each_part, each_field, is_texts, is_unit_name, names_in, fields_in, keys_pass, names_pass, content_row, enum_row, each_in_content, each_content, is_no_unit, no_units, to_any, is_units, to_unit, to_texts, to_document, to_leaf, to_optional, to_sequence, to_tuple, is_documents, to_map, to_struct, to_closed, to_enum, row}
use Rattle.bson_evolve_laws.proofs.Somes.{mapped, both_some}
use Rattle.bson_evolve_laws.proofs.Deep.{Deep, DeepTrees, DeepPairs, AllValues, deep_at, Found, found_all}
use Rattle.bson_evolve_laws.proofs.LeavesPass.{free_pass, leaf_pass}
use Rattle.bson_kinds.proofs.Apart.{no_some}

both_true : (a b : Bool) → (a && b) ≡ true → (a ≡ true) × (b ≡ true)
both_true true b e = (refl, e)
both_true false b e = absurd cc

by_name : {P : Type 0} (b c : Bool) → (b || c) ≡ true → (b ≡ true → P) → (c ≡ true → P) → P
by_name true c e f g = f refl
by_name false c e f g = g e

-- ---- keys

texts_is : (k : LeafKind) → is_texts k ≡ true → k ≡ texts
texts_is texts e = refl
texts_is k e = absurd cc

text_key : (k : LeafKind) (key : Utf8) → is_texts k ≡ true → IsSome (views_leaf_key k key)
text_key k key e = subst (λ j. IsSome (views_leaf_key j key)) (sym (texts_is k e)) refl

unit_name : (o : Option Content) → is_unit_name o ≡ true → o ≡ Some unit_content
unit_name (Some unit_content) e = refl
unit_name o e = absurd cc

unit_key : (ws : Variants) (key : Utf8) → is_unit_name (content_of ws key) ≡ true → IsSome (views_unit ws key)
unit_key ws key e = subst (λ o. IsSome (named_unit key o)) (sym (unit_name (content_of ws key) e)) refl

named_here : (name : Utf8) (o : Option Content) → IsSome (named_unit name o) → o ≡ Some unit_content
named_here name (Some unit_content) h = refl
named_here name o h = absurd cc

first_content : {P : Type 0} (b : Bool) (c d : Content) (o : Option Content) → cond b (Some c) o ≡ Some d → (b ≡ true → c ≡ d → P) → (o ≡ Some d → P) → P
first_content true c d o e f g = f refl cc
first_content false c d o e f g = g e

name_in : (vs ws : Variants) (key : Utf8) (c : Content) → names_in vs ws ≡ true → content_of vs key ≡ Some c → is_unit_name (content_of ws key) ≡ true
name_in no_variants ws key c n e = absurd (no_some e)
name_in (variant m d vs) ws key c n e =
    let b = both_true _ _ n in
    first_content (bytes_eq m key) d c (content_of vs key) e (λ is same. subst (λ k. is_unit_name (content_of ws k) ≡ true) (bytes_same m key is) b.0) (λ f. name_in vs ws key c b.1 f)

field_in : (fs : Fields) (ws : Variants) (key : Utf8) → fields_in fs ws ≡ true → has fs key ≡ true → is_unit_name (content_of ws key) ≡ true
field_in no_fields ws key n h = absurd cc
field_in (field m x fs) ws key n h =
    let b = both_true _ _ n in
    by_name (bytes_eq m key) (has fs key) h (λ is. subst (λ k. is_unit_name (content_of ws k) ≡ true) (bytes_same m key is) b.0) (λ f. field_in fs ws key b.1 f)

key_pass : (k l : Form) (key : Utf8) → keys_pass k l ≡ true → IsSome (views_key k key) → IsSome (views_key l key)
key_pass k (leaf l) key e h = text_key (leaf_kind l) key e
key_pass (enumeration vs) (enumeration ws) key e h = unit_key ws key (name_in vs ws key unit_content e (named_here key (content_of vs key) h))
key_pass k l key e h = absurd cc

name_pass : (fs : Fields) (l : Form) (key : Utf8) → names_pass fs l ≡ true → has fs key ≡ true → IsSome (views_key l key)
name_pass fs (leaf l) key e h = text_key (leaf_kind l) key e
name_pass fs (enumeration ws) key e h = unit_key ws key (field_in fs ws key e h)
name_pass fs l key e h = absurd cc

leaf_keys : (k : Leaf) (l : Form) (key : Utf8) → keys_pass (leaf k) l ≡ true → IsSome (views_key l key)
leaf_keys k (leaf m) key e = text_key (leaf_kind m) key e
leaf_keys k l key e = absurd cc

either_of : {C : Type 0} (b : Bool) (A B : Type 0) → Either b A B → (b ≡ true → A → C) → (B → C) → C
either_of true A B h f g = f refl h
either_of false A B h f g = g h

-- ---- the leaves that rows name

null_only : (k : LeafKind) (t : Tree) → is_units k ≡ true → IsSome (views_leaf k t) → t ≡ null
null_only units null e h = refl
null_only units t e h = absurd cc
null_only k t e h = absurd cc

documents_only : (k : LeafKind) → is_documents k ≡ true → k ≡ extended_values documents
documents_only (extended_values documents) e = refl
documents_only k e = absurd cc

-- the keys of what is written are the names of fields
whole_keys : (u : UnknownFields) (ps : Pairs) (fs : Fields) → KeysHold whole u ps fs → KeysIn ps fs
whole_keys dropped ps fs h = h
whole_keys denied ps fs h = h

-- each pair of the relation passes at this tree
abbrev pub PassingAt : (Form → Form → Type 0) → (H K : Form → Tree → Type 0) → Tree → Type 0
PassingAt R H K t = (x y : Form) → R x y → H x t → K y t

-- the trees of old forms and of new ones, which forms take from their parts
module _ (R : Form → Form → Type 0) (H K : Form → Tree → Type 0) (bson_H : (t : Tree) → H (leaf Bson) t) (out_K : (s : Form) (t : Tree) → IsOpen s → K s t → Layer loose K s t)
    (hides_o hides_n : Form → ℕ) (less_o : (s : Form) → hides_o s < hides_o (optional s)) (less_n : (s : Form) → hides_n s < hides_n (optional s)) (leaf_n : (l : Leaf) → hides_n (leaf l) ≡ 0) where
  abbrev Passing : Tree → Type 0
  Passing t = PassingAt R H K t

  -- and each with fewer options than these two
  abbrev PassingFewer : Form → Form → Tree → Type 0
  PassingFewer a b t = (x y : Form) → hides_o x + hides_n y < hides_o a + hides_n b → R x y → H x t → K y t

  -- ---- without a shape

  any_items : (ts : Trees) → AllTrees (K (leaf Any)) ts → IsSome (views_any_items ts)
  any_items no_trees h = refl
  any_items (tree t ts) h = both_some item (views_any t) (views_any_items ts) (out_K (leaf Any) t tt h.0) (any_items ts h.1)

  any_entries : (ps : Pairs) → AllValues (K (leaf Any)) ps → IsSome (views_any_entries ps)
  any_entries no_pairs h = refl
  any_entries (pair key t ps) h = both_some (entry (value.str key)) (views_any t) (views_any_entries ps) (out_K (leaf Any) t tt h.0) (any_entries ps h.1)

  any_array : (ts : Trees) → AllTrees (K (leaf Any)) ts → IsSome (views_any (array ts))
  any_array ts h = mapped value.sequence (views_any_items ts) (any_items ts h)

  any_document : (ps : Pairs) → AllValues (K (leaf Any)) ps → IsSome (views_any (document ps))
  any_document ps h = mapped value.map (views_any_entries ps) (any_entries ps h)

  any_variant : (n : Utf8) (t : Tree) → IsSome (views_any t) → IsSome (views_any (document (pair n t no_pairs)))
  any_variant n t h = mapped value.map (views_any_entries (pair n t no_pairs)) (both_some (entry (value.str n)) (views_any t) (views_any_entries no_pairs) h refl)

  met_if : (b : Bool) → Met R (passes_if b) → b ≡ true
  met_if true h = refl
  met_if false h = absurd h

  meets_both : (ss rest : List Step) → Meets R (ss ++ rest) → Meets R ss × Meets R rest
  meets_both [] rest h = (tt, h)
  meets_both (s ∷ ss) rest h = let r = meets_both ss rest h.1 in ((h.0, r.0), r.1)

  met_both : (o p : Answer) → Met R (and_also o p) → Met R o × Met R p
  met_both None p h = absurd h
  met_both (Some ss) None h = absurd h
  met_both (Some ss) (Some rest) h = meets_both ss rest h

  met_more : (s : Step) (o : Answer) → Met R (option_map (λ rest. s ∷ rest) o) → R s.old s.new × Met R o
  met_more s None h = absurd h
  met_more s (Some rest) h = h

  -- ---- items

  items_pass : (x y : Form) (ts : Trees) → R x y → DeepTrees Passing ts → AllTrees (H x) ts → AllTrees (K y) ts
  items_pass x y no_trees r d h = tt
  items_pass x y (tree t ts) r d h = (d.0 x y r h.0, items_pass x y ts r d.2 h.1)

  each_part_pass : (path : Path) (i : ℕ) (ps : Parts) (y : Form) (ts : Trees) → Meets R (each_part path i ps y) → DeepTrees Passing ts → PartsAt H ps ts → AllTrees (K y) ts
  each_part_pass path i no_parts y no_trees m d h = tt
  each_part_pass path i (part x ps) y (tree t ts) m d h = (d.0 x y m.0 h.0, each_part_pass path (suc i) ps y ts m.1 d.2 h.1)
  each_part_pass path i ps y ts m d h = absurd h

  parts_pass : (path : Path) (i : ℕ) (ps qs : Parts) (ts : Trees) → Met R (parts_row path i ps qs) → DeepTrees Passing ts → PartsAt H ps ts → PartsAt K qs ts
  parts_pass path i no_parts no_parts no_trees m d h = tt
  parts_pass path i (part x ps) (part y qs) (tree t ts) m d h =
      let r = met_more _ (parts_row path (suc i) ps qs) m in
      (d.0 x y r.0 h.0, parts_pass path (suc i) ps qs ts r.1 d.2 h.1)
  parts_pass path i no_parts (part y qs) ts m d h = absurd m
  parts_pass path i (part x ps) no_parts ts m d h = absurd m
  parts_pass path i ps qs ts m d h = absurd h

  -- ---- fields

  abbrev FieldMet : Option Form → Form → Type 0
  FieldMet None y = IsOptional y
  FieldMet (Some x) y = R x y

  met_named : (path : Path) (n : Utf8) (of : Option Form) (y : Form) (rest : List Step) → Met R (field_row path n of y rest) → FieldMet of y × Meets R rest
  met_named path n (Some x) y rest h = h
  met_named path n None (optional y) rest h = (tt, h)
  met_named path n None y rest h = absurd h

  met_field : (path : Path) (n : Utf8) (of : Option Form) (y : Form) (o : Answer) → Met R (option_and_then (field_row path n of y) o) → FieldMet of y × Met R o
  met_field path n of y None h = absurd h
  met_field path n of y (Some rest) h = met_named path n of y rest h

  first_form : {P : Type 0} (b : Bool) (x y : Form) (o : Option Form) → cond b (Some x) o ≡ Some y → (b ≡ true → x ≡ y → P) → (o ≡ Some y → P) → P
  first_form true x y o e f g = f refl cc
  first_form false x y o e f g = g e

  held_at : (fs : Fields) (ps : Pairs) (n : Utf8) (x : Form) → FieldsAt whole H fs ps → form_of fs n ≡ Some x → HoldsAt (H x) ⊥ (lookup n ps)
  held_at no_fields ps n x h e = absurd (no_some e)
  held_at (field m z fs) ps n x h e =
      first_form (bytes_eq m n) z x (form_of fs n) e
      (λ is same. subst (λ k. HoldsAt (H x) ⊥ (lookup k ps)) (bytes_same m n is) (subst (λ w. HoldsAt (H w) ⊥ (lookup m ps)) same h.0))
      (λ f. held_at fs ps n x h.1 f)

  first_tree : {P : Type 0} (b : Bool) (u t : Tree) (o : Option Tree) → cond b (Some u) o ≡ Some t → (b ≡ true → P) → (o ≡ Some t → P) → P
  first_tree true u t o e f g = f refl
  first_tree false u t o e f g = g e

  key_has : (ps : Pairs) (gs : Fields) (n : Utf8) (t : Tree) → KeysIn ps gs → lookup n ps ≡ Some t → has gs n ≡ true
  key_has no_pairs gs n t k e = absurd (no_some e)
  key_has (pair m u ps) gs n t k e = first_tree (bytes_eq n m) u t (lookup n ps) e (λ is. ap (has gs) (bytes_same n m is) ∙ k.0) (λ f. key_has ps gs n t k.1 f)

  none_has : (fs : Fields) (n : Utf8) → form_of fs n ≡ None → has fs n ≡ false
  none_has no_fields n e = refl
  none_has (field m y fs) n e = by (bytes_eq m n) e (none_has fs n)
    where
      by : (b : Bool) → cond b (Some y) (form_of fs n) ≡ None → (form_of fs n ≡ None → has fs n ≡ false) → (b || has fs n) ≡ false
      by true e f = absurd cc
      by false e f = f e

  clash : (b : Bool) → b ≡ true → b ≡ false → ⊥
  clash b e f = let both : true ≡ false = sym e ∙ f in cc

  field_pass : (y : Form) (of : Option Form) (o : Option Tree) → FieldMet of y → ((x : Form) → of ≡ Some x → HoldsAt (H x) ⊥ o)
      → ((t : Tree) → o ≡ Some t → of ≡ None → ⊥) → ((t : Tree) → o ≡ Some t → Passing t) → HoldsAt (K y) (IsOptional y) o
  field_pass y None None m f n d = m
  field_pass y None (Some t) m f n d = absurd (n t refl refl)
  field_pass y (Some x) None m f n d = absurd (f x refl)
  field_pass y (Some x) (Some t) m f n d = d t refl x y m (f x refl)

  struct_pass : (path : Path) (fs gs : Fields) (ps : Pairs) → Met R (struct_row path fs gs) → DeepPairs Passing ps → FieldsAt whole H fs ps → KeysIn ps fs → FieldsAt loose K gs ps
  struct_pass path fs no_fields ps m d h k = tt
  struct_pass path fs (field n y gs) ps m d h k =
      let r = met_field path n (form_of fs n) y (struct_row path fs gs) m in (
        field_pass y (form_of fs n) (lookup n ps) r.0 (λ x e. held_at fs ps n x h e) (λ t at none. clash (has fs n) (key_has ps fs n t k at) (none_has fs n none))
            (λ t at. deep_at Passing ps n t d at),
        struct_pass path fs gs ps r.1 d h k,
      )

  -- the form of the field of a name, with what is known of it
  abbrev FieldOf : Form → Pairs → Utf8 → Type 0
  FieldOf y ps key = (x : Form) × R x y × HoldsAt (H x) ⊥ (lookup key ps)

  field_of : (path : Path) (fs : Fields) (y : Form) (ps : Pairs) (key : Utf8) → Meets R (each_field path fs y) → FieldsAt whole H fs ps → has fs key ≡ true → FieldOf y ps key
  field_of path no_fields y ps key m h e = absurd cc
  field_of path (field n x fs) y ps key m h e =
      by_name (bytes_eq n key) (has fs key) e (λ is. subst (FieldOf y ps) (bytes_same n key is) (x, m.0, h.0)) (λ f. field_of path fs y ps key m.1 h.1 f)

  found_pass : (y : Form) (ps : Pairs) (key : Utf8) (t : Tree) → FieldOf y ps key → lookup key ps ≡ Some t → Passing t → K y t
  found_pass y ps key t f e d = d f.0 y f.1 (subst (HoldsAt (H f.0) ⊥) e f.2)

  each_field_pass : (path : Path) (fs : Fields) (y : Form) (qs ps : Pairs) → Meets R (each_field path fs y) → FieldsAt whole H fs ps → KeysIn qs fs → Found qs ps → DeepPairs Passing qs → AllValues (K y) qs
  each_field_pass path fs y no_pairs ps m h k f d = tt
  each_field_pass path fs y (pair key t qs) ps m h k f d =
      (found_pass y ps key t (field_of path fs y ps key m h k.0) f.0 d.0, each_field_pass path fs y qs ps m h k.1 f.1 d.2)

  -- ---- maps

  entries_pass : (k l x y : Form) (ps : Pairs) → keys_pass k l ≡ true → R x y → DeepPairs Passing ps → AllPairs (λ n. IsSome (views_key k n)) (H x) ps → AllPairs (λ n. IsSome (views_key l n)) (K y) ps
  entries_pass k l x y no_pairs e r d h = tt
  entries_pass k l x y (pair n t ps) e r d h = (key_pass k l n e h.0, d.0 x y r h.1, entries_pass k l x y ps e r d.2 h.2)

  values_pass : (k x y : Form) (ps : Pairs) → R x y → DeepPairs Passing ps → AllPairs (λ n. IsSome (views_key k n)) (H x) ps → AllValues (K y) ps
  values_pass k x y no_pairs r d h = tt
  values_pass k x y (pair n t ps) r d h = (d.0 x y r h.1, values_pass k x y ps r d.2 h.2)

  fields_map : (fs : Fields) (l y : Form) (ps : Pairs) → names_pass fs l ≡ true → KeysIn ps fs → AllValues (K y) ps → AllPairs (λ n. IsSome (views_key l n)) (K y) ps
  fields_map fs l y no_pairs e k h = tt
  fields_map fs l y (pair n t ps) e k h = (name_pass fs l n e k.0, h.0, fields_map fs l y ps e k.1 h.1)

  -- each value of a document at a map of texts
  document_map : (k : Leaf) (l y : Form) (ps : Pairs) → keys_pass (leaf k) l ≡ true → R (leaf Bson) y → DeepPairs Passing ps → AllPairs (λ n. IsSome (views_key l n)) (K y) ps
  document_map k l y no_pairs e r d = tt
  document_map k l y (pair n t ps) e r d = (leaf_keys k l n e, d.0 (leaf Bson) y r (bson_H t), document_map k l y ps e r d.2)

  met_when : (b : Bool) (o : Answer) → Met R (cond b o None) → (b ≡ true) × Met R o
  met_when true o h = (refl, h)
  met_when false o h = absurd h

  -- ---- enums

  content_any : (n : Utf8) (c : Content) (u : Tree) → Meets R (each_in_content n c (leaf Any)) → IsClean u → Passing u → Deep Passing u → ContentAt whole H c u → IsSome (views_any u)
  content_any n (newtype_content x) u m k p d h = out_K (leaf Any) u tt (p x (leaf Any) m.0 h)
  content_any n (tuple_content ps) (array ts) m k p d h = any_array ts (each_part_pass (at_key n ∷ []) 0 ps (leaf Any) ts m d h)
  content_any n (struct_content fs) (document ps) m k p d h = any_document ps (each_field_pass (at_key n ∷ []) fs (leaf Any) ps ps m h.0 (whole_keys dropped ps fs h.1) (found_all ps k) d)
  content_any n c u m k p d h = absurd h

  contents_any : (vs : Variants) (key : Utf8) (u : Tree) → Meets R (each_content vs (leaf Any)) → IsClean u → Passing u → Deep Passing u → VariantAt whole H vs key u → IsSome (views_any u)
  contents_any no_variants key u m k p d h = absurd h
  contents_any (variant n c vs) key u m k p d h =
      let r = meets_both (each_in_content n c (leaf Any)) (each_content vs (leaf Any)) m in
      either_of (bytes_eq n key) (ContentAt whole H c u) (VariantAt whole H vs key u) h (λ is j. content_any n c u r.0 k p d j) (λ j. contents_any vs key u r.1 k p d j)

  no_contents : (vs : Variants) (key : Utf8) (u : Tree) → are_units vs ≡ true → VariantAt whole H vs key u → ⊥
  no_contents no_variants key u e h = h
  no_contents (variant n unit_content vs) key u e h = either_of (bytes_eq n key) ⊥ (VariantAt whole H vs key u) h (λ is j. j) (λ j. no_contents vs key u e j)
  no_contents (variant n c vs) key u e h = absurd cc

  no_unit : (vs : Variants) (key : Utf8) → no_units vs ≡ true → content_of vs key ≡ Some unit_content → ⊥
  no_unit no_variants key e h = cc h
  no_unit (variant n c vs) key e h =
      let r = both_true _ _ e in
      first_content (bytes_eq n key) c unit_content (content_of vs key) h (λ is same. let both : false ≡ true = ap is_no_unit (sym same) ∙ r.0 in absurd cc) (λ f. no_unit vs key r.1 f)

  unit_row : (n : Utf8) (o : Option Content) → Met R (content_row n unit_content o) → o ≡ Some unit_content
  unit_row n (Some unit_content) m = refl
  unit_row n o m = absurd m

  enum_unit : (vs ws : Variants) (key : Utf8) → Met R (enum_row vs ws) → content_of vs key ≡ Some unit_content → content_of ws key ≡ Some unit_content
  enum_unit no_variants ws key m e = absurd (no_some e)
  enum_unit (variant n c vs) ws key m e =
      let r = met_both (content_row n c (content_of ws n)) (enum_row vs ws) m in
      first_content (bytes_eq n key) c unit_content (content_of vs key) e
      (λ is same. subst (λ k. content_of ws k ≡ Some unit_content) (bytes_same n key is) (unit_row n (content_of ws n) (subst (λ x. Met R (content_row n x (content_of ws n))) same r.0)))
      (λ f. enum_unit vs ws key r.1 f)

  -- the contents of the new variant, which has a view of the tree
  abbrev ContentOf : Option Content → Tree → Type 0
  ContentOf o u = (c : Content) × (o ≡ Some c) × ContentAt loose K c u

  content_pass : (n : Utf8) (c : Content) (o : Option Content) (u : Tree) → Met R (content_row n c o) → Passing u → Deep Passing u → ContentAt whole H c u → ContentOf o u
  content_pass n (newtype_content x) (Some (newtype_content y)) u m p d h = (newtype_content y, refl, p x y m.0 h)
  content_pass n (tuple_content ps) (Some (tuple_content qs)) (array ts) m p d h = (tuple_content qs, refl, parts_pass (at_key n ∷ []) 0 ps qs ts m d h)
  content_pass n (tuple_content ps) (Some (tuple_content qs)) u m p d h = absurd h
  content_pass n (struct_content fs) (Some (struct_content gs)) (document ps) m p d h = (struct_content gs, refl, (struct_pass (at_key n ∷ []) fs gs ps m d h.0 (whole_keys dropped ps fs h.1), tt))
  content_pass n (struct_content fs) (Some (struct_content gs)) u m p d h = absurd h
  content_pass n unit_content o u m p d h = absurd h
  content_pass n c o u m p d h = absurd m

  variant_holds : (vs : Variants) (name : Utf8) (c : Content) (t : Tree) → content_of vs name ≡ Some c → ContentAt loose K c t → VariantAt loose K vs name t
  variant_holds no_variants name c t e h = absurd cc
  variant_holds (variant n d vs) name c t e h = at (bytes_eq n name) e (λ f. variant_holds vs name c t f h)
    where
      at : (b : Bool) → cond b (Some d) (content_of vs name) ≡ Some c → (content_of vs name ≡ Some c → VariantAt loose K vs name t) → Either b (ContentAt loose K d t) (VariantAt loose K vs name t)
      at true e others = subst (λ x. ContentAt loose K x t) (same c d e) h
        where
          same : (c d : Content) → Some d ≡ Some c → c ≡ d
          same c d e = sym cc
      at false e others = others e

  enum_contents : (vs ws : Variants) (key : Utf8) (u : Tree) → Met R (enum_row vs ws) → Passing u → Deep Passing u → VariantAt whole H vs key u → VariantAt loose K ws key u
  enum_contents no_variants ws key u m p d h = absurd h
  enum_contents (variant n c vs) ws key u m p d h =
      let r = met_both (content_row n c (content_of ws n)) (enum_row vs ws) m in
      either_of (bytes_eq n key) (ContentAt whole H c u) (VariantAt whole H vs key u) h
      (λ is j.
      let f = content_pass n c (content_of ws n) u r.0 p d j in
      subst (λ k. VariantAt loose K ws k u) (bytes_same n key is) (variant_holds ws n f.0 u f.1 f.2))
      (λ j. enum_contents vs ws key u r.1 p d j)

  -- ---- by the new form

  some_null : (y : Form) (t : Tree) → K y t → Layer loose K (optional y) t
  some_null y null h = tt
  some_null y t h = h

  to_any_pass : (a : Form) (t : Tree) → IsClean t → Deep Passing t → PassingFewer a (leaf Any) t → Met R (to_any a) → Layer whole H a t → IsSome (views_any t)
  to_any_pass (leaf l) t c d p m h = free_pass (leaf_kind l) t (met_if _ m) h
  to_any_pass (optional x) null c d p m h = refl
  to_any_pass (optional x) t c d p m h = out_K (leaf Any) t tt (p x (leaf Any) (omega (arith, less_o x)) m.0 h)
  to_any_pass (unit_structure n) null c d p m h = refl
  to_any_pass (sequence x) (array ts) c d p m h = any_array ts (items_pass x (leaf Any) ts m.0 d h)
  to_any_pass (tuple ps) (array ts) c d p m h = any_array ts (each_part_pass [] 0 ps (leaf Any) ts m d h)
  to_any_pass (tuple_structure n ps) (array ts) c d p m h = any_array ts (each_part_pass [] 0 ps (leaf Any) ts m d h)
  to_any_pass (map k x) (document ps) c d p m h = any_document ps (values_pass k x (leaf Any) ps m.0 d h)
  to_any_pass (structure u n fs) (document ps) c d p m h = any_document ps (each_field_pass [] fs (leaf Any) ps ps m h.0 (whole_keys u ps fs h.1) (found_all ps c) d)
  to_any_pass (enumeration vs) (string n) c d p m h = refl
  to_any_pass (enumeration vs) (document (pair n u no_pairs)) c d p m h = any_variant n u (contents_any vs n u m c.2 d.0 d.1 h)
  to_any_pass a t c d p m h = absurd h

  to_unit_pass : (a b : Form) (t : Tree) → IsOpen b → PassingFewer a b t → Met R (to_unit a b) → Layer whole H a t → (t ≡ null) ⊎ Layer loose K b t
  to_unit_pass (leaf l) b t q p m h = inl (null_only (leaf_kind l) t (met_if _ m) h)
  to_unit_pass (optional x) b null q p m h = inl refl
  to_unit_pass (optional x) b t q p m h = inr (out_K b t q (p x b (omega (arith, less_o x)) m.0 h))
  to_unit_pass (unit_structure n) b null q p m h = inl refl
  to_unit_pass (unit_structure n) b t q p m h = absurd h
  to_unit_pass a b t q p m h = absurd m

  to_texts_pass : (a : Form) (t : Tree) → IsClean t → Met R (to_texts a) → Layer whole H a t → IsSome (views_leaf texts t)
  to_texts_pass (leaf l) t c m h = leaf_pass (leaf_kind l) texts t c (met_if _ m) h
  to_texts_pass (enumeration vs) (string n) c m h = refl
  to_texts_pass (enumeration vs) (document (pair n u no_pairs)) c m h = absurd (no_contents vs n u (met_if _ m) h)
  to_texts_pass (enumeration vs) t c m h = absurd h
  to_texts_pass a t c m h = absurd m

  to_document_pass : (a : Form) (t : Tree) → IsClean t → Met R (to_document a) → Layer whole H a t → IsSome (views_leaf (extended_values documents) t)
  to_document_pass (leaf l) t c m h = leaf_pass (leaf_kind l) (extended_values documents) t c (met_if _ m) h
  to_document_pass (map k x) (document ps) c m h = refl
  to_document_pass (map k x) t c m h = absurd h
  to_document_pass (structure u n fs) (document ps) c m h = refl
  to_document_pass (structure u n fs) t c m h = absurd h
  to_document_pass (enumeration vs) (string n) c m h = absurd (no_unit vs n (met_if _ m) h)
  to_document_pass (enumeration vs) (document ps) c m h = refl
  to_document_pass (enumeration vs) t c m h = absurd h
  to_document_pass a t c m h = absurd m

  unit_again : (m : Leaf) (t : Tree) → leaf_kind m ≡ units → (t ≡ null) ⊎ Layer loose K (leaf m) t → IsSome (views_leaf units t)
  unit_again m t e (inl n) = subst (λ x. IsSome (views_leaf units x)) (sym n) refl
  unit_again m t e (inr h) = subst (λ k. IsSome (views_leaf k t)) e h

  to_leaf_pass : (a : Form) (l : Leaf) (k : LeafKind) (t : Tree) → leaf_kind l ≡ k → IsClean t → Deep Passing t → PassingFewer a (leaf l) t → Met R (to_leaf a (leaf l) k) → Layer whole H a t → IsSome (views_leaf k t)
  to_leaf_pass a l (extended_values trees) t e c d p m h = refl
  to_leaf_pass a l (extended_values documents) t e c d p m h = to_document_pass a t c m h
  to_leaf_pass a l anything t e c d p m h = to_any_pass a t c d (λ x y less r k. p x y (omega (arith, less, leaf_n l, leaf_n Any)) r k) m h
  to_leaf_pass a l units t e c d p m h = unit_again l t e (to_unit_pass a (leaf l) t tt p m h)
  to_leaf_pass a l texts t e c d p m h = to_texts_pass a t c m h
  to_leaf_pass (leaf j) l k t e c d p m h = leaf_pass (leaf_kind j) k t c (met_if _ m) h
  to_leaf_pass a l k t e c d p m h = absurd m

  leaf_or_null : (l : Leaf) (y : Form) (t : Tree) (b : Bool) → is_units (leaf_kind l) ≡ b → PassingFewer (leaf l) (optional y) t → Met R (cond b (Some []) (Some (record { path = []; old = leaf l; new = y } ∷ [])))
      → H (leaf l) t → Layer whole H (leaf l) t → Layer loose K (optional y) t
  leaf_or_null l y t true e p m q h = subst (Layer loose K (optional y)) (sym (null_only (leaf_kind l) t e h)) tt
  leaf_or_null l y t false e p m q h = some_null y t (p (leaf l) y (omega (arith, less_n y)) m.0 q)

  to_optional_pass : (a y : Form) (t : Tree) → H a t → PassingFewer a (optional y) t → Met R (to_optional a y) → Layer whole H a t → Layer loose K (optional y) t
  to_optional_pass (leaf l) y t q p m h = leaf_or_null l y t (is_units (leaf_kind l)) refl p m q h
  to_optional_pass (optional x) y null q p m h = tt
  to_optional_pass (optional x) y t q p m h = out_K (optional y) t tt (p x (optional y) (omega (arith, less_o x)) m.0 h)
  to_optional_pass (unit_structure n) y null q p m h = tt
  to_optional_pass (unit_structure n) y t q p m h = absurd h
  to_optional_pass a y t q p m h = some_null y t (p a y (omega (arith, less_n y)) m.0 q)

  to_sequence_pass : (a y : Form) (t : Tree) → Deep Passing t → Met R (to_sequence a y) → Layer whole H a t → Layer loose K (sequence y) t
  to_sequence_pass (sequence x) y (array ts) d m h = items_pass x y ts m.0 d h
  to_sequence_pass (tuple ps) y (array ts) d m h = each_part_pass [] 0 ps y ts m d h
  to_sequence_pass (tuple_structure n ps) y (array ts) d m h = each_part_pass [] 0 ps y ts m d h
  to_sequence_pass (sequence x) y t d m h = absurd h
  to_sequence_pass (tuple ps) y t d m h = absurd h
  to_sequence_pass (tuple_structure n ps) y t d m h = absurd h
  to_sequence_pass a y t d m h = absurd m

  to_tuple_pass : (a : Form) (qs : Parts) (t : Tree) → Deep Passing t → Met R (to_tuple a qs) → Layer whole H a t → Layer loose K (tuple qs) t
  to_tuple_pass (tuple ps) qs (array ts) d m h = parts_pass [] 0 ps qs ts m d h
  to_tuple_pass (tuple_structure n ps) qs (array ts) d m h = parts_pass [] 0 ps qs ts m d h
  to_tuple_pass (tuple ps) qs t d m h = absurd h
  to_tuple_pass (tuple_structure n ps) qs t d m h = absurd h
  to_tuple_pass a qs t d m h = absurd m

  named_tuple : (n : Utf8) (qs : Parts) (t : Tree) → Layer loose K (tuple qs) t → Layer loose K (tuple_structure n qs) t
  named_tuple n qs (array ts) h = h
  named_tuple n qs t h = absurd h

  document_only : (k : Leaf) (l y : Form) (t : Tree) → keys_pass (leaf k) l ≡ true → R (leaf Bson) y → Deep Passing t → IsSome (views_leaf (extended_values documents) t) → Layer loose K (map l y) t
  document_only k l y (document ps) e r d h = document_map k l y ps e r d
  document_only k l y t e r d h = absurd cc

  leaf_map : (k : Leaf) (l y : Form) (t : Tree) → (is_documents (leaf_kind k) ≡ true) × (keys_pass (leaf k) l ≡ true) → R (leaf Bson) y → Deep Passing t → Layer whole H (leaf k) t → Layer loose K (map l y) t
  leaf_map k l y t e r d h = document_only k l y t e.1 r d (subst (λ j. IsSome (views_leaf j t)) (documents_only (leaf_kind k) e.0) h)

  to_map_pass : (a l y : Form) (t : Tree) → IsClean t → Deep Passing t → Met R (to_map a l y) → Layer whole H a t → Layer loose K (map l y) t
  to_map_pass (map k x) l y (document ps) c d m h = let r = met_when (keys_pass k l) _ m in entries_pass k l x y ps r.0 r.1.0 d h
  to_map_pass (map k x) l y t c d m h = absurd h
  to_map_pass (structure u n fs) l y (document ps) c d m h =
      let r = met_when (names_pass fs l) _ m in
      fields_map fs l y ps r.0 (whole_keys u ps fs h.1) (each_field_pass [] fs y ps ps r.1 h.0 (whole_keys u ps fs h.1) (found_all ps c) d)
  to_map_pass (structure u n fs) l y t c d m h = absurd h
  to_map_pass (leaf k) l y t c d m h = let r = met_when (is_documents (leaf_kind k) && keys_pass (leaf k) l) _ m in leaf_map k l y t (both_true _ _ r.0) r.1.0 d h
  to_map_pass a l y t c d m h = absurd m

  to_struct_pass : (a : Form) (name : Utf8) (gs : Fields) (t : Tree) → Deep Passing t → Met R (to_struct a gs) → Layer whole H a t → Layer loose K (structure dropped name gs) t
  to_struct_pass (structure u n fs) name gs (document ps) d m h = (struct_pass [] fs gs ps m d h.0 (whole_keys u ps fs h.1), tt)
  to_struct_pass (structure u n fs) name gs t d m h = absurd h
  to_struct_pass a name gs t d m h = absurd m

  -- each field of the old struct has its name in the new one
  known_has : (fs gs : Fields) (key : Utf8) → are_known fs gs ≡ true → has fs key ≡ true → has gs key ≡ true
  known_has no_fields gs key k e = absurd cc
  known_has (field n x fs) gs key k e =
      let b = both_true _ _ k in
      by_name (bytes_eq n key) (has fs key) e (λ is. subst (λ z. has gs z ≡ true) (bytes_same n key is) b.0) (λ f. known_has fs gs key b.1 f)

  known_keys : (fs gs : Fields) (ps : Pairs) → are_known fs gs ≡ true → KeysIn ps fs → KeysIn ps gs
  known_keys fs gs no_pairs k h = tt
  known_keys fs gs (pair n t ps) k h = (known_has fs gs n k h.0, known_keys fs gs ps k h.1)

  to_closed_pass : (a : Form) (name : Utf8) (gs : Fields) (t : Tree) → Deep Passing t → Met R (to_closed a gs) → Layer whole H a t → Layer loose K (structure denied name gs) t
  to_closed_pass (structure u n fs) name gs (document ps) d m h =
      let r = met_when (are_known fs gs) _ m in
      let keys = whole_keys u ps fs h.1 in
      (struct_pass [] fs gs ps r.1 d h.0 keys, known_keys fs gs ps r.0 keys)
  to_closed_pass (structure u n fs) name gs t d m h = absurd h
  to_closed_pass a name gs t d m h = absurd m

  to_enum_pass : (a : Form) (ws : Variants) (t : Tree) → Deep Passing t → Met R (to_enum a ws) → Layer whole H a t → Layer loose K (enumeration ws) t
  to_enum_pass (enumeration vs) ws (string n) d m h = enum_unit vs ws n m h
  to_enum_pass (enumeration vs) ws (document (pair n u no_pairs)) d m h = enum_contents vs ws n u m d.0 d.1 h
  to_enum_pass (enumeration vs) ws t d m h = absurd h
  to_enum_pass a ws t d m h = absurd m

  null_unit : (n : Utf8) (t : Tree) → (t ≡ null) ⊎ Layer loose K (unit_structure n) t → Layer loose K (unit_structure n) t
  null_unit n t (inl e) = subst (Layer loose K (unit_structure n)) (sym e) tt
  null_unit n t (inr h) = h

  pub row_pass : (a b : Form) (t : Tree) → H a t → IsClean t → Deep Passing t → PassingFewer a b t → Met R (row a b) → Layer whole H a t → Layer loose K b t
  row_pass a (leaf l) t q c d p m h = to_leaf_pass a l (leaf_kind l) t refl c d p m h
  row_pass a (optional y) t q c d p m h = to_optional_pass a y t q p m h
  row_pass a (unit_structure n) t q c d p m h = null_unit n t (to_unit_pass a (unit_structure n) t tt p m h)
  row_pass a (sequence y) t q c d p m h = to_sequence_pass a y t d m h
  row_pass a (tuple qs) t q c d p m h = to_tuple_pass a qs t d m h
  row_pass a (tuple_structure n qs) t q c d p m h = named_tuple n qs t (to_tuple_pass a qs t d m h)
  row_pass a (map l y) t q c d p m h = to_map_pass a l y t c d m h
  row_pass a (structure dropped n gs) t q c d p m h = to_struct_pass a n gs t d m h
  row_pass a (structure denied n gs) t q c d p m h = to_closed_pass a n gs t d m h
  row_pass a (enumeration ws) t q c d p m h = to_enum_pass a ws t d m h
  row_pass a b t q c d p m h = absurd m
