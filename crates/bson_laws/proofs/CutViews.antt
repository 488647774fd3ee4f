-- A tree is at a form what it is at the form without what is deeper than the tree.
use Rattle.std.proofs.Common.{◌≡◌, ℕ, zero, suc, ◌≤◌, ◌∷◌, Bool, true, false, cond, Option, Some, None, refl, ap, arith}
use Rattle.std.specs.Prelude.{◌&&◌, option_map, option_and_then}
use Rattle.std.specs.Str.{bytes_eq}
use Rattle.bson_base.specs.Pairs.{lookup}
use Rattle.bson_kinds.specs.Text.{Utf8}
use Rattle.bson_base.specs.Tree.{Tree, string, document, array, null, depth, Pairs, no_pairs, pair, pairs_depth, Trees, no_trees, tree, trees_depth}
use Rattle.bson_shape.specs.Form.{UnknownFields, dropped, denied, Form, leaf, optional, lossy, sequence, newtype, map, tuple, tuple_structure, structure, enumeration, definitions, Fields, no_fields, field, Parts, no_parts, part, Content, unit_content, newtype_content, tuple_content, struct_content, Variants, no_variants, variant}
use Rattle.bson_shape.specs.Makers.{has_name, field_names}
use Rattle.bson_values.specs.Value as value
use Rattle.bson_values.specs.Value.{Value, item, entry, field_value}
use Rattle.bson_laws.specs.Variants.{content_of}
use Rattle.bson_laws.specs.Views.{absent, named_unit, views_key, views_items, views_entries, views_at, are_named, all_known, views, views_fields, views_parts, views_variant, views_content}
use Rattle.bson_laws.proofs.Cut.{cut, cut_fields, cut_parts, cut_variants, cut_content}
use Rattle.bson_laws.proofs.CutReads.{absent_kept}

-- both see alike what is no deeper
abbrev ViewAlike : ℕ → (Tree → Option Value) → (Tree → Option Value) → Type 0
ViewAlike d f g = (t : Tree) → depth t ≤ d → f t ≡ g t

items_alike : (f g : Tree → Option Value) (d : ℕ) → ViewAlike d f g → (ts : Trees) → trees_depth ts ≤ d → views_items f ts ≡ views_items g ts
items_alike f g d h no_trees w = refl
items_alike f g d h (tree t ts) w =
    let first : depth t ≤ d = omega arith in
    let rest : trees_depth ts ≤ d = omega arith in
    λ i. option_and_then (λ v. option_map (item v) (items_alike f g d h ts rest i)) (h t first i)

entries_alike : (k l : Utf8 → Option Value) (f g : Tree → Option Value) (d : ℕ) → ((key : Utf8) → k key ≡ l key) → ViewAlike d f g → (ps : Pairs) → pairs_depth ps ≤ d → views_entries k f ps ≡ views_entries l g ps
entries_alike k l f g d q h no_pairs w = refl
entries_alike k l f g d q h (pair key t ps) w =
    let first : depth t ≤ d = omega arith in
    let rest : pairs_depth ps ≤ d = omega arith in
    λ i. option_and_then (λ x. option_and_then (λ v. option_map (entry x v) (entries_alike k l f g d q h ps rest i)) (h t first i)) (q key i)

-- ---- what a cut form keeps

unit_kept : (name : Utf8) (c : Content) (d : ℕ) → named_unit name (Some c) ≡ named_unit name (Some (cut_content c d))
unit_kept name unit_content d = refl
unit_kept name (newtype_content s) zero = refl
unit_kept name (newtype_content s) (suc d) = refl
unit_kept name (tuple_content ps) zero = refl
unit_kept name (tuple_content ps) (suc d) = refl
unit_kept name (struct_content fs) zero = refl
unit_kept name (struct_content fs) (suc d) = refl

units_kept : (name key : Utf8) (vs : Variants) (d : ℕ) → named_unit name (content_of vs key) ≡ named_unit name (content_of (cut_variants vs d) key)
units_kept name key no_variants d = refl
units_kept name key (variant word c vs) d = by_case (bytes_eq word key) (units_kept name key vs d) where
  by_case : (b : Bool) → named_unit name (content_of vs key) ≡ named_unit name (content_of (cut_variants vs d) key)
      → named_unit name (cond b (Some c) (content_of vs key)) ≡ named_unit name (cond b (Some (cut_content c d)) (content_of (cut_variants vs d) key))
  by_case true h = unit_kept name c d
  by_case false h = h

key_kept : (key : Form) (name : Utf8) → views_key key name ≡ views_key (cut key 0) name
key_kept (enumeration vs) name = units_kept name name vs 0
key_kept (leaf l) name = refl
key_kept s name = refl

names_kept : (fs : Fields) (d : ℕ) → field_names fs ≡ field_names (cut_fields fs d)
names_kept no_fields d = refl
names_kept (field name s fs) d = λ i. name ∷ names_kept fs d i

named_kept : (fs : Fields) (d : ℕ) (ps : Pairs) → are_named fs ps ≡ are_named (cut_fields fs d) ps
named_kept fs d no_pairs = refl
named_kept fs d (pair key t ps) = λ i. has_name key (names_kept fs d i) && named_kept fs d ps i

known_kept : (u : UnknownFields) (fs : Fields) (d : ℕ) (ps : Pairs) → all_known u fs ps ≡ all_known u (cut_fields fs d) ps
known_kept dropped fs d ps = refl
known_kept denied fs d ps = named_kept fs d ps

-- ---- fields

OptionWithin : Option Tree → ℕ → Type 0
OptionWithin None d = Unit {0}
OptionWithin (Some t) d = depth t ≤ d

found_within : (key : Utf8) (ps : Pairs) (d : ℕ) → pairs_depth ps ≤ d → OptionWithin (lookup key ps) d
unfolding OptionWithin
found_within key no_pairs d w = tt
found_within key (pair name t ps) d w = by_case (bytes_eq key name) (found_within key ps d (omega arith)) where
  by_case : (b : Bool) → OptionWithin (lookup key ps) d → OptionWithin (cond b (Some t) (lookup key ps)) d
  by_case true h = omega arith
  by_case false h = h

at_alike : (f g : Tree → Option Value) (d : ℕ) → ViewAlike d f g → (s : Form) (o : Option Tree) → OptionWithin o d → views_at f (absent s) o ≡ views_at g (absent (cut s d)) o
unfolding OptionWithin
at_alike f g d h s None w = absent_kept s d
at_alike f g d h s (Some t) w = h t w

-- ---- all forms

mutual
  pub views_cut : (s : Form) (d : ℕ) (t : Tree) → depth t ≤ d → views s t ≡ views (cut s d) t
  views_cut (optional s) d null w = refl
  views_cut (optional s) d t w = ap (option_map value.some) (views_cut s d t w)
  views_cut (lossy s) d t w = views_cut s d t w
  views_cut (newtype name s) d t w = ap (option_map (value.newtype name)) (views_cut s d t w)
  views_cut (definitions h s) d t w = views_cut s d t w
  views_cut (sequence s) zero (array ts) w = absurd (omega arith)
  views_cut (sequence s) (suc d) (array ts) w = ap (option_map value.sequence) (items_alike (views s) (views (cut s d)) d (λ u q. views_cut s d u q) ts (omega arith))
  views_cut (map key s) zero (document ps) w = absurd (omega arith)
  views_cut (map key s) (suc d) (document ps) w =
      ap (option_map value.map) (entries_alike (views_key key) (views_key (cut key 0)) (views s) (views (cut s d)) d (key_kept key) (λ u q. views_cut s d u q) ps (omega arith))
  views_cut (tuple qs) zero (array ts) w = absurd (omega arith)
  views_cut (tuple qs) (suc d) (array ts) w = ap (option_map value.tuple) (parts_cut qs d ts (omega arith))
  views_cut (tuple_structure name qs) zero (array ts) w = absurd (omega arith)
  views_cut (tuple_structure name qs) (suc d) (array ts) w = ap (option_map (value.tuple_structure name)) (parts_cut qs d ts (omega arith))
  views_cut (structure u name fs) zero (document ps) w = absurd (omega arith)
  views_cut (structure u name fs) (suc d) (document ps) w =
      let rest : pairs_depth ps ≤ d = omega arith in
      λ i. cond (known_kept u fs d ps i) (option_map (value.structure name) (fields_cut fs d ps rest i)) None
  views_cut (enumeration vs) d (string name) w = units_kept name name vs d
  views_cut (enumeration vs) zero (document ps) w = absurd (omega arith)
  views_cut (enumeration vs) (suc d) (document (pair name t no_pairs)) w = variant_cut vs name d t (omega arith)
  views_cut s d t w = refl

  fields_cut : (fs : Fields) (d : ℕ) (ps : Pairs) → pairs_depth ps ≤ d → views_fields fs ps ≡ views_fields (cut_fields fs d) ps
  fields_cut no_fields d ps w = refl
  fields_cut (field name s fs) d ps w = λ i.
      option_and_then (λ v. option_map (field_value name v) (fields_cut fs d ps w i)) (at_alike (views s) (views (cut s d)) d (λ u q. views_cut s d u q) s (lookup name ps) (found_within name ps d w) i)

  parts_cut : (qs : Parts) (d : ℕ) (ts : Trees) → trees_depth ts ≤ d → views_parts qs ts ≡ views_parts (cut_parts qs d) ts
  parts_cut no_parts d ts w = refl
  parts_cut (part s qs) d (tree t ts) w =
      let first : depth t ≤ d = omega arith in
      let rest : trees_depth ts ≤ d = omega arith in
      λ i. option_and_then (λ v. option_map (item v) (parts_cut qs d ts rest i)) (views_cut s d t first i)
  parts_cut (part s qs) d no_trees w = refl

  variant_cut : (vs : Variants) (key : Utf8) (d : ℕ) (t : Tree) → depth t ≤ d → views_variant vs key t ≡ views_variant (cut_variants vs (suc d)) key t
  variant_cut no_variants key d t w = refl
  variant_cut (variant name c vs) key d t w = λ i. cond (bytes_eq name key) (content_cut name c d t w i) (variant_cut vs key d t w i)

  content_cut : (name : Utf8) (c : Content) (d : ℕ) (t : Tree) → depth t ≤ d → views_content name c t ≡ views_content name (cut_content c (suc d)) t
  content_cut name (newtype_content s) d t w = ap (option_map (value.newtype_variant name)) (views_cut s d t w)
  content_cut name (tuple_content qs) d (array ts) w = ap (option_map (value.tuple_variant name)) (parts_cut qs d ts (omega arith))
  content_cut name (struct_content fs) d (document ps) w = ap (option_map (value.structure_variant name)) (fields_cut fs d ps (omega arith))
  content_cut name c d t w = refl
