-- The meaning of a value that fits a shape is viewed at the shape as the normal form of that value.
use Rattle.std.proofs.Common.{◌≡◌, ℕ, [], ◌∷◌, Bool, true, false, cond, Option, Some, None, refl, ap, sym, subst, ◌∙◌, ℤ, append-nil}
use Rattle.std.specs.Prelude.{encode_utf8, ◌&&◌, nat_eq, option_map, option_and_then}
use Rattle.std.specs.Char.{IsScalar}
use Rattle.std.specs.Str.{bytes_eq, chars}
use Rattle.std.proofs.lemmas.Slice.Eq.{bytes_eq-Decides}
use Rattle.std.proofs.lemmas.Str.{chars-encodes}
use Rattle.bson_base.specs.Pairs.{lookup}
use Rattle.bson_kinds.specs.Text.{Utf8}
use Rattle.bson_kinds.specs.Reserved.{reserved_kind}
use Rattle.bson_base.specs.Sound.{IsClean, ArePairsClean, AreTreesClean, Lacks}
use Rattle.bson_kinds.specs.declared.element_type.ElementType.{ElementType}
use Rattle.bson_kinds.specs.Kind.{byte}
use Rattle.bson_kinds.specs.declared.element_type.ElementType.TheVariants as kinds
use Rattle.bson_kinds.specs.declared.element_type.ElementType.TheVariants.{Int32}
use Rattle.bson_base.specs.Tree as tree
use Rattle.bson_base.specs.Tree.{Tree, kind, string, binary, null, int32, int64, document, array, Pairs, no_pairs, pair, Trees, no_trees}
use Rattle.bson_kinds.proofs.Outcomes.{some_is, some_map, some_then}
use Rattle.bson_shape.specs.Form.{Form, leaf, optional, lossy, sequence, newtype, unit_structure, map, tuple, tuple_structure, structure, enumeration, definitions, Fields, no_fields, field, Parts, no_parts, part, Content, newtype_content, tuple_content, struct_content, Variants, no_variants, variant}
use Rattle.bson_shape.specs.Makers.{is_reserved_newtype}
use Rattle.bson_values.specs.Value as value
use Rattle.bson_values.specs.Value.{IntegerType, i32, i64, in_range, written_as, Value, integer, str, Items, no_items, item, Entries, no_entries, entry, FieldValues, no_field_values, field_value}
use Rattle.bson_laws.specs.Leaves.{LeafKind, anything, booleans, numbers, doubles, characters, texts, byte_strings, byte_buffers, units, ExtendedLeaf, object_ids, uuids, of_kind, trees, documents, extended_values, leaf_kind}
use Rattle.bson_laws.specs.Datum.{datum, itself, uuid_datum, sorted_tree}
use Rattle.bson_laws.specs.Variants.{content_of}
use Rattle.bson_laws.specs.Plain.{IsPlainKey}
use Rattle.bson_laws.proofs.PlainForms.{IsPlain, AreFieldsPlain, ArePartsPlain, AreVariantsPlain, IsContentPlain}
use Rattle.bson_laws.specs.Views.{views_extended, as_integer, one_character, as_character, views_any, views_any_items, views_any_entries, views_leaf, views_leaf_key, views_key, views_entries, named_unit, absent, views_at, views, views_items, views_parts, views_variant, views_content, views_fields}
use Rattle.bson_laws.specs.Means.{key_text, number_of, some_or_none, under_name, means, means_items, means_entries, means_fields, norm, norm_items, norm_entries, norm_fields}
use Rattle.bson_laws.specs.InRange.{IsInRange}
use Rattle.bson_laws.specs.Fits.{IsTreeValue, IsValueOfKind, FitsExtended, IsAny, AreAnyItems, AreAnyEntries, FitsLeaf, FitsLeafKey, FitsKey, Fits, ItemsFit, PartsFit, EntriesFit, FieldsFit}
use Rattle.bson_laws.proofs.DatumContents.{sorted_kind}
use Rattle.bson_laws.proofs.DatumNormal.{own_kind, sorted_in_range, tree_sorted_twice, datum_norm, datum_means}
use Rattle.bson_laws.proofs.Fitting.{fits_leaf, fits_lossy, fits_body}
use Rattle.bson_laws.proofs.Free.{free_means, free_norm, free_struct_means, free_newtype_name, free_struct_name}
use Rattle.bson_laws.proofs.Known.{fitting_known}
use Rattle.bson_laws.proofs.Spelled.{found, tree_is, trees_are, pairs_are}
use Rattle.bson_kinds.proofs.Apart.{no_some, false_no, true_no}

pub bytes_eq-refl : (xs : Utf8) → bytes_eq xs xs ≡ true
bytes_eq-refl xs = (bytes_eq-Decides xs xs).1 refl

pub bytes_same : (xs ys : Utf8) → bytes_eq xs ys ≡ true → xs ≡ ys
bytes_same xs ys e = (bytes_eq-Decides xs ys).0 e

in_range_is : (type : IntegerType) (n : ℤ) (b : Bool) → in_range type n ≡ b → b ≡ true → as_integer type n ≡ Some (integer type n)
in_range_is type n true e t = ap (λ c. cond c (Some (integer type n)) None) e
in_range_is type n false e t = absurd (false_no t)

wide_number : (type : IntegerType) (b : Bool) (n : ℤ) (t : Tree) → cond b None (Some (int64 n)) ≡ Some t → views_leaf (numbers type) t ≡ as_integer type n
wide_number type true n t e = absurd (no_some e)
wide_number type false n t e = ap (views_leaf (numbers type)) (sym (tree_is (int64 n) t e))

-- the tree that a number means is that number
number_tree : (type : IntegerType) (k : ElementType) (n : ℤ) (t : Tree) → number_of k n ≡ Some t → views_leaf (numbers type) t ≡ as_integer type n
number_tree type Int32 n t e = ap (views_leaf (numbers type)) (sym (tree_is (int32 n) t e))
number_tree type k n t e = wide_number type _ n t e

pub chosen_t : (a : Bool) (t : Tree) (o : Option Tree) → a ≡ true → cond a (Some t) o ≡ Some t
chosen_t true t o p = refl
chosen_t false t o p = absurd (false_no p)

pub chosen_f : (a : Bool) (t : Tree) (o : Option Tree) → a ≡ false → cond a (Some t) o ≡ o
chosen_f true t o p = absurd (true_no p)
chosen_f false t o p = refl

-- no field has the name
abbrev pub Unnamed : Utf8 → Fields → Type 0
Unnamed key no_fields = Unit {0}
Unnamed key (field name s fs) = (bytes_eq name key ≡ false) × Unnamed key fs

not_true : (b : Bool) → (b ≡ true → ⊥) → b ≡ false
not_true true n = absurd (n refl)
not_true false n = refl

differ : (xs ys : Utf8) → bytes_eq xs ys ≡ false → xs ≡ ys → ⊥
differ xs ys e same = let both : true ≡ false = sym ((bytes_eq-Decides xs ys).1 same) ∙ e in cc

pub unlike_swap : (xs ys : Utf8) → bytes_eq xs ys ≡ false → bytes_eq ys xs ≡ false
unlike_swap xs ys e = not_true (bytes_eq ys xs) (λ t. differ xs ys e (sym (bytes_same ys xs t)))

-- a pair that no field names
pub views-more : (fs : Fields) (key : Utf8) (t : Tree) (ps : Pairs) → Unnamed key fs → views_fields fs (pair key t ps) ≡ views_fields fs ps
views-more no_fields key t ps h = refl
views-more (field name s fs) key t ps h =
    (λ i. option_and_then (λ v. option_map (field_value name v) (views-more fs key t ps h.1 i)) (views_at (views s) (absent s) (chosen_f (bytes_eq name key) t (lookup name ps) h.0 i)))

-- the fields of a shape are named as the keys of what a value of it means
unnamed : (key : Utf8) (vs : FieldValues) (fs : Fields) (ps : Pairs) → FieldsFit vs fs → means_fields vs ≡ Some ps → Lacks key ps → Unnamed key fs
unnamed key no_field_values no_fields ps f e l = tt
unnamed key no_field_values (field n s fs) ps f e l = absurd f
unnamed key (field_value m v vs) no_fields ps f e l = absurd f
unnamed key (field_value m v vs) (field n s fs) ps f e l =
    let a = some_then (λ t. option_map (pair m t) (means_fields vs)) (means v) ps e in
    let b = some_map (pair m a.0) (means_fields vs) ps a.2 in
    let h = subst (Lacks key) (sym b.2) l in
    (subst (λ x. bytes_eq x key ≡ false) f.0 (unlike_swap key m h.0), unnamed key vs fs b.0 f.2 b.1 h.1)

-- ---- leaves

-- the text of a character has that character alone
pub one_again : (c : ℕ) → IsScalar c → chars (encode_utf8 c) ≡ c ∷ []
one_again c h = ap chars (sym (append-nil (encode_utf8 c))) ∙ chars-encodes (c ∷ []) (ap (λ b. b && true) h)

character_again : (c : ℕ) → IsScalar c → as_character (encode_utf8 c) ≡ Some (value.character c)
character_again c h = ap (λ cs. option_map value.character (one_character cs)) (one_again c h)

wide_is : (b : Bool) (n : ℤ) (t : Tree) → cond b None (found (int64 n)) ≡ Some t → int64 n ≡ t
wide_is true n t e = absurd (no_some e)
wide_is false n t e = tree_is (int64 n) t e

mutual
  -- what a value means that is read without a shape is that value without a shape
  any_means : (v : Value) (t : Tree) → IsAny v → means v ≡ Some t → views_any t ≡ Some (norm v)
  any_means (value.boolean b) t f e = ap views_any (sym (tree_is (tree.boolean b) t e))
  any_means (integer i32 n) t f e = ap views_any (sym (tree_is (int32 n) t e))
  any_means (integer i64 n) t f e = ap views_any (sym (wide_is _ n t e))
  any_means (value.double bits) t f e = ap views_any (sym (tree_is (tree.double bits) t e))
  any_means (str x) t f e = ap views_any (sym (tree_is (string x) t e))
  any_means (value.bytes bs) t f e = ap views_any (sym (tree_is (binary 0 bs) t e))
  any_means value.unit t f e = ap views_any (sym (tree_is null t e))
  any_means (value.sequence vs) t f e =
      let a = some_map array (means_items vs) t e in
      ap views_any (sym a.2) ∙ ap (option_map value.sequence) (any_items_mean vs a.0 f a.1)
  any_means (value.map es) t f e =
      let a = some_map document (means_entries es) t e in
      ap views_any (sym a.2) ∙ ap (option_map value.map) (any_entries_mean es a.0 f a.1)
  any_means v t f e = absurd f

  any_items_mean : (vs : Items) (ts : Trees) → AreAnyItems vs → means_items vs ≡ Some ts → views_any_items ts ≡ Some (norm_items vs)
  any_items_mean no_items ts f e = ap views_any_items (sym (trees_are no_trees ts e))
  any_items_mean (item v vs) ts f e =
      let a = some_then (λ t. option_map (tree.tree t) (means_items vs)) (means v) ts e in
      let b = some_map (tree.tree a.0) (means_items vs) ts a.2 in
      ap views_any_items (sym b.2)
      ∙ ap (option_and_then (λ w. option_map (item w) (views_any_items b.0))) (any_means v a.0 f.0 a.1)
      ∙ ap (option_map (item (norm v))) (any_items_mean vs b.0 f.1 b.1)

  any_entries_mean : (es : Entries) (ps : Pairs) → AreAnyEntries es → means_entries es ≡ Some ps → views_any_entries ps ≡ Some (norm_entries es)
  any_entries_mean no_entries ps f e = ap views_any_entries (sym (pairs_are no_pairs ps e))
  any_entries_mean (entry (str key) v es) ps f e =
      let a = some_then (λ t. option_map (pair key t) (means_entries es)) (means v) ps e in
      let b = some_map (pair key a.0) (means_entries es) ps a.2 in
      ap views_any_entries (sym b.2)
      ∙ ap (option_and_then (λ w. option_map (entry (str key) w) (views_any_entries b.0))) (any_means v a.0 f.1 a.1)
      ∙ ap (option_map (entry (str key) (norm v))) (any_entries_mean es b.0 f.2 b.1)
  any_entries_mean (entry k v es) ps f e = absurd f.0

-- the value of a tree means the tree with its options sorted, which is read back as its normal form
tree_value : (v : Value) (t : Tree) (f : IsTreeValue v) → means v ≡ Some t → (t ≡ sorted_tree f.tree) × (datum itself (sorted_tree t) ≡ norm v)
tree_value v t f e =
    let is : t ≡ sorted_tree f.tree = datum_means f.tree t f.ranges (ap means f.is_datum ∙ e) in
    (is, ap (λ u. datum itself (sorted_tree u)) is ∙ ap (datum itself) (tree_sorted_twice f.tree f.ranges) ∙ sym (datum_norm f.tree) ∙ ap norm f.is_datum)

-- and is of the kind of the tree
value_kind : (k : ElementType) (v : Value) (t : Tree) (f : IsValueOfKind k v) → means v ≡ Some t → kind t ≡ k
value_kind k v t f e = ap kind (tree_value v t f.of_tree e).0 ∙ sorted_kind f.of_tree.tree ∙ f.has_kind

-- it is in its range
value_ranges : (k : ElementType) (v : Value) (t : Tree) (f : IsValueOfKind k v) → means v ≡ Some t → IsInRange t
value_ranges k v t f e = subst IsInRange (sym (tree_value v t f.of_tree e).0) (sorted_in_range f.of_tree.tree f.of_tree.ranges)

id_means : (t : Tree) (v : Value) → IsInRange t → kind t ≡ kinds.ObjectId → datum itself (sorted_tree t) ≡ norm v → views_extended object_ids t ≡ Some (norm v)
id_means (tree.object_id id) v r is e = ap Some e
id_means (tree.raw k b) v r is e = absurd r
id_means t v r is e = absurd cc

document_means : (t : Tree) (v : Value) → IsInRange t → kind t ≡ kinds.EmbeddedDocument → datum itself (sorted_tree t) ≡ norm v → views_extended documents t ≡ Some (norm v)
document_means (document ps) v r is e = ap Some e
document_means (tree.raw k b) v r is e = absurd r
document_means t v r is e = absurd cc

extended_means : (k : ExtendedLeaf) (v : Value) (t : Tree) → FitsExtended k v → means v ≡ Some t → views_extended k t ≡ Some (norm v)
extended_means object_ids v t f e = id_means t v (value_ranges kinds.ObjectId v t f e) (value_kind kinds.ObjectId v t f e) (tree_value v t f.of_tree e).1
extended_means uuids v t f e =
    let is : binary 4 f.id ≡ t = tree_is (binary 4 f.id) t (ap means f.is_datum ∙ e) in
    ap (views_extended uuids) (sym is) ∙ ap (λ n. cond (nat_eq n 16) (Some (uuid_datum itself f.id)) None) f.sixteen.count ∙ ap (λ x. Some (norm x)) f.is_datum
extended_means (of_kind k) v t f e =
    ap (λ j. cond (nat_eq (byte j) (byte k)) (Some (datum itself (sorted_tree t))) None) (value_kind k v t f e) ∙ ap (λ b. cond b (Some (datum itself (sorted_tree t))) None) (own_kind k) ∙ ap Some (tree_value v t f.of_tree e).1
extended_means trees v t f e = ap Some (tree_value v t f e).1
extended_means documents v t f e = document_means t v (value_ranges kinds.EmbeddedDocument v t f e) (value_kind kinds.EmbeddedDocument v t f e) (tree_value v t f.of_tree e).1

-- what a leaf takes from the tree that a value of the leaf means
leaf_means : (k : LeafKind) (v : Value) (t : Tree) → FitsLeaf k v → means v ≡ Some t → views_leaf k t ≡ Some (norm v)
leaf_means anything v t f e = any_means v t f e
leaf_means booleans (value.boolean b) t f e = ap (views_leaf booleans) (sym (tree_is (tree.boolean b) t e))
leaf_means (numbers type) (integer other n) t f e =
    number_tree type (written_as other) n t e ∙ in_range_is type n (in_range type n) refl f.1 ∙ ap (λ k. Some (integer k n)) (sym f.0)
leaf_means doubles (value.double bits) t f e = ap (views_leaf doubles) (sym (tree_is (tree.double bits) t e))
leaf_means characters (value.character x) t f e = ap (views_leaf characters) (sym (tree_is (string (encode_utf8 x)) t e)) ∙ character_again x f
leaf_means texts (str x) t f e = ap (views_leaf texts) (sym (tree_is (string x) t e))
leaf_means byte_strings (value.bytes bs) t f e = ap (views_leaf byte_strings) (sym (tree_is (binary 0 bs) t e))
leaf_means byte_buffers (value.bytes bs) t f e = ap (views_leaf byte_buffers) (sym (tree_is (binary 0 bs) t e))
leaf_means units value.unit t f e = ap (views_leaf units) (sym (tree_is null t e))
leaf_means (extended_values k) v t f e = extended_means k v t f e
leaf_means k v t f e = absurd f

-- ---- variants

named_content : (b : Bool) (n name : Utf8) (d c : Content) (vs : Variants) (u : Tree) → bytes_eq n name ≡ b → cond b (Some d) (content_of vs name) ≡ Some c
    → (content_of vs name ≡ Some c → views_variant vs name u ≡ views_content name c u) → cond b (views_content n d u) (views_variant vs name u) ≡ views_content name c u
named_content true n name d c vs u is e h = (λ i. views_content (bytes_same n name is i) (some_is d c e i) u)
named_content false n name d c vs u is e h = h e

-- the contents of the variant that has a name
variant_viewed : (vs : Variants) (name : Utf8) (c : Content) (u : Tree) → content_of vs name ≡ Some c → views_variant vs name u ≡ views_content name c u
variant_viewed no_variants name c u e = absurd (no_some e)
variant_viewed (variant n d vs) name c u e = named_content (bytes_eq n name) n name d c vs u refl e (variant_viewed vs name c u)

chosen_plain : (b : Bool) (d c : Content) (o : Option Content) → IsContentPlain d → cond b (Some d) o ≡ Some c → (o ≡ Some c → IsContentPlain c) → IsContentPlain c
chosen_plain true d c o p e h = subst IsContentPlain (some_is d c e) p
chosen_plain false d c o p e h = h e

pub content_plain : (vs : Variants) (name : Utf8) (c : Content) → AreVariantsPlain vs → content_of vs name ≡ Some c → IsContentPlain c
content_plain no_variants name c p e = absurd (no_some e)
content_plain (variant n d vs) name c p e = chosen_plain (bytes_eq n name) d c (content_of vs name) p.1 e (content_plain vs name c p.2)

-- the key that a text is written as is that text
key_means : (key : Form) (k : Value) (x : Utf8) → IsPlainKey key → FitsKey key k → key_text k ≡ Some x → views_key key x ≡ Some (norm k)
key_means (leaf l) (str y) x p f e = ap (λ j. views_leaf_key j x) p ∙ ap (λ z. Some (str z)) (sym (some_is y x e))
key_means (leaf l) k x p f e = absurd (subst (λ j. FitsLeafKey j k) p f)
key_means (enumeration vs) (value.unit_variant name) x p f e =
    ap (λ z. named_unit z (content_of vs z)) (sym (some_is name x e)) ∙ ap (named_unit name) f
key_means (enumeration vs) k x p f e = absurd f
key_means s k x p f e = absurd p

-- ---- options

-- a value of the form is at an option some value, but null is none
present : (s : Form) (t : Tree) (v : Value) → views s t ≡ Some v → views (optional s) t ≡ Some (some_or_none (Some t) v)
present s null v e = refl
present s t v e = ap (option_map value.some) e

-- ---- all values

mutual
  pub views_means : (v : Value) (s : Form) (t : Tree) → IsPlain s → Fits v s → means v ≡ Some t → IsClean t → views s t ≡ Some (norm v)
  views_means v (leaf l) t p f e c = leaf_means (leaf_kind l) v t (fits_leaf v l f) e
  views_means v (lossy s) t p f e c = views_means v s t p.1 (fits_lossy v s f) e c
  views_means v (definitions h s) t p f e c = views_means v s t p.1 (fits_body v h s f) e c
  views_means value.none (optional s) t p f e c = ap (views (optional s)) (sym (tree_is null t e))
  views_means (value.some v) (optional s) t p f e c = present s t (norm v) (views_means v s t p f e c) ∙ ap (λ o. Some (some_or_none o (norm v))) (sym e)
  views_means (value.newtype m v) (newtype n s) t p f e c =
      let u = sym (free_means m v (ap is_reserved_newtype f.0 ∙ free_newtype_name n p.0)) ∙ e in
      ap (option_map (value.newtype n)) (views_means v s t p.1 f.1 u c) ∙ ap (λ x. Some (value.newtype x (norm v))) (sym f.0)
  views_means (value.unit_structure m) (unit_structure n) t p f e c =
      ap (views (unit_structure n)) (sym (tree_is null t e)) ∙ ap (λ x. Some (value.unit_structure x)) (sym f)
  views_means (value.sequence vs) (sequence s) t p f e c =
      let a = some_map array (means_items vs) t e in
      subst (λ x. IsClean x → views (sequence s) x ≡ Some (value.sequence (norm_items vs))) a.2 (λ c'. ap (option_map value.sequence) (views_means_items vs s a.0 p f a.1 c')) c
  views_means (value.map es) (map key s) t p f e c =
      let a = some_map document (means_entries es) t e in
      subst (λ x. IsClean x → views (map key s) x ≡ Some (value.map (norm_entries es))) a.2 (λ c'. ap (option_map value.map) (views_means_entries es key s a.0 p f a.1 c')) c
  views_means (value.structure m vs) (structure u n fs) t p f e c =
      let a = some_map document (means_fields vs) t (sym (free_struct_means m vs (ap reserved_kind f.0 ∙ free_struct_name n p.0)) ∙ e) in
      subst (λ x. IsClean x → views (structure u n fs) x ≡ Some (value.structure m (norm_fields vs))) a.2
      (λ c'.
      ap (λ b. cond b (option_map (value.structure n) (views_fields fs a.0)) None) (fitting_known u fs vs a.0 f.1 a.1)
      ∙ ap (option_map (value.structure n)) (views_means_fields vs fs a.0 p.1 f.1 a.1 c')
      ∙ ap (λ x. Some (value.structure x (norm_fields vs))) (sym f.0)) c
      ∙ ap Some (sym (free_norm m vs (ap reserved_kind f.0 ∙ free_struct_name n p.0)))
  views_means (value.tuple vs) (tuple ps) t p f e c =
      let a = some_map array (means_items vs) t e in
      subst (λ x. IsClean x → views (tuple ps) x ≡ Some (value.tuple (norm_items vs))) a.2 (λ c'. ap (option_map value.tuple) (views_means_parts vs ps a.0 p f a.1 c')) c
  views_means (value.tuple_structure m vs) (tuple_structure n ps) t p f e c =
      let a = some_map array (means_items vs) t e in
      subst (λ x. IsClean x → views (tuple_structure n ps) x ≡ Some (value.tuple_structure m (norm_items vs))) a.2
      (λ c'. ap (option_map (value.tuple_structure n)) (views_means_parts vs ps a.0 p f.1 a.1 c') ∙ ap (λ x. Some (value.tuple_structure x (norm_items vs))) (sym f.0)) c
  views_means (value.unit_variant name) (enumeration vs) t p f e c = ap (views (enumeration vs)) (sym (tree_is (string name) t e)) ∙ ap (named_unit name) f
  views_means (value.newtype_variant name v) (enumeration vs) t p f e c =
      let a = some_map (under_name name) (means v) t e in
      subst (λ x. IsClean x → views (enumeration vs) x ≡ Some (value.newtype_variant name (norm v))) a.2
      (λ c'. variant_viewed vs name (newtype_content f.0) a.0 f.1
      ∙ ap (option_map (value.newtype_variant name)) (views_means v f.0 a.0 (content_plain vs name (newtype_content f.0) p f.1) f.2 a.1 c'.2)) c
  views_means (value.tuple_variant name ws) (enumeration vs) t p f e c =
      let a = some_map (λ ts. under_name name (array ts)) (means_items ws) t e in
      subst (λ x. IsClean x → views (enumeration vs) x ≡ Some (value.tuple_variant name (norm_items ws))) a.2
      (λ c'. variant_viewed vs name (tuple_content f.0) (array a.0) f.1
      ∙ ap (option_map (value.tuple_variant name)) (views_means_parts ws f.0 a.0 (content_plain vs name (tuple_content f.0) p f.1) f.2 a.1 c'.2)) c
  views_means (value.structure_variant name ws) (enumeration vs) t p f e c =
      let a = some_map (λ ps. under_name name (document ps)) (means_fields ws) t e in
      subst (λ x. IsClean x → views (enumeration vs) x ≡ Some (value.structure_variant name (norm_fields ws))) a.2
      (λ c'. variant_viewed vs name (struct_content f.0) (document a.0) f.1
      ∙ ap (option_map (value.structure_variant name)) (views_means_fields ws f.0 a.0 (content_plain vs name (struct_content f.0) p f.1) f.2 a.1 c'.2)) c
  views_means v s t p f e c = absurd f

  views_means_items : (vs : Items) (s : Form) (ts : Trees) → IsPlain s → ItemsFit vs s → means_items vs ≡ Some ts → AreTreesClean ts → views_items (views s) ts ≡ Some (norm_items vs)
  views_means_items no_items s ts p f e c = ap (views_items (views s)) (sym (trees_are no_trees ts e))
  views_means_items (item v vs) s ts p f e c =
      let a = some_then (λ t. option_map (tree.tree t) (means_items vs)) (means v) ts e in
      let b = some_map (tree.tree a.0) (means_items vs) ts a.2 in
      subst (λ x. AreTreesClean x → views_items (views s) x ≡ Some (item (norm v) (norm_items vs))) b.2
      (λ c'.
      ap (option_and_then (λ w. option_map (item w) (views_items (views s) b.0))) (views_means v s a.0 p f.0 a.1 c'.0)
      ∙ ap (option_map (item (norm v))) (views_means_items vs s b.0 p f.1 b.1 c'.1))
      c

  views_means_parts : (vs : Items) (ps : Parts) (ts : Trees) → ArePartsPlain ps → PartsFit vs ps → means_items vs ≡ Some ts → AreTreesClean ts → views_parts ps ts ≡ Some (norm_items vs)
  views_means_parts no_items no_parts ts p f e c = ap (views_parts no_parts) (sym (trees_are no_trees ts e))
  views_means_parts (item v vs) (part s ps) ts p f e c =
      let a = some_then (λ t. option_map (tree.tree t) (means_items vs)) (means v) ts e in
      let b = some_map (tree.tree a.0) (means_items vs) ts a.2 in
      subst (λ x. AreTreesClean x → views_parts (part s ps) x ≡ Some (item (norm v) (norm_items vs))) b.2
      (λ c'.
      ap (option_and_then (λ w. option_map (item w) (views_parts ps b.0))) (views_means v s a.0 p.0 f.0 a.1 c'.0)
      ∙ ap (option_map (item (norm v))) (views_means_parts vs ps b.0 p.1 f.1 b.1 c'.1))
      c
  views_means_parts vs ps ts p f e c = absurd f

  views_means_entries : (es : Entries) (key s : Form) (ps : Pairs) → IsPlainKey key × IsPlain key × IsPlain s → EntriesFit es key s → means_entries es ≡ Some ps → ArePairsClean ps
      → views_entries (views_key key) (views s) ps ≡ Some (norm_entries es)
  views_means_entries no_entries key s ps p f e c = ap (views_entries (views_key key) (views s)) (sym (pairs_are no_pairs ps e))
  views_means_entries (entry k v es) key s ps p f e c =
      let a = some_then (λ x. option_and_then (λ t. option_map (pair x t) (means_entries es)) (means v)) (key_text k) ps e in
      let b = some_then (λ t. option_map (pair a.0 t) (means_entries es)) (means v) ps a.2 in
      let q = some_map (pair a.0 b.0) (means_entries es) ps b.2 in
      subst (λ x. ArePairsClean x → views_entries (views_key key) (views s) x ≡ Some (entry (norm k) (norm v) (norm_entries es))) q.2
      (λ c'.
      ap (option_and_then (λ j. option_and_then (λ w. option_map (entry j w) (views_entries (views_key key) (views s) q.0)) (views s b.0))) (key_means key k a.0 p.0 f.0 a.1)
      ∙ ap (option_and_then (λ w. option_map (entry (norm k) w) (views_entries (views_key key) (views s) q.0))) (views_means v s b.0 p.2 f.1 b.1 c'.2)
      ∙ ap (option_map (entry (norm k) (norm v))) (views_means_entries es key s q.0 p f.2 q.1 c'.3))
      c

  views_means_fields : (vs : FieldValues) (fs : Fields) (ps : Pairs) → AreFieldsPlain fs → FieldsFit vs fs → means_fields vs ≡ Some ps → ArePairsClean ps → views_fields fs ps ≡ Some (norm_fields vs)
  views_means_fields no_field_values no_fields ps p f e c = refl
  views_means_fields no_field_values (field n s fs) ps p f e c = absurd f
  views_means_fields (field_value m v vs) no_fields ps p f e c = absurd f
  views_means_fields (field_value m v vs) (field n s fs) ps p f e c =
      let a = some_then (λ t. option_map (pair m t) (means_fields vs)) (means v) ps e in
      let b = some_map (pair m a.0) (means_fields vs) ps a.2 in
      subst (λ x. ArePairsClean x → views_fields (field n s fs) x ≡ Some (field_value m (norm v) (norm_fields vs))) b.2
      (λ c'.
      ap (λ o. option_and_then (λ w. option_map (field_value n w) (views_fields fs (pair m a.0 b.0))) (views_at (views s) (absent s) o)) (chosen_t (bytes_eq n m) a.0 (lookup n b.0) (subst (λ x. bytes_eq x m ≡ true) f.0 (bytes_eq-refl m)))
      ∙ ap (option_and_then (λ w. option_map (field_value n w) (views_fields fs (pair m a.0 b.0)))) (views_means v s a.0 p.1 f.1 a.1 c'.2)
      ∙ ap (option_map (field_value n (norm v))) (views-more fs m a.0 b.0 (unnamed m vs fs b.0 f.2 b.1 c'.1) ∙ views_means_fields vs fs b.0 p.2 f.2 b.1 c'.3)
      ∙ ap (λ x. Some (field_value x (norm v) (norm_fields vs))) (sym f.0))
      c
