-- What a clean tree is at a shape fits the shape, and is its own normal form.
use Rattle.std.proofs.Common.{◌≡◌, ℕ, zero, [], ◌∷◌, List, Bool, true, false, cond, Option, Some, None, Ok, Err, refl, ap, sym, subst, ◌∙◌, arith, ℤ, pos, negsuc}
use Rattle.std.specs.Prelude.{FitsSigned, ◌&&◌, nat_eq, length, option_map, option_and_then}
use Rattle.std.specs.Result.{result_ok}
use Rattle.std.specs.Int.{w32, w64}
use Rattle.std.specs.Char.{IsScalar}
use Rattle.std.specs.Str.{bytes_eq, is_utf8, chars}
use Rattle.std.proofs.Math.Bool.{and-true}
use Rattle.std.proofs.Math.Utf8.{scalar, scalars}
use Rattle.std.proofs.lemmas.Bool.Decides.{nat_tests}
use Rattle.std.proofs.lemmas.Int.{ints}
use Rattle.std.proofs.lemmas.Str.{scalars-chars, IsUtf8-from_is_utf8}
use Rattle.bson_kinds.specs.Reserved.{reserved_kind}
use Rattle.bson_base.specs.Pairs.{lookup}
use Rattle.bson_kinds.specs.Kind.{byte}
use Rattle.bson_kinds.specs.Text.{Bytes, Utf8, AreBytes}
use Rattle.bson_base.specs.Sound.{IsClean, ArePairsClean, AreTreesClean}
use Rattle.bson_base.specs.Tree as tree
use Rattle.bson_base.specs.Tree.{Tree, kind, double, string, boolean, binary, null, int32, int64, document, array, Pairs, no_pairs, pair, Trees, no_trees}
use Rattle.bson_kinds.specs.declared.element_type.ElementType.{ElementType}
use Rattle.bson_kinds.specs.declared.element_type.ElementType.TheVariants.{JavaScriptCodeWithScope, Int32, Null}
use Rattle.bson_kinds.proofs.Outcomes.{some_is, some_map, some_then}
use Rattle.bson_shape.specs.Form.{Form, leaf, optional, lossy, human_readable, by_mode, sequence, newtype, unit_structure, map, tuple, tuple_structure, structure, enumeration, definitions, Fields, no_fields, field, Parts, no_parts, part, Content, newtype_content, tuple_content, struct_content, Variants, no_variants, variant}
use Rattle.bson_values.specs.Value as value
use Rattle.bson_values.specs.Value.{IntegerType, i32, i64, in_range, written_as, Value, Items, no_items, item, Entries, no_entries, entry, FieldValues, no_field_values, field_value}
use Rattle.bson_values.specs.Cause.{out_of_range}
use Rattle.bson_laws.specs.Leaves.{LeafKind, anything, booleans, numbers, doubles, characters, texts, byte_strings, byte_buffers, units, ExtendedLeaf, object_ids, uuids, of_kind, trees, documents, extended_values, leaf_kind}
use Rattle.bson_laws.specs.Datum.{datum, itself, uuid_datum, sorted_tree}
use Rattle.bson_laws.specs.Judged.{refused}
use Rattle.bson_laws.specs.Variants.{content_of}
use Rattle.bson_laws.specs.Views.{all_known, views_extended, one_character, views_any, views_any_items, views_any_entries, views_leaf, views_leaf_key, views_items, views_key, views_entries, absent, views_at, views, views_fields, views_parts, views_variant, views_content}
use Rattle.bson_laws.specs.Unwrap.{unwrap, scoped_code}
use Rattle.bson_laws.specs.Written.{with_scope}
use Rattle.bson_laws.specs.Spell.{Writing, spell_whole}
use Rattle.bson_laws.specs.Means.{number_of, some_or_none, under_name, reserved_means, struct_means, means_list, means, means_items, means_entries, means_fields, norm, norm_items, norm_entries, norm_fields}
use Rattle.bson_laws.specs.Fits.{IsTreeValue, IsValueOfKind, IsUuidValue, FitsExtended, IsText, IsAny, AreAnyItems, AreAnyEntries, FitsLeaf, FitsLeafKey, FitsKey, Fits, ItemsFit, PartsFit, EntriesFit, FieldsFit}
use Rattle.bson_laws.proofs.Sizes.{unwrap_kind, whole_kind, scope_kind}
use Rattle.bson_laws.proofs.Spelled.{newtype_meant}
use Rattle.bson_laws.proofs.DatumContents.{sorted_kind}
use Rattle.bson_laws.proofs.Ranges.{clean_in_range}
use Rattle.bson_laws.proofs.DatumNormal.{same_kind, sorted_in_range, tree_sorted_twice, datum_norm, datum_means}
use Rattle.bson_laws.proofs.PlainForms.{IsPlain, AreFieldsPlain, ArePartsPlain, AreVariantsPlain, IsContentPlain}
use Rattle.bson_laws.proofs.Free.{free_norm, free_struct_name}
use Rattle.bson_laws.proofs.Known.{where_known}
use Rattle.bson_laws.proofs.Fitting.{leaf_fits, lossy_fits, body_fits}
use Rattle.bson_laws.proofs.Variants.{unit_is, chosen_holds, FitsContent, FitsVariant, chosen_fits, variant_fits}
use Rattle.bson_kinds.proofs.Apart.{no_some}

-- ---- numbers and characters

pub in_range_or : (type : IntegerType) (n : ℤ) (b : Bool) (v : Value) → cond b (Some (value.integer type n)) None ≡ Some v → (cond b (Ok (value.integer type n)) (refused (out_of_range n)) ≡ Ok v) × (b ≡ true) × (v ≡ value.integer type n)
in_range_or type n true v e = (ap Ok cc, refl, cc)
in_range_or type n false v e = absurd (no_some e)

-- the one character of a list of characters is one of them
pub one_scalar : (cs : List ℕ) (c : ℕ) → scalars cs ≡ true → one_character cs ≡ Some c → IsScalar c
one_scalar [] c s e = absurd (no_some e)
one_scalar (d ∷ []) c s e = subst IsScalar (some_is d c e) (sym (and-true (scalar d)) ∙ s)
one_scalar (d ∷ x ∷ cs) c s e = absurd (no_some e)

-- ---- without a shape

-- the numbers of a clean tree are those of `i32` and `i64`
in_i32 : (n : ℤ) → FitsSigned w32 n → in_range i32 n ≡ true
in_i32 (pos n) h = grind (arith, ints, h)
in_i32 (negsuc n) h = grind (arith, ints, h)

in_i64 : (n : ℤ) → FitsSigned w64 n → in_range i64 n ≡ true
in_i64 (pos n) h = grind (arith, ints, h)
in_i64 (negsuc n) h = grind (arith, ints, h)

mutual
  any_fits : (t : Tree) (v : Value) → IsClean t → views_any t ≡ Some v → IsAny v
  any_fits (boolean b) v c e = subst IsAny (some_is (value.boolean b) v e) tt
  any_fits (int32 n) v c e = subst IsAny (some_is (value.integer i32 n) v e) (in_i32 n c)
  any_fits (int64 n) v c e = subst IsAny (some_is (value.integer i64 n) v e) (in_i64 n c)
  any_fits (double bits) v c e = subst IsAny (some_is (value.double bits) v e) c
  any_fits (string t) v c e = subst IsAny (some_is (value.str t) v e) c
  any_fits (binary zero bs) v c e = subst IsAny (some_is (value.bytes bs) v e) c.are_bytes
  any_fits null v c e = subst IsAny (some_is value.unit v e) tt
  any_fits (array ts) v c e = let m = some_map value.sequence (views_any_items ts) v e in subst IsAny m.2 (any_items_fit ts m.0 c m.1)
  any_fits (document ps) v c e = let m = some_map value.map (views_any_entries ps) v e in subst IsAny m.2 (any_entries_fit ps m.0 c m.1)
  any_fits t v c e = absurd (no_some e)

  any_items_fit : (ts : Trees) (vs : Items) → AreTreesClean ts → views_any_items ts ≡ Some vs → AreAnyItems vs
  any_items_fit no_trees vs c e = subst AreAnyItems (some_is no_items vs e) tt
  any_items_fit (tree.tree t ts) vs c e =
      let a = some_then (λ v. option_map (item v) (views_any_items ts)) (views_any t) vs e in
      let b = some_map (item a.0) (views_any_items ts) vs a.2 in
      subst AreAnyItems b.2 (any_fits t a.0 c.0 a.1, any_items_fit ts b.0 c.1 b.1)

  any_entries_fit : (ps : Pairs) (es : Entries) → ArePairsClean ps → views_any_entries ps ≡ Some es → AreAnyEntries es
  any_entries_fit no_pairs es c e = subst AreAnyEntries (some_is no_entries es e) tt
  any_entries_fit (pair key t ps) es c e =
      let a = some_then (λ v. option_map (entry (value.str key) v) (views_any_entries ps)) (views_any t) es e in
      let b = some_map (entry (value.str key) a.0) (views_any_entries ps) es a.2 in
      subst AreAnyEntries b.2 (c.0.text, any_fits t a.0 c.2 a.1, any_entries_fit ps b.0 c.3 b.1)

-- ---- leaves

-- the value of a clean tree with its options sorted
abbrev sorted_value : (t : Tree) (v : Value) → IsClean t → Some (datum itself (sorted_tree t)) ≡ Some v → IsTreeValue v
sorted_value t v c e = record { tree = sorted_tree t; ranges = sorted_in_range t (clean_in_range t c); is_datum = some_is (datum itself (sorted_tree t)) v e }

kind_taken : (b : Bool) (k : ElementType) (t : Tree) (v : Value) → IsClean t → nat_eq (byte (kind t)) (byte k) ≡ b → cond b (Some (datum itself (sorted_tree t))) None ≡ Some v → IsValueOfKind k v
kind_taken true k t v c is e = record { of_tree = sorted_value t v c e; has_kind = sorted_kind t ∙ same_kind (kind t) k is }
kind_taken false k t v c is e = absurd (no_some e)

uuid_taken : (a b : Bool) (bs : Bytes) (v : Value) → AreBytes bs → nat_eq (length bs) 16 ≡ b → cond (a && b) (Some (uuid_datum itself bs)) None ≡ Some v → IsUuidValue v
uuid_taken true true bs v h is e = record { id = bs; sixteen = record { are_bytes = h; count = grind (arith, nat_tests, is) }; is_datum = some_is (uuid_datum itself bs) v e }
uuid_taken true false bs v h is e = absurd (no_some e)
uuid_taken false b bs v h is e = absurd (no_some e)

extended_taken : (k : ExtendedLeaf) (t : Tree) (v : Value) → IsClean t → views_extended k t ≡ Some v → FitsExtended k v
extended_taken object_ids (tree.object_id id) v c e = record { of_tree = sorted_value (tree.object_id id) v c e; has_kind = refl }
extended_taken uuids (binary n b) v c e = uuid_taken (nat_eq n 4) (nat_eq (length b) 16) b v c.are_bytes refl e
extended_taken (of_kind k) t v c e = kind_taken (nat_eq (byte (kind t)) (byte k)) k t v c refl e
extended_taken trees t v c e = sorted_value t v c e
extended_taken documents (document ps) v c e = record { of_tree = sorted_value (document ps) v c e; has_kind = refl }
extended_taken k t v c e = absurd (no_some e)

leaf_taken : (k : LeafKind) (t : Tree) (v : Value) → IsClean t → views_leaf k t ≡ Some v → FitsLeaf k v
leaf_taken anything t v c e = any_fits t v c e
leaf_taken booleans (boolean b) v c e = subst (FitsLeaf booleans) (some_is (value.boolean b) v e) tt
leaf_taken (numbers type) (int32 n) v c e = let r = in_range_or type n (in_range type n) v e in subst (FitsLeaf (numbers type)) (sym r.2) (refl, r.1)
leaf_taken (numbers type) (int64 n) v c e = let r = in_range_or type n (in_range type n) v e in subst (FitsLeaf (numbers type)) (sym r.2) (refl, r.1)
leaf_taken doubles (double bits) v c e = subst (FitsLeaf doubles) (some_is (value.double bits) v e) c
leaf_taken characters (string t) v c e =
    let m = some_map value.character (one_character (chars t)) v e in
    subst (FitsLeaf characters) m.2 (one_scalar (chars t) m.0 (scalars-chars t (IsUtf8-from_is_utf8 t c)) m.1)
leaf_taken texts (string t) v c e = subst (FitsLeaf texts) (some_is (value.str t) v e) c
leaf_taken byte_strings (binary zero bs) v c e = subst (FitsLeaf byte_strings) (some_is (value.bytes bs) v e) c.are_bytes
leaf_taken byte_buffers (binary zero bs) v c e = subst (FitsLeaf byte_buffers) (some_is (value.bytes bs) v e) c.are_bytes
leaf_taken byte_buffers t v c e = absurd cc
leaf_taken units null v c e = subst (FitsLeaf units) (some_is value.unit v e) tt
leaf_taken (extended_values k) t v c e = extended_taken k t v c e
leaf_taken k t v c e = absurd (no_some e)

-- ---- options and missing fields

option_fits : (s : Form) (t : Tree) (v : Value) → ((w : Value) → views s t ≡ Some w → Fits w s) → views (optional s) t ≡ Some v → Fits v (optional s)
option_fits s null v inner e = subst (λ x. Fits x (optional s)) (some_is value.none v e) tt
option_fits s t v inner e = let m = some_map value.some (views s t) v e in subst (λ x. Fits x (optional s)) m.2 (inner m.0 m.1)

absent_fits : (s : Form) (v : Value) → absent s ≡ Some v → Fits v s
absent_fits (optional s) v e = subst (λ x. Fits x (optional s)) (some_is value.none v e) tt
absent_fits s v e = absurd (no_some e)

field_fits : (s : Form) (o : Option Tree) (v : Value) → ((t : Tree) → o ≡ Some t → views s t ≡ Some v → Fits v s) → views_at (views s) (absent s) o ≡ Some v → Fits v s
field_fits s None v found e = absent_fits s v e
field_fits s (Some t) v found e = found t refl e

-- ---- documents and arrays

abbrev at_pair : Bool → Tree → Option Tree → Option Tree
at_pair b t o = cond b (Some t) o

clean_either : (b : Bool) (t u : Tree) (o : Option Tree) → IsClean t → (o ≡ Some u → IsClean u) → at_pair b t o ≡ Some u → IsClean u
clean_either true t u o c h e = subst IsClean (some_is t u e) c
clean_either false t u o c h e = h e

lookup_clean : (key : Utf8) (ps : Pairs) (t : Tree) → ArePairsClean ps → lookup key ps ≡ Some t → IsClean t
lookup_clean key no_pairs t c e = absurd (no_some e)
lookup_clean key (pair k u ps) t c e = clean_either (bytes_eq key k) u t (lookup key ps) c.2 (λ h. lookup_clean key ps t c.3 h) e

-- the values of an array fit the shape of its items
items_fit : (s : Form) → ((t : Tree) (v : Value) → IsClean t → views s t ≡ Some v → Fits v s) → (ts : Trees) (vs : Items) → AreTreesClean ts → views_items (views s) ts ≡ Some vs → ItemsFit vs s
items_fit s each no_trees vs c e = subst (λ x. ItemsFit x s) (some_is no_items vs e) tt
items_fit s each (tree.tree t ts) vs c e =
    let a = some_then (λ v. option_map (item v) (views_items (views s) ts)) (views s t) vs e in
    let b = some_map (item a.0) (views_items (views s) ts) vs a.2 in
    subst (λ x. ItemsFit x s) b.2 (each t a.0 c.0 a.1, items_fit s each ts b.0 c.1 b.1)

-- a key that is a text fits the shape of the keys
leaf_key_fits : (k : LeafKind) (key : Utf8) (v : Value) → is_utf8 key ≡ true → views_leaf_key k key ≡ Some v → FitsLeafKey k v
leaf_key_fits texts key v u e = subst IsText (some_is (value.str key) v e) u
leaf_key_fits k key v u e = absurd (no_some e)

key_fits : (s : Form) (key : Utf8) (v : Value) → is_utf8 key ≡ true → views_key s key ≡ Some v → FitsKey s v
key_fits (leaf l) key v u e = leaf_key_fits (leaf_kind l) key v u e
key_fits (enumeration vs) key v u e = let h = unit_is key (content_of vs key) v e in subst (FitsKey (enumeration vs)) (sym h.1) h.0
key_fits s key v u e = absurd (no_some e)

-- the pairs of a document fit the shapes of the keys and of the values
entries_fit : (key s : Form) → ((t : Tree) (v : Value) → IsClean t → views s t ≡ Some v → Fits v s) → (ps : Pairs) (es : Entries) → ArePairsClean ps → views_entries (views_key key) (views s) ps ≡ Some es → EntriesFit es key s
entries_fit key s each no_pairs es c e = subst (λ x. EntriesFit x key s) (some_is no_entries es e) tt
entries_fit key s each (pair name t ps) es c e =
    let a = some_then (λ k. option_and_then (λ v. option_map (entry k v) (views_entries (views_key key) (views s) ps)) (views s t)) (views_key key name) es e in
    let b = some_then (λ v. option_map (entry a.0 v) (views_entries (views_key key) (views s) ps)) (views s t) es a.2 in
    let m = some_map (entry a.0 b.0) (views_entries (views_key key) (views s) ps) es b.2 in
    subst (λ x. EntriesFit x key s) m.2 (key_fits key name a.0 c.0.text a.1, each t b.0 c.2 b.1, entries_fit key s each ps m.0 c.3 m.1)

mutual
  pub views_fit : (s : Form) (t : Tree) (v : Value) → IsClean t → views s t ≡ Some v → Fits v s
  views_fit (leaf l) t v c e = leaf_fits v l (leaf_taken (leaf_kind l) t v c e)
  views_fit (optional s) t v c e = option_fits s t v (λ w h. views_fit s t w c h) e
  views_fit (lossy s) t v c e = lossy_fits v s (views_fit s t v c e)
  views_fit (definitions h s) t v c e = body_fits v h s (views_fit s t v c e)
  views_fit (newtype name s) t v c e =
      let m = some_map (value.newtype name) (views s t) v e in
      subst (λ x. Fits x (newtype name s)) m.2 (refl, views_fit s t m.0 c m.1)
  views_fit (unit_structure name) null v c e = subst (λ x. Fits x (unit_structure name)) (some_is (value.unit_structure name) v e) refl
  views_fit (sequence s) (array ts) v c e =
      let b = some_map value.sequence (views_items (views s) ts) v e in
      subst (λ x. Fits x (sequence s)) b.2 (items_fit s (λ t w. views_fit s t w) ts b.0 c b.1)
  views_fit (map key s) (document ps) v c e =
      let b = some_map value.map (views_entries (views_key key) (views s) ps) v e in
      subst (λ x. Fits x (map key s)) b.2 (entries_fit key s (λ t w. views_fit s t w) ps b.0 c b.1)
  views_fit (structure u name fs) (document ps) v c e =
      let k = where_known (all_known u fs ps) (option_map (value.structure name) (views_fields fs ps)) v e in
      let b = some_map (value.structure name) (views_fields fs ps) v k.1 in
      subst (λ x. Fits x (structure u name fs)) b.2 (refl, views_fields_fit fs ps b.0 c b.1)
  views_fit (tuple ps) (array ts) v c e =
      let b = some_map value.tuple (views_parts ps ts) v e in
      subst (λ x. Fits x (tuple ps)) b.2 (views_parts_fit ps ts b.0 c b.1)
  views_fit (tuple_structure name ps) (array ts) v c e =
      let b = some_map (value.tuple_structure name) (views_parts ps ts) v e in
      subst (λ x. Fits x (tuple_structure name ps)) b.2 (refl, views_parts_fit ps ts b.0 c b.1)
  views_fit (enumeration vs) (string name) v c e = let h = unit_is name (content_of vs name) v e in subst (λ x. Fits x (enumeration vs)) (sym h.1) h.0
  views_fit (enumeration vs) (document (pair name t no_pairs)) v c e = let f = views_variant_fit vs name t v c.2 e in variant_fits vs name f.0 v f.1 f.2
  views_fit s t v c e = absurd (no_some e)

  views_parts_fit : (ps : Parts) (ts : Trees) (vs : Items) → AreTreesClean ts → views_parts ps ts ≡ Some vs → PartsFit vs ps
  views_parts_fit no_parts no_trees vs c e = subst (λ x. PartsFit x no_parts) (some_is no_items vs e) tt
  views_parts_fit (part s ps) (tree.tree t ts) vs c e =
      let a = some_then (λ v. option_map (item v) (views_parts ps ts)) (views s t) vs e in
      let b = some_map (item a.0) (views_parts ps ts) vs a.2 in
      subst (λ x. PartsFit x (part s ps)) b.2 (views_fit s t a.0 c.0 a.1, views_parts_fit ps ts b.0 c.1 b.1)
  views_parts_fit ps ts vs c e = absurd (no_some e)

  views_variant_fit : (vs : Variants) (name : Utf8) (t : Tree) (v : Value) → IsClean t → views_variant vs name t ≡ Some v → FitsVariant (content_of vs name) name v
  views_variant_fit no_variants name t v c e = absurd (no_some e)
  views_variant_fit (variant n d vs) name t v c e =
      chosen_fits (bytes_eq n name) n name d (content_of vs name) (views_content n d t) (views_variant vs name t) v refl e (λ h. views_content_fit d n t v c h) (λ h. views_variant_fit vs name t v c h)

  views_content_fit : (d : Content) (name : Utf8) (t : Tree) (v : Value) → IsClean t → views_content name d t ≡ Some v → FitsContent name d v
  views_content_fit (newtype_content s) name t v c e = let m = some_map (value.newtype_variant name) (views s t) v e in (m.0, sym m.2, views_fit s t m.0 c m.1)
  views_content_fit (tuple_content ps) name (array ts) v c e = let m = some_map (value.tuple_variant name) (views_parts ps ts) v e in (m.0, sym m.2, views_parts_fit ps ts m.0 c m.1)
  views_content_fit (struct_content fs) name (document ps) v c e = let m = some_map (value.structure_variant name) (views_fields fs ps) v e in (m.0, sym m.2, views_fields_fit fs ps m.0 c m.1)
  views_content_fit d name t v c e = absurd (no_some e)

  views_fields_fit : (fs : Fields) (ps : Pairs) (vs : FieldValues) → ArePairsClean ps → views_fields fs ps ≡ Some vs → FieldsFit vs fs
  views_fields_fit no_fields ps vs c e = subst (λ x. FieldsFit x no_fields) (some_is no_field_values vs e) tt
  views_fields_fit (field n s fs) ps vs c e =
      let a = some_then (λ v. option_map (field_value n v) (views_fields fs ps)) (views_at (views s) (absent s) (lookup n ps)) vs e in
      let b = some_map (field_value n a.0) (views_fields fs ps) vs a.2 in
      let first = field_fits s (lookup n ps) a.0 (λ t at is. views_fit s t a.0 (lookup_clean n ps t c at) is) a.1 in
      subst (λ x. FieldsFit x (field n s fs)) b.2 (refl, first, views_fields_fit fs ps b.0 c b.1)

-- ---- normal forms

-- the value is its own normal form, and means null only where the tree is null
abbrev IsNormal : Tree → Value → Type 0
IsNormal t v = (norm v ≡ v) × (means v ≡ Some null → t ≡ null)

wide_not_null : (b : Bool) (n : ℤ) → cond b None (Some (int64 n)) ≡ Some null → ⊥
wide_not_null true n e = absurd (no_some e)
wide_not_null false n e = absurd cc

number_not_null : (k : ElementType) (n : ℤ) → number_of k n ≡ Some null → ⊥
number_not_null Int32 n e = absurd cc
number_not_null k n e = wide_not_null _ n e

number_normal : (type : IntegerType) (n : ℤ) (t : Tree) (v : Value) → cond (in_range type n) (Some (value.integer type n)) None ≡ Some v → IsNormal t v
number_normal type n t v e =
    let r = in_range_or type n (in_range type n) v e in
    subst (IsNormal t) (sym r.2) (refl, λ h. absurd (number_not_null (written_as type) n h))

-- a sequence and a map do not mean null
no_sequence : (vs : Items) → option_map array (means_items vs) ≡ Some null → ⊥
no_sequence vs e = let m = some_map array (means_items vs) null e in absurd cc

no_map : (es : Entries) → option_map document (means_entries es) ≡ Some null → ⊥
no_map es e = let m = some_map document (means_entries es) null e in absurd cc

mutual
  any_normal : (t : Tree) (v : Value) → views_any t ≡ Some v → IsNormal t v
  any_normal (boolean b) v e = subst (IsNormal (boolean b)) (some_is (value.boolean b) v e) (refl, λ h. absurd cc)
  any_normal (int32 n) v e = subst (IsNormal (int32 n)) (some_is (value.integer i32 n) v e) (refl, λ h. absurd (number_not_null (written_as i32) n h))
  any_normal (int64 n) v e = subst (IsNormal (int64 n)) (some_is (value.integer i64 n) v e) (refl, λ h. absurd (number_not_null (written_as i64) n h))
  any_normal (double bits) v e = subst (IsNormal (double bits)) (some_is (value.double bits) v e) (refl, λ h. absurd cc)
  any_normal (string t) v e = subst (IsNormal (string t)) (some_is (value.str t) v e) (refl, λ h. absurd cc)
  any_normal (binary zero bs) v e = subst (IsNormal (binary zero bs)) (some_is (value.bytes bs) v e) (refl, λ h. absurd cc)
  any_normal null v e = subst (IsNormal null) (some_is value.unit v e) (refl, λ h. refl)
  any_normal (array ts) v e =
      let m = some_map value.sequence (views_any_items ts) v e in
      subst (IsNormal (array ts)) m.2 (ap value.sequence (any_items_normal ts m.0 m.1), λ h. absurd (no_sequence m.0 h))
  any_normal (document ps) v e =
      let m = some_map value.map (views_any_entries ps) v e in
      subst (IsNormal (document ps)) m.2 (ap value.map (any_entries_normal ps m.0 m.1), λ h. absurd (no_map m.0 h))
  any_normal t v e = absurd (no_some e)

  any_items_normal : (ts : Trees) (vs : Items) → views_any_items ts ≡ Some vs → norm_items vs ≡ vs
  any_items_normal no_trees vs e = subst (λ x. norm_items x ≡ x) (some_is no_items vs e) refl
  any_items_normal (tree.tree t ts) vs e =
      let a = some_then (λ v. option_map (item v) (views_any_items ts)) (views_any t) vs e in
      let b = some_map (item a.0) (views_any_items ts) vs a.2 in
      subst (λ x. norm_items x ≡ x) b.2 (λ i. item ((any_normal t a.0 a.1).0 i) (any_items_normal ts b.0 b.1 i))

  any_entries_normal : (ps : Pairs) (es : Entries) → views_any_entries ps ≡ Some es → norm_entries es ≡ es
  any_entries_normal no_pairs es e = subst (λ x. norm_entries x ≡ x) (some_is no_entries es e) refl
  any_entries_normal (pair key t ps) es e =
      let a = some_then (λ v. option_map (entry (value.str key) v) (views_any_entries ps)) (views_any t) es e in
      let b = some_map (entry (value.str key) a.0) (views_any_entries ps) es a.2 in
      subst (λ x. norm_entries x ≡ x) b.2 (λ i. entry (value.str key) ((any_normal t a.0 a.1).0 i) (any_entries_normal ps b.0 b.1 i))

-- only null is null once its options are sorted
null_sorted : (t : Tree) → sorted_tree (sorted_tree t) ≡ null → t ≡ null
null_sorted null e = refl
null_sorted t e = absurd (let is : kind t ≡ Null = sym (sorted_kind t) ∙ sym (sorted_kind (sorted_tree t)) ∙ ap kind e in cc)

sorted_normal : (t : Tree) (v : Value) → IsClean t → Some (datum itself (sorted_tree t)) ≡ Some v → IsNormal t v
sorted_normal t v c e =
    let r = clean_in_range t c in
    subst (IsNormal t) (some_is (datum itself (sorted_tree t)) v e)
    (datum_norm (sorted_tree t) ∙ ap (datum itself) (tree_sorted_twice t r), λ h. null_sorted t (sym (datum_means (sorted_tree t) null (sorted_in_range t r) h)))

kind_normal : (b : Bool) (t : Tree) (v : Value) → IsClean t → cond b (Some (datum itself (sorted_tree t))) None ≡ Some v → IsNormal t v
kind_normal true t v c e = sorted_normal t v c e
kind_normal false t v c e = absurd (no_some e)

uuid_normal : (a b : Bool) (t : Tree) (bs : Bytes) (v : Value) → cond (a && b) (Some (uuid_datum itself bs)) None ≡ Some v → IsNormal t v
uuid_normal true true t bs v e = subst (IsNormal t) (some_is (uuid_datum itself bs) v e) (refl, λ h. absurd cc)
uuid_normal true false t bs v e = absurd (no_some e)
uuid_normal false b t bs v e = absurd (no_some e)

extended_normal : (k : ExtendedLeaf) (t : Tree) (v : Value) → IsClean t → views_extended k t ≡ Some v → IsNormal t v
extended_normal object_ids (tree.object_id id) v c e = sorted_normal (tree.object_id id) v c e
extended_normal uuids (binary n b) v c e = uuid_normal (nat_eq n 4) (nat_eq (length b) 16) (binary n b) b v e
extended_normal (of_kind k) t v c e = kind_normal (nat_eq (byte (kind t)) (byte k)) t v c e
extended_normal trees t v c e = sorted_normal t v c e
extended_normal documents (document ps) v c e = sorted_normal (document ps) v c e
extended_normal k t v c e = absurd (no_some e)

leaf_normal : (k : LeafKind) (t : Tree) (v : Value) → IsClean t → views_leaf k t ≡ Some v → IsNormal t v
leaf_normal anything t v c e = any_normal t v e
leaf_normal booleans (boolean b) v c e = subst (IsNormal (boolean b)) (some_is (value.boolean b) v e) (refl, λ h. absurd cc)
leaf_normal (numbers type) (int32 n) v c e = number_normal type n (int32 n) v e
leaf_normal (numbers type) (int64 n) v c e = number_normal type n (int64 n) v e
leaf_normal doubles (double bits) v c e = subst (IsNormal (double bits)) (some_is (value.double bits) v e) (refl, λ h. absurd cc)
leaf_normal characters (string t) v c e = let m = some_map value.character (one_character (chars t)) v e in subst (IsNormal (string t)) m.2 (refl, λ h. absurd cc)
leaf_normal texts (string t) v c e = subst (IsNormal (string t)) (some_is (value.str t) v e) (refl, λ h. absurd cc)
leaf_normal byte_strings (binary zero bs) v c e = subst (IsNormal (binary zero bs)) (some_is (value.bytes bs) v e) (refl, λ h. absurd cc)
leaf_normal byte_buffers (binary zero bs) v c e = subst (IsNormal (binary zero bs)) (some_is (value.bytes bs) v e) (refl, λ h. absurd cc)
leaf_normal units null v c e = subst (IsNormal null) (some_is value.unit v e) (refl, λ h. refl)
leaf_normal (extended_values k) t v c e = extended_normal k t v c e
leaf_normal k t v c e = absurd (no_some e)

-- some value that does not mean null stays
stays : (o : Option Tree) (v : Value) → (o ≡ Some null → ⊥) → some_or_none o v ≡ value.some v
stays (Some null) v h = absurd (h refl)
stays o v h = refl

some_normal : (t : Tree) (v : Value) → (t ≡ null → ⊥) → IsNormal t v → IsNormal t (value.some v)
some_normal t v there h = (stays (means v) (norm v) (λ e. there (h.1 e)) ∙ ap value.some h.0, h.1)

option_normal : (s : Form) (t : Tree) (v : Value) → ((w : Value) → views s t ≡ Some w → IsNormal t w) → views (optional s) t ≡ Some v → IsNormal t v
option_normal s null v inner e = subst (IsNormal null) (some_is value.none v e) (refl, λ h. refl)
option_normal s t v inner e = let m = some_map value.some (views s t) v e in subst (IsNormal t) m.2 (some_normal t m.0 (λ h. absurd cc) (inner m.0 m.1))

absent_normal : (s : Form) (v : Value) → absent s ≡ Some v → norm v ≡ v
absent_normal (optional s) v e = subst (λ x. norm x ≡ x) (some_is value.none v e) refl
absent_normal s v e = absurd (no_some e)

field_normal : (s : Form) (o : Option Tree) (v : Value) → ((t : Tree) → o ≡ Some t → views s t ≡ Some v → IsNormal t v) → views_at (views s) (absent s) o ≡ Some v → norm v ≡ v
field_normal s None v found e = absent_normal s v e
field_normal s (Some t) v found e = (found t refl e).0

ok_of : (r : Writing Tree) (t : Tree) → result_ok r ≡ Some t → r ≡ Ok t
ok_of (Ok u) t e = ap Ok (some_is u t e)
ok_of (Err f) t e = absurd (no_some e)

abbrev nothing : Option Tree
nothing = None

no_tree : (t : Tree) → nothing ≡ Some t → ⊥
no_tree t h = cc h

-- no reserved name stands for null
no_reserved : (k : ElementType) (fs : FieldValues) (o : Option (Utf8 × Option Tree)) → reserved_means k (unwrap k fs) o ≡ Some null → ⊥
no_reserved JavaScriptCodeWithScope fs o e =
    let a = some_then (λ p. option_map (with_scope p.0) p.1) o null e in
    let m = some_map (with_scope a.0.0) a.0.1 null a.2 in
    let is : Null ≡ JavaScriptCodeWithScope = sym (ap kind m.2) ∙ scope_kind a.0.0 m.0 in
    absurd cc
no_reserved k fs o e =
    let a = some_then (λ t. result_ok (spell_whole t)) (unwrap k fs) null e in
    let is : Null ≡ k = whole_kind a.0 null (ok_of (spell_whole a.0) null a.2) ∙ unwrap_kind k fs a.0 a.1 in
    no_tree a.0 (ap (λ j. unwrap j fs) is ∙ a.1)

no_struct : (o : Option ElementType) (fs : FieldValues) (scoped : Option (Utf8 × Option Tree)) → struct_means o (means_fields fs) (λ k. reserved_means k (unwrap k fs) scoped) ≡ Some null → ⊥
no_struct None fs scoped e = let m = some_map document (means_fields fs) null e in absurd cc
no_struct (Some k) fs scoped e = no_reserved k fs scoped e

no_structure : (name : Utf8) (vs : FieldValues) → means (value.structure name vs) ≡ Some null → ⊥
no_structure name vs e = no_struct (reserved_kind name) vs (scoped_code (means_list vs [])) e

-- a newtype that means null holds what means null
null_newtype : (name : Utf8) (v : Value) → means (value.newtype name v) ≡ Some null → means v ≡ Some null
null_newtype name v e = newtype_meant name v null e (λ is bs u same. absurd cc) (λ free m. m)

items_normal : (s : Form) → ((t : Tree) (v : Value) → IsClean t → views s t ≡ Some v → IsNormal t v) → (ts : Trees) (vs : Items) → AreTreesClean ts → views_items (views s) ts ≡ Some vs → norm_items vs ≡ vs
items_normal s each no_trees vs c e = subst (λ x. norm_items x ≡ x) (some_is no_items vs e) refl
items_normal s each (tree.tree t ts) vs c e =
    let a = some_then (λ v. option_map (item v) (views_items (views s) ts)) (views s t) vs e in
    let b = some_map (item a.0) (views_items (views s) ts) vs a.2 in
    subst (λ x. norm_items x ≡ x) b.2 (λ i. item ((each t a.0 c.0 a.1).0 i) (items_normal s each ts b.0 c.1 b.1 i))

leaf_key_normal : (k : LeafKind) (key : Utf8) (v : Value) → views_leaf_key k key ≡ Some v → norm v ≡ v
leaf_key_normal texts key v e = subst (λ x. norm x ≡ x) (some_is (value.str key) v e) refl
leaf_key_normal k key v e = absurd (no_some e)

key_normal : (s : Form) (key : Utf8) (v : Value) → views_key s key ≡ Some v → norm v ≡ v
key_normal (leaf l) key v e = leaf_key_normal (leaf_kind l) key v e
key_normal (enumeration vs) key v e = subst (λ x. norm x ≡ x) (sym (unit_is key (content_of vs key) v e).1) refl
key_normal s key v e = absurd (no_some e)

entries_normal : (key s : Form) → ((t : Tree) (v : Value) → IsClean t → views s t ≡ Some v → IsNormal t v) → (ps : Pairs) (es : Entries) → ArePairsClean ps → views_entries (views_key key) (views s) ps ≡ Some es → norm_entries es ≡ es
entries_normal key s each no_pairs es c e = subst (λ x. norm_entries x ≡ x) (some_is no_entries es e) refl
entries_normal key s each (pair name t ps) es c e =
    let a = some_then (λ k. option_and_then (λ v. option_map (entry k v) (views_entries (views_key key) (views s) ps)) (views s t)) (views_key key name) es e in
    let b = some_then (λ v. option_map (entry a.0 v) (views_entries (views_key key) (views s) ps)) (views s t) es a.2 in
    let m = some_map (entry a.0 b.0) (views_entries (views_key key) (views s) ps) es b.2 in
    subst (λ x. norm_entries x ≡ x) m.2 (λ i. entry (key_normal key name a.0 a.1 i) ((each t b.0 c.2 b.1).0 i) (entries_normal key s each ps m.0 c.3 m.1 i))

-- the value is its own normal form, and does not mean null
abbrev IsVariantNormal : Value → Type 0
IsVariantNormal v = (norm v ≡ v) × (means v ≡ Some null → ⊥)

-- a document of one pair is not null
no_variant : {A : Type 0} (wrap : A → Tree) (name : Utf8) (o : Option A) → option_map (λ x. under_name name (wrap x)) o ≡ Some null → ⊥
no_variant wrap name o e = let m = some_map (λ x. under_name name (wrap x)) o null e in absurd cc

mutual
  views_normal : (s : Form) (t : Tree) (v : Value) → IsPlain s → IsClean t → views s t ≡ Some v → IsNormal t v
  views_normal (leaf l) t v p c e = leaf_normal (leaf_kind l) t v c e
  views_normal (optional s) t v p c e = option_normal s t v (λ w h. views_normal s t w p c h) e
  views_normal (lossy s) t v p c e = views_normal s t v p.1 c e
  views_normal (human_readable s) t v p c e = absurd p
  views_normal (by_mode readable compact) t v p c e = absurd p
  views_normal (definitions h s) t v p c e = views_normal s t v p.1 c e
  views_normal (newtype name s) t v p c e =
      let m = some_map (value.newtype name) (views s t) v e in
      let inner = views_normal s t m.0 p.1 c m.1 in
      subst (IsNormal t) m.2 (ap (value.newtype name) inner.0, λ h. inner.1 (null_newtype name m.0 h))
  views_normal (unit_structure name) null v p c e = subst (IsNormal null) (some_is (value.unit_structure name) v e) (refl, λ h. refl)
  views_normal (sequence s) (array ts) v p c e =
      let b = some_map value.sequence (views_items (views s) ts) v e in
      subst (IsNormal (array ts)) b.2 (ap value.sequence (items_normal s (λ t w. views_normal s t w p) ts b.0 c b.1), λ h. absurd (no_sequence b.0 h))
  views_normal (map key s) (document ps) v p c e =
      let b = some_map value.map (views_entries (views_key key) (views s) ps) v e in
      subst (IsNormal (document ps)) b.2 (ap value.map (entries_normal key s (λ t w. views_normal s t w p.2) ps b.0 c b.1), λ h. absurd (no_map b.0 h))
  views_normal (structure u name fs) (document ps) v p c e =
      let k = where_known (all_known u fs ps) (option_map (value.structure name) (views_fields fs ps)) v e in
      let b = some_map (value.structure name) (views_fields fs ps) v k.1 in
      subst (IsNormal (document ps)) b.2 (free_norm name b.0 (free_struct_name name p.0) ∙ ap (value.structure name) (fields_normal fs ps b.0 p.1 c b.1), λ h. absurd (no_structure name b.0 h))
  views_normal (tuple ps) (array ts) v p c e =
      let b = some_map value.tuple (views_parts ps ts) v e in
      subst (IsNormal (array ts)) b.2 (ap value.tuple (parts_normal ps ts b.0 p c b.1), λ h. absurd (no_sequence b.0 h))
  views_normal (tuple_structure name ps) (array ts) v p c e =
      let b = some_map (value.tuple_structure name) (views_parts ps ts) v e in
      subst (IsNormal (array ts)) b.2 (ap (value.tuple_structure name) (parts_normal ps ts b.0 p c b.1), λ h. absurd (no_sequence b.0 h))
  views_normal (enumeration vs) (string name) v p c e = subst (IsNormal (string name)) (sym (unit_is name (content_of vs name) v e).1) (refl, λ h. absurd cc)
  views_normal (enumeration vs) (document (pair name t no_pairs)) v p c e = let n = variant_normal vs name t v p c.2 e in (n.0, λ h. absurd (n.1 h))
  views_normal s t v p c e = absurd (no_some e)

  parts_normal : (ps : Parts) (ts : Trees) (vs : Items) → ArePartsPlain ps → AreTreesClean ts → views_parts ps ts ≡ Some vs → norm_items vs ≡ vs
  parts_normal no_parts no_trees vs p c e = subst (λ x. norm_items x ≡ x) (some_is no_items vs e) refl
  parts_normal (part s ps) (tree.tree t ts) vs p c e =
      let a = some_then (λ v. option_map (item v) (views_parts ps ts)) (views s t) vs e in
      let b = some_map (item a.0) (views_parts ps ts) vs a.2 in
      subst (λ x. norm_items x ≡ x) b.2 (λ i. item ((views_normal s t a.0 p.0 c.0 a.1).0 i) (parts_normal ps ts b.0 p.1 c.1 b.1 i))
  parts_normal ps ts vs p c e = absurd (no_some e)

  variant_normal : (vs : Variants) (name : Utf8) (t : Tree) (v : Value) → AreVariantsPlain vs → IsClean t → views_variant vs name t ≡ Some v → IsVariantNormal v
  variant_normal no_variants name t v p c e = absurd (no_some e)
  variant_normal (variant n d vs) name t v p c e =
      chosen_holds {P = IsVariantNormal v} (bytes_eq n name) (views_content n d t) (views_variant vs name t) v e (λ h. content_normal d n t v p.1 c h) (λ h. variant_normal vs name t v p.2 c h)

  content_normal : (d : Content) (name : Utf8) (t : Tree) (v : Value) → IsContentPlain d → IsClean t → views_content name d t ≡ Some v → IsVariantNormal v
  content_normal (newtype_content s) name t v p c e =
      let m = some_map (value.newtype_variant name) (views s t) v e in
      subst IsVariantNormal m.2 (ap (value.newtype_variant name) (views_normal s t m.0 p c m.1).0, λ h. no_variant (λ x. x) name (means m.0) h)
  content_normal (tuple_content ps) name (array ts) v p c e =
      let m = some_map (value.tuple_variant name) (views_parts ps ts) v e in
      subst IsVariantNormal m.2 (ap (value.tuple_variant name) (parts_normal ps ts m.0 p c m.1), λ h. no_variant array name (means_items m.0) h)
  content_normal (struct_content fs) name (document ps) v p c e =
      let m = some_map (value.structure_variant name) (views_fields fs ps) v e in
      subst IsVariantNormal m.2 (ap (value.structure_variant name) (fields_normal fs ps m.0 p c m.1), λ h. no_variant document name (means_fields m.0) h)
  content_normal d name t v p c e = absurd (no_some e)

  fields_normal : (fs : Fields) (ps : Pairs) (vs : FieldValues) → AreFieldsPlain fs → ArePairsClean ps → views_fields fs ps ≡ Some vs → norm_fields vs ≡ vs
  fields_normal no_fields ps vs p c e = subst (λ x. norm_fields x ≡ x) (some_is no_field_values vs e) refl
  fields_normal (field n s fs) ps vs p c e =
      let a = some_then (λ v. option_map (field_value n v) (views_fields fs ps)) (views_at (views s) (absent s) (lookup n ps)) vs e in
      let b = some_map (field_value n a.0) (views_fields fs ps) vs a.2 in
      let first = field_normal s (lookup n ps) a.0 (λ t at is. views_normal s t a.0 p.1 (lookup_clean n ps t c at) is) a.1 in
      subst (λ x. norm_fields x ≡ x) b.2 (λ i. field_value n (first i) (fields_normal fs ps b.0 p.2 c b.1 i))

pub norm_same : (s : Form) (t : Tree) (v : Value) → IsPlain s → IsClean t → views s t ≡ Some v → norm v ≡ v
norm_same s t v p c e = (views_normal s t v p c e).0
