-- What a sound document is at a form that is inferred is written.
use Rattle.std.proofs.Common.{◌≡◌, ℕ, zero, suc, ◌≤◌, [], ℤ, pos, negsuc, Bool, true, false, cond, Option, Some, None, Ok, Err, refl, ap, sym, subst, ◌∙◌, arith}
use Rattle.std.specs.Prelude.{IsSome, int_lt, option_map}
use Rattle.std.specs.Str.{bytes_eq}
use Rattle.std.proofs.lemmas.Int.{ints}
use Rattle.bson_kinds.specs.Outcome.{◌>>=◌, result_map}
use Rattle.bson_base.specs.Pairs.{lookup}
use Rattle.bson_base.specs.Sound.{IsClean, ArePairsClean, AreTreesClean, IsDocument, IsSound, max_levels}
use Rattle.bson_kinds.specs.Text.{Utf8}
use Rattle.bson_base.specs.Tree as tree
use Rattle.bson_base.specs.Tree.{Tree, document, array, null, string, boolean, binary, int32, int64, double, object_id, Pairs, no_pairs, pair, Trees, no_trees, depth, pairs_depth, trees_depth}
use Rattle.bson_kinds.specs.declared.element_type.ElementType.{ElementType}
use Rattle.bson_kinds.specs.declared.element_type.ElementType.TheVariants as kinds
use Rattle.bson_kinds.proofs.Outcomes.{some_is, some_map, some_then}
use Rattle.bson_shape.specs.Form.{dropped, Form, leaf, optional, sequence, structure, enumeration, Fields, no_fields, field, no_variants}
use Rattle.bson_shape.specs.Makers.{IsShape}
use Rattle.bson_shape.specs.declared.leaf.Leaf.{Leaf}
use Rattle.bson_shape.specs.declared.leaf.Leaf.TheVariants.{Bool as BoolLeaf, I32, I64, Double, String, ByteBuf, Binary, Unit as UnitLeaf, ObjectId, DateTime, Timestamp, Regex, CodeWithScope, Decimal128, DbPointer, Bson}
use Rattle.bson_values.specs.Refusal.{here, invalid_cstring, unsigned_exceeds, under, under_index}
use Rattle.bson_values.specs.Value as value
use Rattle.bson_values.specs.Value.{i32, i64, in_range, greatest, Value, Items, no_items, item, FieldValues, no_field_values, field_value}
use Rattle.bson_laws.specs.Datum.{datum, itself, sorted_tree}
use Rattle.bson_laws.specs.Leaves.{object_ids, of_kind, leaf_kind, booleans, numbers, doubles, texts, byte_buffers, units}
use Rattle.bson_laws.specs.Plain.{IsPlain}
use Rattle.bson_laws.specs.Spell.{spell, spell_items, spell_fields, spell_document}
use Rattle.bson_laws.specs.Views.{views_items, absent, views_at, views_leaf, views_extended, views, views_fields}
use Rattle.bson_laws.proofs.DatumSpelled.{datum_spelled}
use Rattle.bson_laws.proofs.AtShapes.{views_reads}
use Rattle.bson_laws.proofs.Spelled.{binary_spelled}
use Rattle.bson_infer_laws.specs.Inferred.{inferred, AllTrees}
use Rattle.bson_infer_laws.specs.Recasts.{IsRecast}
use Rattle.bson_infer_laws.proofs.Levels.{inferred_shape}
use Rattle.bson_infer_laws.proofs.PlainJoin.{inferred_plain}
use Rattle.bson_infer_laws.proofs.Seen.{view_usual}
use Rattle.bson_infer_laws.proofs.Shapes.{each_views}
use Rattle.bson_infer_laws.proofs.SortedOptions.{sorted_clean, sorted_depth}
use Rattle.bson_infer_laws.proofs.Usual.{IsUsualLeaf, IsUsual, AreUsual, IsOfDocuments, inferred_usual, inferred_of}
use Rattle.bson_kinds.proofs.Apart.{no_some}

-- a value that is written where so many levels are left
abbrev IsWritten : Value → ℕ → Type 0
IsWritten v levels = (u : Tree) × (spell v levels ≡ Ok u)

-- a value that is another one is written where that is
written_as_it : (w v : Value) (levels : ℕ) → Some w ≡ Some v → IsWritten w levels → IsWritten v levels
written_as_it w v levels e h = subst (λ x. IsWritten x levels) (some_is w v e) h

-- ---- leaves

chosen_written : (b : Bool) (w v : Value) (levels : ℕ) → cond b (Some w) None ≡ Some v → (b ≡ true → IsWritten w levels) → IsWritten v levels
chosen_written true w v levels e h = written_as_it w v levels e (h refl)
chosen_written false w v levels e h = absurd cc

wide_written : (b : Bool) (n : ℤ) (levels : ℕ) → int_lt (greatest i64) n ≡ b → b ≡ false → IsWritten (value.integer i64 n) levels
wide_written true n levels e f = absurd cc
wide_written false n levels e f = (int64 n, ap (λ c. cond c (Err (here (unsigned_exceeds n))) (Ok (int64 n))) e)

not_above : (n : ℤ) → in_range i64 n ≡ true → int_lt (greatest i64) n ≡ false
not_above (pos n) h = grind (arith, ints, h)
not_above (negsuc n) h = grind (arith, ints, h)

long_written : (n : ℤ) (v : Value) (levels : ℕ) → cond (in_range i64 n) (Some (value.integer i64 n)) None ≡ Some v → IsWritten v levels
long_written n v levels e = chosen_written (in_range i64 n) (value.integer i64 n) v levels e (λ is. wide_written (int_lt (greatest i64) n) n levels refl (not_above n is))

booleans_written : (t : Tree) (v : Value) (levels : ℕ) → views_leaf booleans t ≡ Some v → IsWritten v levels
booleans_written (boolean b) v levels e = written_as_it (value.boolean b) v levels e (boolean b, refl)
booleans_written t v levels e = absurd (no_some e)

ints_written : (t : Tree) (v : Value) (levels : ℕ) → views_leaf (numbers i32) t ≡ Some v → IsWritten v levels
ints_written (int32 n) v levels e = chosen_written (in_range i32 n) (value.integer i32 n) v levels e (λ is. (int32 n, refl))
ints_written (int64 n) v levels e = chosen_written (in_range i32 n) (value.integer i32 n) v levels e (λ is. (int32 n, refl))
ints_written t v levels e = absurd (no_some e)

longs_written : (t : Tree) (v : Value) (levels : ℕ) → views_leaf (numbers i64) t ≡ Some v → IsWritten v levels
longs_written (int32 n) v levels e = long_written n v levels e
longs_written (int64 n) v levels e = long_written n v levels e
longs_written t v levels e = absurd (no_some e)

doubles_written : (t : Tree) (v : Value) (levels : ℕ) → views_leaf doubles t ≡ Some v → IsWritten v levels
doubles_written (double bits) v levels e = written_as_it (value.double bits) v levels e (double bits, refl)
doubles_written t v levels e = absurd (no_some e)

texts_written : (t : Tree) (v : Value) (levels : ℕ) → views_leaf texts t ≡ Some v → IsWritten v levels
texts_written (string x) v levels e = written_as_it (value.str x) v levels e (string x, refl)
texts_written t v levels e = absurd (no_some e)

buffers_written : (t : Tree) (v : Value) (levels : ℕ) → IsClean t → views_leaf byte_buffers t ≡ Some v → IsWritten v levels
buffers_written (binary zero b) v levels c e = written_as_it (value.bytes b) v levels e (binary 0 b, binary_spelled 0 b c)
buffers_written t v levels c e = absurd (no_some e)

units_written : (t : Tree) (v : Value) (levels : ℕ) → views_leaf units t ≡ Some v → IsWritten v levels
units_written null v levels e = written_as_it value.unit v levels e (null, refl)
units_written t v levels e = absurd (no_some e)

-- the value that a tree is, with its options in order
tree_written : (t : Tree) (levels : ℕ) → IsClean t → depth t ≤ levels → IsWritten (datum itself (sorted_tree t)) levels
tree_written t levels c d = (sorted_tree (sorted_tree t), datum_spelled false (sorted_tree t) levels (sorted_clean t c) (subst (λ n. n ≤ levels) (sym (sorted_depth t)) d))

ids_written : (t : Tree) (v : Value) (levels : ℕ) → IsClean t → depth t ≤ levels → views_extended object_ids t ≡ Some v → IsWritten v levels
ids_written (object_id id) v levels c d e = written_as_it (datum itself (object_id id)) v levels e (object_id id, datum_spelled false (object_id id) levels c d)
ids_written t v levels c d e = absurd (no_some e)

kind_written : (k : ElementType) (t : Tree) (v : Value) (levels : ℕ) → IsClean t → depth t ≤ levels → views_extended (of_kind k) t ≡ Some v → IsWritten v levels
kind_written k t v levels c d e = chosen_written _ (datum itself (sorted_tree t)) v levels e (λ is. tree_written t levels c d)

leaf_written : (l : Leaf) (t : Tree) (v : Value) (levels : ℕ) → IsUsualLeaf l → IsClean t → depth t ≤ levels → views_leaf (leaf_kind l) t ≡ Some v → IsWritten v levels
leaf_written BoolLeaf t v levels p c d e = booleans_written t v levels e
leaf_written I32 t v levels p c d e = ints_written t v levels e
leaf_written I64 t v levels p c d e = longs_written t v levels e
leaf_written Double t v levels p c d e = doubles_written t v levels e
leaf_written String t v levels p c d e = texts_written t v levels e
leaf_written ByteBuf t v levels p c d e = buffers_written t v levels c e
leaf_written Binary t v levels p c d e = kind_written kinds.Binary t v levels c d e
leaf_written UnitLeaf t v levels p c d e = units_written t v levels e
leaf_written ObjectId t v levels p c d e = ids_written t v levels c d e
leaf_written DateTime t v levels p c d e = kind_written kinds.DateTime t v levels c d e
leaf_written Timestamp t v levels p c d e = kind_written kinds.Timestamp t v levels c d e
leaf_written Regex t v levels p c d e = kind_written kinds.RegularExpression t v levels c d e
leaf_written CodeWithScope t v levels p c d e = kind_written kinds.JavaScriptCodeWithScope t v levels c d e
leaf_written Decimal128 t v levels p c d e = kind_written kinds.Decimal128 t v levels c d e
leaf_written DbPointer t v levels p c d e = kind_written kinds.DbPointer t v levels c d e
leaf_written Bson t v levels p c d e = written_as_it (datum itself (sorted_tree t)) v levels e (tree_written t levels c d)
leaf_written l t v levels p c d e = absurd p

-- ---- nothing is nothing

nothing_viewed : (t : Tree) (v : Value) → views (enumeration no_variants) t ≡ Some v → ⊥
nothing_viewed (string name) v e = cc
nothing_viewed (document no_pairs) v e = cc
nothing_viewed (document (pair key t no_pairs)) v e = cc
nothing_viewed (document (pair key t (pair k u ps))) v e = cc
nothing_viewed t v e = cc

-- ---- fields

-- what a form's view of a tree is, is written
abbrev ViewsWritten : Form → Type 0
ViewsWritten s = (t : Tree) (v : Value) (levels : ℕ) → IsClean t → depth t ≤ levels → views s t ≡ Some v → IsWritten v levels

absent_written : (s : Form) (v : Value) (levels : ℕ) → absent s ≡ Some v → IsWritten v levels
absent_written (optional s) v levels e = written_as_it value.none v levels e (null, refl)
absent_written s v levels e = absurd (no_some e)

first_found : (P : Tree → Type 0) (b : Bool) (u t : Tree) (o : Option Tree) → cond b (Some u) o ≡ Some t → P u → (o ≡ Some t → P t) → P t
first_found P true u t o e h later = subst P (some_is u t e) h
first_found P false u t o e h later = later e

found_clean : (key : Utf8) (ps : Pairs) (t : Tree) (levels : ℕ) → ArePairsClean ps → pairs_depth ps ≤ levels → lookup key ps ≡ Some t → IsClean t × (depth t ≤ levels)
found_clean key no_pairs t levels c d e = absurd (no_some e)
found_clean key (pair k u ps) t levels c d e =
    first_found (λ x. IsClean x × (depth x ≤ levels)) (bytes_eq key k) u t (lookup key ps) e (c.2, omega arith) (λ h. found_clean key ps t levels c.3 (omega arith) h)

at_written : (s : Form) (o : Option Tree) (v : Value) (levels : ℕ) → ViewsWritten s → ((t : Tree) → o ≡ Some t → IsClean t × (depth t ≤ levels)) → views_at (views s) (absent s) o ≡ Some v → IsWritten v levels
at_written s None v levels each h e = absent_written s v levels e
at_written s (Some t) v levels each h e = let c = h t refl in each t v levels c.0 c.1 e

-- ---- values

items_written : (s : Form) → ViewsWritten s → (i : ℕ) (ts : Trees) (vs : Items) (levels : ℕ) → AreTreesClean ts → trees_depth ts ≤ levels → views_items (views s) ts ≡ Some vs → (us : Trees) × (spell_items i vs levels ≡ Ok us)
items_written s each i no_trees vs levels c d e = (no_trees, subst (λ x. spell_items i x levels ≡ Ok no_trees) (some_is no_items vs e) refl)
items_written s each i (tree.tree t ts) vs levels c d e =
    let a = some_then (λ v. option_map (item v) (views_items (views s) ts)) (views s t) vs e in
    let b = some_map (item a.0) (views_items (views s) ts) vs a.2 in
    let first = each t a.0 levels c.0 (omega arith) a.1 in
    let rest = items_written s each (suc i) ts b.0 levels c.1 (omega arith) b.1 in (
      tree.tree first.0 rest.0,
      subst (λ x. spell_items i x levels ≡ Ok (tree.tree first.0 rest.0)) b.2
          (ap (λ r. under_index i r >>= λ u. spell_items (suc i) b.0 levels >>= λ us. Ok (tree.tree u us)) first.1 ∙ ap (λ r. r >>= λ us. Ok (tree.tree first.0 us)) rest.1),
    )

-- ---- forms

mutual
  form_written : (s : Form) (t : Tree) (v : Value) (levels : ℕ) → IsUsual s → IsClean t → depth t ≤ levels → views s t ≡ Some v → IsWritten v levels
  form_written (leaf l) t v levels p c d e = leaf_written l t v levels p c d e
  form_written (optional s) null v levels p c d e = written_as_it value.none v levels e (null, refl)
  form_written (optional s) t v levels p c d e =
      let m = some_map value.some (views s t) v e in
      let r = form_written s t m.0 levels p c d m.1 in
      subst (λ x. IsWritten x levels) m.2 (r.0, r.1)
  form_written (sequence s) (array ts) v zero p c d e = absurd (omega arith)
  form_written (sequence s) (array ts) v (suc n) p c d e =
      let m = some_map value.sequence (views_items (views s) ts) v e in
      let r = items_written s (λ u w levels h k q. form_written s u w levels p h k q) 0 ts m.0 n c (omega arith) m.1 in
      subst (λ x. IsWritten x (suc n)) m.2 (array r.0, ap (result_map array) r.1)
  form_written (sequence s) t v levels p c d e = absurd (no_some e)
  form_written (structure dropped name fs) (document ps) v zero p c d e = absurd (omega arith)
  form_written (structure dropped name fs) (document ps) v (suc n) p c d e =
      let m = some_map (value.structure name) (views_fields fs ps) v e in
      let r = fields_written fs ps m.0 n p.1 c (omega arith) m.1 in
      subst (λ x. IsWritten x (suc n)) m.2 (subst (λ k. IsWritten (value.structure k m.0) (suc n)) (sym p.0) (document r.0, ap (result_map document) r.1))
  form_written (structure dropped name fs) t v levels p c d e = absurd (no_some e)
  form_written (enumeration no_variants) t v levels p c d e = absurd (nothing_viewed t v e)
  form_written s t v levels p c d e = absurd p

  fields_written : (fs : Fields) (ps : Pairs) (vs : FieldValues) (levels : ℕ) → AreUsual fs → ArePairsClean ps → pairs_depth ps ≤ levels → views_fields fs ps ≡ Some vs → (qs : Pairs) × (spell_fields vs levels ≡ Ok qs)
  fields_written no_fields ps vs levels p c d e = (no_pairs, subst (λ x. spell_fields x levels ≡ Ok no_pairs) (some_is no_field_values vs e) refl)
  fields_written (field name s fs) ps vs levels p c d e =
      let a = some_then (λ v. option_map (field_value name v) (views_fields fs ps)) (views_at (views s) (absent s) (lookup name ps)) vs e in
      let b = some_map (field_value name a.0) (views_fields fs ps) vs a.2 in
      let first = at_written s (lookup name ps) a.0 levels (λ t v n h k q. form_written s t v n p.1 h k q) (λ t at. found_clean name ps t levels c d at) a.1 in
      let rest = fields_written fs ps b.0 levels p.2 c d b.1 in (
        pair name first.0 rest.0,
        subst (λ x. spell_fields x levels ≡ Ok (pair name first.0 rest.0)) b.2
            (ap (λ z. cond z (Err (here (invalid_cstring name))) (under name (spell a.0 levels)) >>= λ u. spell_fields b.0 levels >>= λ qs. Ok (pair name u qs)) p.0
            ∙ ap (λ r. under name r >>= λ u. spell_fields b.0 levels >>= λ qs. Ok (pair name u qs)) first.1
            ∙ ap (λ r. r >>= λ qs. Ok (pair name first.0 qs)) rest.1),
      )

-- ---- documents

top_written : (s : Form) (t : Tree) (v : Value) → IsUsual s → IsOfDocuments s → IsSound t → views s t ≡ Some v → (u : Tree) × (spell_document v ≡ Ok u)
top_written (structure dropped name fs) (document ps) v p o h e =
    let m = some_map (value.structure name) (views_fields fs ps) v e in
    let r = form_written (structure dropped name fs) (document ps) v max_levels p h.clean h.nests e in
    (r.0, by_name name p.0 m.0 v m.2 r.0 r.1)
  where
    by_name : (n : Utf8) → n ≡ [] → (gs : FieldValues) (v : Value) → value.structure n gs ≡ v → (u : Tree) → spell v max_levels ≡ Ok u → spell_document v ≡ Ok u
    by_name n e gs v is u h = subst (λ x. spell x max_levels ≡ Ok u → spell_document x ≡ Ok u) is (subst (λ k. spell (value.structure k gs) max_levels ≡ Ok u → spell_document (value.structure k gs) ≡ Ok u) (sym e) (λ k. k)) h
top_written (structure dropped name fs) t v p o h e = absurd (no_some e)
top_written (enumeration no_variants) t v p o h e = absurd (nothing_viewed t v e)
top_written s t v p o h e = absurd o

some_of : (o : Option Value) → IsSome o → (v : Value) × (o ≡ Some v)
some_of None h = absurd cc
some_of (Some v) h = (v, refl)

one_recast : (s : Form) (t : Tree) → IsShape s → IsPlain s → IsUsual s → IsOfDocuments s → IsSound t → IsSome (views s t) → IsRecast s t
one_recast s t p plain q o h some =
    let v = some_of (views s t) some in
    let w = top_written s t v.0 q o h v.1 in
    record { value = v.0; written = w.0; reads = views_reads s t v.0 p plain h (view_usual s t q ∙ v.1); spells = w.1 }

all_recast : (s : Form) (ts : Trees) → IsShape s → IsPlain s → IsUsual s → IsOfDocuments s → AllTrees IsSound ts → AllTrees (λ t. IsSome (views s t)) ts → AllTrees (IsRecast s) ts
all_recast s no_trees p plain q o h some = tt
all_recast s (tree.tree t ts) p plain q o h some = (one_recast s t p plain q o h.0 some.0, all_recast s ts p plain q o h.1 some.1)

-- ---- the law

all_clean : (ts : Trees) → AllTrees IsSound ts → AreTreesClean ts
all_clean no_trees h = tt
all_clean (tree.tree t ts) h = (h.0.clean, all_clean ts h.1)

all_documents : (ts : Trees) → AllTrees IsSound ts → AllTrees IsDocument ts
all_documents no_trees h = tt
all_documents (tree.tree t ts) h = (h.0.document, all_documents ts h.1)

all_shallow : (ts : Trees) → AllTrees IsSound ts → trees_depth ts ≤ 200
all_shallow no_trees h = omega arith
all_shallow (tree.tree t ts) h = omega (arith, h.0.nests, all_shallow ts h.1)

pub each_recast : (ts : Trees) → AllTrees IsSound ts → AllTrees (IsRecast (inferred ts)) ts
each_recast ts h =
    let c = all_clean ts h in
    all_recast (inferred ts) ts (inferred_shape ts c (all_shallow ts h)) (inferred_plain ts c) (inferred_usual ts c) (inferred_of ts (all_documents ts h)) h (each_views ts c)
