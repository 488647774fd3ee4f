-- What a clean tree is at a plain shape is written without keys that begin with `$` and without repeated keys: the names of shapes are free, and the keys of maps
-- are those of the tree.
use Rattle.std.proofs.Common.{◌≡◌, ℕ, zero, suc, ◌≤◌, Bool, true, false, cond, Option, Some, None, Ok, refl, sym, ◌∙◌, subst}
use Rattle.std.specs.Prelude.{◌||◌, ◌&&◌, nat_eq, length, option_map, option_and_then}
use Rattle.std.specs.Str.{bytes_eq, chars}
use Rattle.bson_kinds.specs.Kind.{byte}
use Rattle.bson_kinds.specs.Outcome.{◌>>=◌}
use Rattle.bson_base.specs.Pairs.{lookup}
use Rattle.bson_base.specs.Sound.{Lacks, IsClean, ArePairsClean, AreTreesClean, max_levels}
use Rattle.bson_kinds.specs.Text.{Utf8, IsFreeName, begins_with_dollar}
use Rattle.bson_base.specs.Tree as tree
use Rattle.bson_base.specs.Tree.{Tree, string, document, array, binary, null, javascript_code_with_scope, kind, Pairs, no_pairs, pair, Trees, no_trees, depth}
use Rattle.bson_kinds.specs.declared.element_type.ElementType.{ElementType}
use Rattle.bson_kinds.specs.declared.element_type.ElementType.TheVariants.{EmbeddedDocument, Array, JavaScriptCodeWithScope}
use Rattle.bson_kinds.proofs.Outcomes.{some_is, some_map, some_then, bind_ok}
use Rattle.bson_shape.specs.Form.{Form, leaf, optional, lossy, sequence, newtype, unit_structure, map, tuple, tuple_structure, structure, enumeration, definitions, Fields, no_fields, field, Parts, no_parts, part, Content, newtype_content, tuple_content, struct_content, Variants, no_variants, variant}
use Rattle.bson_shape.specs.Makers as makers
use Rattle.bson_shape.specs.Makers.{has_repeat, field_names, has_field, AreDistinct}
use Rattle.bson_values.specs.Refusal.{at_index, under, under_index}
use Rattle.bson_values.specs.Value as value
use Rattle.bson_values.specs.Value.{IntegerType, i8, i16, i32, i64, u8, u16, u32, u64, written_as, in_range, kind_as, Value, Items, no_items, item, Entries, no_entries, entry, FieldValues, no_field_values, field_value}
use Rattle.bson_laws.specs.Datum.{datum, itself, uuid_datum, sorted_tree, sorted_pairs, sorted_trees}
use Rattle.bson_laws.specs.Leaves.{LeafKind, anything, booleans, numbers, doubles, characters, texts, byte_strings, byte_buffers, units, extended_values, ExtendedLeaf, object_ids, uuids, of_kind, trees, documents, leaf_kind}
use Rattle.bson_laws.specs.Means.{key_text}
use Rattle.bson_laws.specs.Plain as plain
use Rattle.bson_laws.specs.Recursive.{view}
use Rattle.bson_laws.specs.Spell.{Writing, spell_key, named, enclosed_at, variant_at, spell_as, spell, spell_items_as, spell_entries_as, spell_fields_as, spell_fields}
use Rattle.bson_laws.specs.Unrolled.{whole}
use Rattle.bson_laws.specs.Variants.{content_of}
use Rattle.bson_laws.specs.Views.{one_character, views_any, views_any_items, views_any_entries, views_extended, views_leaf, views_leaf_key, views_items, views_key, views_entries, absent, views_at, all_known, views, views_fields, views_parts, views_variant, views_content}
use Rattle.bson_laws.proofs.AtShapes.{view_whole}
use Rattle.bson_laws.proofs.DatumWritten.{written_sorted}
use Rattle.bson_laws.proofs.Free.{free_spelled, free_struct, free_newtype_name, free_struct_name}
use Rattle.bson_laws.proofs.Known.{where_known}
use Rattle.bson_laws.proofs.PlainForms.{IsPlain, AreFieldsPlain, ArePartsPlain, AreVariantsPlain, IsContentPlain}
use Rattle.bson_laws.proofs.PlainUnrolled.{plain_whole}
use Rattle.bson_laws.proofs.Ranges.{clean_in_range}
use Rattle.bson_laws.proofs.DatumNormal.{sorted_in_range}
use Rattle.bson_laws.proofs.ShapeForms.{IsShape, AreShapes, AreParts, AreVariants, IsContent}
use Rattle.bson_laws.proofs.ShapeUnrolled.{shape_whole}
use Rattle.bson_laws.proofs.Sizes.{ok_is, inside_ok, under_ok, named_ok, enclosed_ok, variant_ok, spell_key_ok, spell_kind}
use Rattle.bson_laws.proofs.Variants.{unit_is, chosen_holds}
use Rattle.bson_laws.proofs.Viewed.{views_fit}
use Rattle.bson_tree_laws.proofs.Fitted.{fits_alike, clean_free}
use Rattle.bson_tree_laws.proofs.OneForm.{one_form}
use Rattle.bson_tree_laws.proofs.Writers.{writers}
use Rattle.bson_tree_laws.specs.Alike.{HasFreeKeys, PairsHaveFreeKeys, TreesHaveFreeKeys}
use Rattle.bson_tree_laws.specs.TreeSpell.{tree_spell}
use Rattle.bson_kinds.proofs.Apart.{no_some}

-- ---- what is written has free keys

abbrev IsFree : Value → Type 0
IsFree v = (levels : ℕ) (u : Tree) → spell v levels ≡ Ok u → HasFreeKeys u

abbrev AreFree : Items → Type 0
AreFree vs = (index levels : ℕ) (us : Trees) → spell_items_as false index vs levels ≡ Ok us → TreesHaveFreeKeys us

-- the keys of the entries are those of the pairs
abbrev EntriesFree : Pairs → Entries → Type 0
EntriesFree ps es = (levels : ℕ) (us : Pairs) → spell_entries_as false es levels ≡ Ok us → PairsHaveFreeKeys us × ((key : Utf8) → Lacks key ps → Lacks key us)

-- the names of the values are those of the fields
abbrev FieldsFree : Fields → FieldValues → Type 0
FieldsFree fs vs = (levels : ℕ) (us : Pairs) → spell_fields_as false vs levels ≡ Ok us → PairsHaveFreeKeys us × ((key : Utf8) → has_field key fs ≡ false → Lacks key us)

-- a value that is written as no document, no array and no scope has no keys
abbrev IsFlat : ElementType → Type 0
IsFlat EmbeddedDocument = ⊥
IsFlat Array = ⊥
IsFlat JavaScriptCodeWithScope = ⊥
IsFlat k = Unit {0}

flat_tree : (u : Tree) → IsFlat (kind u) → HasFreeKeys u
flat_tree (document ps) h = absurd h
flat_tree (array ts) h = absurd h
flat_tree (javascript_code_with_scope code scope) h = absurd h
flat_tree u h = tt

flat_free : (v : Value) → IsFlat (kind_as false v) → IsFree v
flat_free v h levels u e = flat_tree u (subst IsFlat (sym (spell_kind false v levels u e)) h)

flat_number : (type : IntegerType) → IsFlat (written_as type)
flat_number i8 = tt
flat_number type = tt

-- ---- containers

array_free : (vs : Items) → AreFree vs → (levels : ℕ) (u : Tree) → enclosed_at array levels (spell_items_as false 0 vs) ≡ Ok u → HasFreeKeys u
array_free vs h levels u e = let m = enclosed_ok array levels (spell_items_as false 0 vs) u e in subst HasFreeKeys m.2.2 (h 0 m.0 m.2.0 m.2.1)

map_free : (ps : Pairs) (es : Entries) → EntriesFree ps es → IsFree (value.map es)
map_free ps es h levels u e = let m = enclosed_ok document levels (spell_entries_as false es) u e in subst HasFreeKeys m.2.2 (h m.0 m.2.0 m.2.1).0

fields_free : (fs : Fields) (vs : FieldValues) → FieldsFree fs vs → (levels : ℕ) (u : Tree) → enclosed_at document levels (spell_fields vs) ≡ Ok u → HasFreeKeys u
fields_free fs vs h levels u e = let m = enclosed_ok document levels (spell_fields vs) u e in subst HasFreeKeys m.2.2 (h m.0 m.2.0 m.2.1).0

variant_free : (name : Utf8) (content : ℕ → Writing Tree) → IsFreeName name → ((n : ℕ) (u : Tree) → content n ≡ Ok u → HasFreeKeys u) → (levels : ℕ) (u : Tree) → variant_at name levels content ≡ Ok u → HasFreeKeys u
variant_free name content free h levels u e =
    let m = variant_ok name levels content u e in
    subst HasFreeKeys m.2.2 (free.no_dollar, tt, h m.0 m.2.0 m.2.1, tt)

no_item : AreFree no_items
no_item index levels us e = subst TreesHaveFreeKeys (ok_is no_trees us e) tt

one_item : (v : Value) (vs : Items) → IsFree v → AreFree vs → AreFree (item v vs)
one_item v vs h g index levels us e =
    let a = bind_ok (under_index index (spell v levels)) (λ t. spell_items_as false (suc index) vs levels >>= λ ts. Ok (tree.tree t ts)) us e in
    let b = bind_ok (spell_items_as false (suc index) vs levels) (λ ts. Ok (tree.tree a.0 ts)) us a.2 in
    subst TreesHaveFreeKeys (ok_is (tree.tree a.0 b.0) us b.2) (h levels a.0 (inside_ok (at_index index) (spell v levels) a.0 a.1), g (suc index) levels b.0 b.1)

no_entry : EntriesFree no_pairs no_entries
no_entry levels us e = subst (λ x. PairsHaveFreeKeys x × ((key : Utf8) → Lacks key no_pairs → Lacks key x)) (ok_is no_pairs us e) (tt, λ key l. l)

one_entry : (name : Utf8) (t : Tree) (ps : Pairs) (k v : Value) (es : Entries) → begins_with_dollar name ≡ false → Lacks name ps → key_text k ≡ Some name → IsFree v → EntriesFree ps es → EntriesFree (pair name t ps) (entry k v es)
one_entry name t ps k v es dollar lacks text h g levels us e =
    let a = bind_ok (spell_key k) (λ key. under key (spell v levels) >>= λ w. spell_entries_as false es levels >>= λ ws. Ok (pair key w ws)) us e in
    let b = bind_ok (under a.0 (spell v levels)) (λ w. spell_entries_as false es levels >>= λ ws. Ok (pair a.0 w ws)) us a.2 in
    let c = bind_ok (spell_entries_as false es levels) (λ ws. Ok (pair a.0 b.0 ws)) us b.2 in
    let same : name ≡ a.0 = some_is name a.0 (sym text ∙ (spell_key_ok k a.0 a.1).0) in
    let rest = g levels c.0 c.1 in
    subst (λ x. PairsHaveFreeKeys x × ((key : Utf8) → Lacks key (pair name t ps) → Lacks key x)) (ok_is (pair a.0 b.0 c.0) us c.2) (
      (subst (λ n. begins_with_dollar n ≡ false) same dollar, subst (λ n. Lacks n c.0) same (rest.1 name lacks), h levels b.0 (under_ok a.0 (spell v levels) b.0 b.1), rest.0),
      λ key l. (subst (λ n. bytes_eq key n ≡ false) same l.0, rest.1 key l.1),
    )

neither : (a b : Bool) → (a || b) ≡ false → (a ≡ false) × (b ≡ false)
neither true b e = absurd cc
neither false b e = (refl, e)

no_field : FieldsFree no_fields no_field_values
no_field levels us e = subst (λ x. PairsHaveFreeKeys x × ((key : Utf8) → has_field key no_fields ≡ false → Lacks key x)) (ok_is no_pairs us e) (tt, λ key l. tt)

one_field : (name : Utf8) (s : Form) (fs : Fields) (v : Value) (vs : FieldValues) → IsFreeName name → has_field name fs ≡ false → IsFree v → FieldsFree fs vs → FieldsFree (field name s fs) (field_value name v vs)
one_field name s fs v vs free apart h g levels us e =
    let a = bind_ok (named name (spell v levels)) (λ w. spell_fields_as false vs levels >>= λ ws. Ok (pair name w ws)) us e in
    let b = bind_ok (spell_fields_as false vs levels) (λ ws. Ok (pair name a.0 ws)) us a.2 in
    let rest = g levels b.0 b.1 in
    subst (λ x. PairsHaveFreeKeys x × ((key : Utf8) → has_field key (field name s fs) ≡ false → Lacks key x)) (ok_is (pair name a.0 b.0) us b.2) (
      (free.no_dollar, rest.1 name apart, h levels a.0 (named_ok name (spell v levels) a.0 a.1).1, rest.0),
      λ key l. let two = neither (bytes_eq key name) (has_field key fs) l in (two.0, rest.1 key two.1),
    )

-- ---- leaves

-- options in order leave the keys as they are
mutual
  sorted_free : (t : Tree) → HasFreeKeys t → HasFreeKeys (sorted_tree t)
  sorted_free (document ps) h = sorted_pairs_free ps h
  sorted_free (array ts) h = sorted_trees_free ts h
  sorted_free (javascript_code_with_scope code scope) h = sorted_pairs_free scope h
  sorted_free t h = tt

  sorted_pairs_free : (ps : Pairs) → PairsHaveFreeKeys ps → PairsHaveFreeKeys (sorted_pairs ps)
  sorted_pairs_free no_pairs h = tt
  sorted_pairs_free (pair key t ps) h = (h.0, sorted_lacks key ps h.1, sorted_free t h.2, sorted_pairs_free ps h.3)

  sorted_trees_free : (ts : Trees) → TreesHaveFreeKeys ts → TreesHaveFreeKeys (sorted_trees ts)
  sorted_trees_free no_trees h = tt
  sorted_trees_free (tree.tree t ts) h = (sorted_free t h.0, sorted_trees_free ts h.1)

  sorted_lacks : (key : Utf8) (ps : Pairs) → Lacks key ps → Lacks key (sorted_pairs ps)
  sorted_lacks key no_pairs h = tt
  sorted_lacks key (pair k t ps) h = (h.0, sorted_lacks key ps h.1)

-- a tree as data is written as itself with its options in order
datum_free : (t : Tree) (v : Value) → IsClean t → Some (datum itself (sorted_tree t)) ≡ Some v → IsFree v
datum_free t v c e =
    subst IsFree (some_is (datum itself (sorted_tree t)) v e)
    (λ levels u w. subst HasFreeKeys (sym (written_sorted false (sorted_tree t) u levels (sorted_in_range t (clean_in_range t c)) w)) (sorted_free (sorted_tree t) (sorted_free t (clean_free t c))))

kind_free : (b : Bool) (t : Tree) (v : Value) → IsClean t → cond b (Some (datum itself (sorted_tree t))) None ≡ Some v → IsFree v
kind_free true t v c e = datum_free t v c e
kind_free false t v c e = absurd (no_some e)

extended_free : (k : ExtendedLeaf) (t : Tree) (v : Value) → IsClean t → views_extended k t ≡ Some v → IsFree v
extended_free object_ids (tree.object_id id) v c e = datum_free (tree.object_id id) v c e
extended_free uuids (binary n b) v c e =
    let h = where_known (nat_eq n 4 && nat_eq (length b) 16) (Some (uuid_datum itself b)) v e in
    subst IsFree (some_is (uuid_datum itself b) v h.1) (flat_free (uuid_datum itself b) tt)
extended_free (of_kind k) t v c e = kind_free (nat_eq (byte (kind t)) (byte k)) t v c e
extended_free trees t v c e = datum_free t v c e
extended_free documents (document ps) v c e = datum_free (document ps) v c e
extended_free k t v c e = absurd (no_some e)

mutual
  any_free : (t : Tree) (v : Value) → IsClean t → views_any t ≡ Some v → IsFree v
  any_free (tree.boolean b) v c e = subst IsFree (some_is (value.boolean b) v e) (flat_free (value.boolean b) tt)
  any_free (tree.int32 n) v c e = subst IsFree (some_is (value.integer i32 n) v e) (flat_free (value.integer i32 n) tt)
  any_free (tree.int64 n) v c e = subst IsFree (some_is (value.integer i64 n) v e) (flat_free (value.integer i64 n) tt)
  any_free (tree.double bits) v c e = subst IsFree (some_is (value.double bits) v e) (flat_free (value.double bits) tt)
  any_free (string t) v c e = subst IsFree (some_is (value.str t) v e) (flat_free (value.str t) tt)
  any_free (binary zero bs) v c e = subst IsFree (some_is (value.bytes bs) v e) (flat_free (value.bytes bs) tt)
  any_free null v c e = subst IsFree (some_is value.unit v e) (flat_free value.unit tt)
  any_free (array ts) v c e = let m = some_map value.sequence (views_any_items ts) v e in subst IsFree m.2 (array_free m.0 (any_items_free ts m.0 c m.1))
  any_free (document ps) v c e = let m = some_map value.map (views_any_entries ps) v e in subst IsFree m.2 (map_free ps m.0 (any_entries_free ps m.0 c m.1))
  any_free t v c e = absurd (no_some e)

  any_items_free : (ts : Trees) (vs : Items) → AreTreesClean ts → views_any_items ts ≡ Some vs → AreFree vs
  any_items_free no_trees vs c e = subst AreFree (some_is no_items vs e) no_item
  any_items_free (tree.tree t ts) vs c e =
      let a = some_then (λ v. option_map (item v) (views_any_items ts)) (views_any t) vs e in
      let b = some_map (item a.0) (views_any_items ts) vs a.2 in
      subst AreFree b.2 (one_item a.0 b.0 (any_free t a.0 c.0 a.1) (any_items_free ts b.0 c.1 b.1))

  any_entries_free : (ps : Pairs) (es : Entries) → ArePairsClean ps → views_any_entries ps ≡ Some es → EntriesFree ps es
  any_entries_free no_pairs es c e = subst (EntriesFree no_pairs) (some_is no_entries es e) no_entry
  any_entries_free (pair key t ps) es c e =
      let a = some_then (λ v. option_map (entry (value.str key) v) (views_any_entries ps)) (views_any t) es e in
      let b = some_map (entry (value.str key) a.0) (views_any_entries ps) es a.2 in
      subst (EntriesFree (pair key t ps)) b.2 (one_entry key t ps (value.str key) a.0 b.0 c.0.free.no_dollar c.1 refl (any_free t a.0 c.2 a.1) (any_entries_free ps b.0 c.3 b.1))

number_free : (type : IntegerType) (b : Bool) (v w : Value) → IsFree v → cond b (Some v) None ≡ Some w → IsFree w
number_free type true v w h e = subst IsFree (some_is v w e) h
number_free type false v w h e = absurd (no_some e)

leaf_free : (k : LeafKind) (t : Tree) (v : Value) → IsClean t → views_leaf k t ≡ Some v → IsFree v
leaf_free anything t v c e = any_free t v c e
leaf_free booleans (tree.boolean b) v c e = subst IsFree (some_is (value.boolean b) v e) (flat_free (value.boolean b) tt)
leaf_free (numbers type) (tree.int32 n) v c e = number_free type (in_range type n) (value.integer type n) v (flat_free (value.integer type n) (flat_number type)) e
leaf_free (numbers type) (tree.int64 n) v c e = number_free type (in_range type n) (value.integer type n) v (flat_free (value.integer type n) (flat_number type)) e
leaf_free doubles (tree.double bits) v c e = subst IsFree (some_is (value.double bits) v e) (flat_free (value.double bits) tt)
leaf_free characters (string t) v c e = let m = some_map value.character (one_character (chars t)) v e in subst IsFree m.2 (flat_free (value.character m.0) tt)
leaf_free texts (string t) v c e = subst IsFree (some_is (value.str t) v e) (flat_free (value.str t) tt)
leaf_free byte_strings (binary zero bs) v c e = subst IsFree (some_is (value.bytes bs) v e) (flat_free (value.bytes bs) tt)
leaf_free byte_buffers (binary zero bs) v c e = subst IsFree (some_is (value.bytes bs) v e) (flat_free (value.bytes bs) tt)
leaf_free units null v c e = subst IsFree (some_is value.unit v e) (flat_free value.unit tt)
leaf_free (extended_values k) t v c e = extended_free k t v c e
leaf_free k t v c e = absurd (no_some e)

-- ---- options, fields and entries

option_free : (s : Form) (t : Tree) (v : Value) → ((w : Value) → views s t ≡ Some w → IsFree w) → views (optional s) t ≡ Some v → IsFree v
option_free s null v inner e = subst IsFree (some_is value.none v e) (flat_free value.none tt)
option_free s t v inner e = let m = some_map value.some (views s t) v e in subst IsFree m.2 (inner m.0 m.1)

absent_free : (s : Form) (v : Value) → absent s ≡ Some v → IsFree v
absent_free (optional s) v e = subst IsFree (some_is value.none v e) (flat_free value.none tt)
absent_free s v e = absurd (no_some e)

field_free : (s : Form) (o : Option Tree) (v : Value) → ((t : Tree) → o ≡ Some t → views s t ≡ Some v → IsFree v) → views_at (views s) (absent s) o ≡ Some v → IsFree v
field_free s None v found e = absent_free s v e
field_free s (Some t) v found e = found t refl e

either_clean : (b : Bool) (t u : Tree) (o : Option Tree) → IsClean t → (o ≡ Some u → IsClean u) → cond b (Some t) o ≡ Some u → IsClean u
either_clean true t u o c h e = subst IsClean (some_is t u e) c
either_clean false t u o c h e = h e

lookup_clean : (key : Utf8) (ps : Pairs) (t : Tree) → ArePairsClean ps → lookup key ps ≡ Some t → IsClean t
lookup_clean key no_pairs t c e = absurd (no_some e)
lookup_clean key (pair k u ps) t c e = either_clean (bytes_eq key k) u t (lookup key ps) c.2 (λ h. lookup_clean key ps t c.3 h) e

items_free : (s : Form) → ((t : Tree) (v : Value) → IsClean t → views s t ≡ Some v → IsFree v) → (ts : Trees) (vs : Items) → AreTreesClean ts → views_items (views s) ts ≡ Some vs → AreFree vs
items_free s each no_trees vs c e = subst AreFree (some_is no_items vs e) no_item
items_free s each (tree.tree t ts) vs c e =
    let a = some_then (λ v. option_map (item v) (views_items (views s) ts)) (views s t) vs e in
    let b = some_map (item a.0) (views_items (views s) ts) vs a.2 in
    subst AreFree b.2 (one_item a.0 b.0 (each t a.0 c.0 a.1) (items_free s each ts b.0 c.1 b.1))

leaf_key_named : (k : LeafKind) (name : Utf8) (v : Value) → views_leaf_key k name ≡ Some v → key_text v ≡ Some name
leaf_key_named texts name v e = subst (λ x. key_text x ≡ Some name) (some_is (value.str name) v e) refl
leaf_key_named k name v e = absurd (no_some e)

-- the key is written as it was
key_named : (key : Form) (name : Utf8) (v : Value) → views_key key name ≡ Some v → key_text v ≡ Some name
key_named (leaf l) name v e = leaf_key_named (leaf_kind l) name v e
key_named (enumeration vs) name v e = subst (λ x. key_text x ≡ Some name) (sym (unit_is name (content_of vs name) v e).1) refl
key_named key name v e = absurd (no_some e)

entries_free : (key s : Form) → ((t : Tree) (v : Value) → IsClean t → views s t ≡ Some v → IsFree v) → (ps : Pairs) (es : Entries) → ArePairsClean ps → views_entries (views_key key) (views s) ps ≡ Some es → EntriesFree ps es
entries_free key s each no_pairs es c e = subst (EntriesFree no_pairs) (some_is no_entries es e) no_entry
entries_free key s each (pair name t ps) es c e =
    let a = some_then (λ k. option_and_then (λ v. option_map (entry k v) (views_entries (views_key key) (views s) ps)) (views s t)) (views_key key name) es e in
    let b = some_then (λ v. option_map (entry a.0 v) (views_entries (views_key key) (views s) ps)) (views s t) es a.2 in
    let m = some_map (entry a.0 b.0) (views_entries (views_key key) (views s) ps) es b.2 in
    subst (EntriesFree (pair name t ps)) m.2
    (one_entry name t ps a.0 b.0 m.0 c.0.free.no_dollar c.1 (key_named key name a.0 a.1) (each t b.0 c.2 b.1) (entries_free key s each ps m.0 c.3 m.1))

newtype_free : (name : Utf8) (v : Value) → IsFreeName name → IsFree v → IsFree (value.newtype name v)
newtype_free name v free h levels u e = h levels u (sym (free_spelled name v levels (free_newtype_name name free)) ∙ e)

struct_free : (name : Utf8) (fs : Fields) (vs : FieldValues) → IsFreeName name → FieldsFree fs vs → IsFree (value.structure name vs)
struct_free name fs vs free h levels u e = fields_free fs vs h levels u (sym (free_struct name vs levels (free_struct_name name free)) ∙ e)

-- ---- all forms

mutual
  views_free : (s : Form) (t : Tree) (v : Value) → IsPlain s → IsShape s → IsClean t → views s t ≡ Some v → IsFree v
  views_free (leaf l) t v p k c e = leaf_free (leaf_kind l) t v c e
  views_free (optional s) t v p k c e = option_free s t v (λ w h. views_free s t w p k c h) e
  views_free (lossy s) t v p k c e = views_free s t v p.1 k c e
  views_free (definitions h s) t v p k c e = views_free s t v p.1 k c e
  views_free (newtype name s) t v p k c e =
      let m = some_map (value.newtype name) (views s t) v e in
      subst IsFree m.2 (newtype_free name m.0 p.0 (views_free s t m.0 p.1 k.1 c m.1))
  views_free (unit_structure name) null v p k c e = subst IsFree (some_is (value.unit_structure name) v e) (flat_free (value.unit_structure name) tt)
  views_free (sequence s) (array ts) v p k c e =
      let m = some_map value.sequence (views_items (views s) ts) v e in
      subst IsFree m.2 (array_free m.0 (items_free s (λ t w d h. views_free s t w p k d h) ts m.0 c m.1))
  views_free (map key s) (document ps) v p k c e =
      let m = some_map value.map (views_entries (views_key key) (views s) ps) v e in
      subst IsFree m.2 (map_free ps m.0 (entries_free key s (λ t w d h. views_free s t w p.2 k.2 d h) ps m.0 c m.1))
  views_free (structure u name fs) (document ps) v p k c e =
      let h = where_known (all_known u fs ps) (option_map (value.structure name) (views_fields fs ps)) v e in
      let m = some_map (value.structure name) (views_fields fs ps) v h.1 in
      subst IsFree m.2 (struct_free name fs m.0 p.0 (views_fields_free fs ps m.0 p.1 k.0.distinct k.1 c m.1))
  views_free (tuple ps) (array ts) v p k c e =
      let m = some_map value.tuple (views_parts ps ts) v e in
      subst IsFree m.2 (array_free m.0 (views_parts_free ps ts m.0 p k c m.1))
  views_free (tuple_structure name ps) (array ts) v p k c e =
      let m = some_map (value.tuple_structure name) (views_parts ps ts) v e in
      subst IsFree m.2 (array_free m.0 (views_parts_free ps ts m.0 p k.1 c m.1))
  views_free (enumeration vs) (string name) v p k c e =
      subst IsFree (sym (unit_is name (content_of vs name) v e).1) (flat_free (value.unit_variant name) tt)
  views_free (enumeration vs) (document (pair name t no_pairs)) v p k c e = views_variant_free vs name t v p k.1 c.2 e
  views_free s t v p k c e = absurd (no_some e)

  views_parts_free : (ps : Parts) (ts : Trees) (vs : Items) → ArePartsPlain ps → AreParts ps → AreTreesClean ts → views_parts ps ts ≡ Some vs → AreFree vs
  views_parts_free no_parts no_trees vs p k c e = subst AreFree (some_is no_items vs e) no_item
  views_parts_free (part s ps) (tree.tree t ts) vs p k c e =
      let a = some_then (λ v. option_map (item v) (views_parts ps ts)) (views s t) vs e in
      let b = some_map (item a.0) (views_parts ps ts) vs a.2 in
      subst AreFree b.2 (one_item a.0 b.0 (views_free s t a.0 p.0 k.0 c.0 a.1) (views_parts_free ps ts b.0 p.1 k.1 c.1 b.1))
  views_parts_free ps ts vs p k c e = absurd (no_some e)

  views_variant_free : (vs : Variants) (name : Utf8) (t : Tree) (v : Value) → AreVariantsPlain vs → AreVariants vs → IsClean t → views_variant vs name t ≡ Some v → IsFree v
  views_variant_free no_variants name t v p k c e = absurd (no_some e)
  views_variant_free (variant n d vs) name t v p k c e =
      chosen_holds (bytes_eq n name) (views_content n d t) (views_variant vs name t) v e (λ h. views_content_free d n t v p.0 p.1 k.1 c h) (λ h. views_variant_free vs name t v p.2 k.2 c h)

  views_content_free : (d : Content) (name : Utf8) (t : Tree) (v : Value) → IsFreeName name → IsContentPlain d → IsContent d → IsClean t → views_content name d t ≡ Some v → IsFree v
  views_content_free (newtype_content s) name t v free p k c e =
      let m = some_map (value.newtype_variant name) (views s t) v e in
      subst IsFree m.2 (variant_free name (spell m.0) free (λ n u w. views_free s t m.0 p k c m.1 n u w))
  views_content_free (tuple_content ps) name (array ts) v free p k c e =
      let m = some_map (value.tuple_variant name) (views_parts ps ts) v e in
      subst IsFree m.2 (variant_free name (λ n. enclosed_at array n (spell_items_as false 0 m.0)) free (λ n u w. array_free m.0 (views_parts_free ps ts m.0 p k c m.1) n u w))
  views_content_free (struct_content fs) name (document ps) v free p k c e =
      let m = some_map (value.structure_variant name) (views_fields fs ps) v e in
      subst IsFree m.2 (variant_free name (λ n. enclosed_at document n (spell_fields m.0)) free (λ n u w. fields_free fs m.0 (views_fields_free fs ps m.0 p k.0 k.1 c m.1) n u w))
  views_content_free d name t v free p k c e = absurd (no_some e)

  views_fields_free : (fs : Fields) (ps : Pairs) (vs : FieldValues) → AreFieldsPlain fs → AreDistinct fs → AreShapes fs → ArePairsClean ps → views_fields fs ps ≡ Some vs → FieldsFree fs vs
  views_fields_free no_fields ps vs p d k c e = subst (FieldsFree no_fields) (some_is no_field_values vs e) no_field
  views_fields_free (field n s fs) ps vs p d k c e =
      let a = some_then (λ v. option_map (field_value n v) (views_fields fs ps)) (views_at (views s) (absent s) (lookup n ps)) vs e in
      let b = some_map (field_value n a.0) (views_fields fs ps) vs a.2 in
      let two = neither (has_field n fs) (has_repeat (field_names fs)) d in
      let first = field_free s (lookup n ps) a.0 (λ t at is. views_free s t a.0 p.1 k.1 (lookup_clean n ps t c at) is) a.1 in
      subst (FieldsFree (field n s fs)) b.2 (one_field n s fs a.0 b.0 p.0 two.0 first (views_fields_free fs ps b.0 p.2 two.1 k.2 c b.1))

-- ---- shapes

-- the compact form is spelled as this one is
compact : (readable : Bool) (v : Value) (levels : ℕ) (u : Tree) → spell_as true v levels ≡ spell_as false v levels → spell_as readable v levels ≡ Ok u → spell v levels ≡ Ok u
compact false v levels u one e = e
compact true v levels u one e = sym one ∙ e

-- what a clean tree is at a plain shape is made into the tree that it is spelled as
pub viewed_written : (readable : Bool) (s : Form) (t u : Tree) (d : Value) (levels : ℕ) → makers.IsShape s → plain.IsPlain s → IsClean t → depth t ≤ max_levels → view no_fields s t ≡ Some d → spell_as readable d levels ≡ Ok u → tree_spell readable false d levels ≡ Ok u
viewed_written readable s t u d levels k p clean deep is e =
    let seen : views (whole s) t ≡ Some d = view_whole s t k deep ∙ is in
    let here = plain_whole s p in
    let fits = views_fit (whole s) t d clean seen in
    writers readable d levels u (fits_alike d (whole s) here fits) e
    (views_free (whole s) t d here (shape_whole s k) clean seen levels u (compact readable d levels u (one_form d (whole s) here fits levels) e))
