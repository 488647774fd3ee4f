-- What is read at a shape, and is spelled without keys that begin with `$`, is made into that tree: its keys are texts or unit variants, its reserved structs are extended values as data, and no key is repeated.
use Rattle.std.proofs.Common.{◌≡◌, ℕ, ℤ, suc, Bool, true, false, cond, Option, Some, Ok, refl, ap, sym, subst, ◌∙◌}
use Rattle.std.specs.Prelude.{encode_utf8, ◌||◌}
use Rattle.std.specs.Str.{bytes_eq}
use Rattle.bson_kinds.specs.Outcome.{◌>>=◌}
use Rattle.bson_kinds.specs.Reserved.{reserved_kind}
use Rattle.bson_base.specs.Sound.{Lacks}
use Rattle.bson_kinds.specs.Text.{Bytes, Utf8}
use Rattle.bson_base.specs.Tree as tree
use Rattle.bson_base.specs.Tree.{Tree, document, array, Pairs, no_pairs, pair, Trees, no_trees}
use Rattle.bson_kinds.specs.declared.element_type.ElementType.{ElementType}
use Rattle.bson_kinds.specs.declared.element_type.ElementType.TheVariants.{Int32, Int64}
use Rattle.bson_kinds.proofs.Outcomes.{some_is, bind_ok}
use Rattle.bson_shape.specs.Form.{Form, leaf, optional, lossy, human_readable, by_mode, sequence, newtype, unit_structure, map, tuple, tuple_structure, structure, enumeration, definitions, Fields, no_fields, field, Parts, no_parts, part, Content, newtype_content, tuple_content, struct_content, Variants, no_variants, variant}
use Rattle.bson_shape.specs.Makers.{has_name, field_names, repeats, is_reserved_newtype}
use Rattle.bson_values.specs.Same.{same}
use Rattle.bson_values.specs.Refusal.{at_index, under, under_index}
use Rattle.bson_values.specs.Value as value
use Rattle.bson_values.specs.Value.{Value, Items, Entries, FieldValues, i32, i64, written_as}
use Rattle.bson_laws.specs.Datum.{itself, datum, uuid_datum, pair_data, tree_data}
use Rattle.bson_laws.specs.Leaves.{LeafKind, anything, ignored, booleans, numbers, doubles, characters, texts, byte_strings, byte_buffers, units, ExtendedLeaf, object_ids, uuids, of_kind, trees, documents, extended_values, raw_documents, raw_arrays, raw_values, leaf_kind}
use Rattle.bson_laws.specs.Means.{key_text}
use Rattle.bson_laws.specs.Variants.{content_of}
use Rattle.bson_laws.specs.Spell.{Writing, spell_number, spell_key, named, enclosed_at, spell, spell_items, spell_entries, spell_fields}
use Rattle.bson_laws.proofs.Free.{free_spelled, free_struct}
use Rattle.bson_laws.proofs.Given.{Differs, AreApart, IsGivenText, IsGivenAny, AreGivenItems, AreGivenEntries, IsGivenLeaf, IsGivenLeafKey, IsGivenKey, IsGiven, ItemsGiven, PartsGiven, EntriesGiven, FieldsGiven, given_leaf, given_lossy, given_body}
use Rattle.bson_rawdoc.specs.Node.{Sight}
use Rattle.bson_laws.proofs.Borrowed.{marked}
use Rattle.bson_laws.proofs.GivenTrees.{IsGivenTree, ArePairsGiven, AreTreesGiven, IsGivenExtended}
use Rattle.bson_laws.proofs.ShapeForms.{IsShape, AreShapes, AreParts, AreVariants, IsContent}
use Rattle.bson_laws.proofs.Sizes.{ok_is, enclosed_ok, variant_ok, inside_ok, under_ok, named_ok, spell_key_ok}
use Rattle.bson_laws.proofs.TreesAgain.{datum_spelled}
use Rattle.bson_tree_laws.specs.Alike.{HasFreeKeys, PairsHaveFreeKeys, TreesHaveFreeKeys, IsWrap, IsTextKey, IsAlike, AreAlike, EntriesAlike, FieldsAlike}
use Rattle.bson_laws.specs.Every.{EveryContent, EveryField, EveryPart, EveryVariant}
use Rattle.bson_ways_laws.specs.Ways.{IsBuilt, SuitsBothWays, HasCommonKeys, PairsHaveCommonKeys, TreesHaveCommonKeys, ways_rows}
use Rattle.bson_tree_laws.proofs.Puts.{unlike_sym}
use Rattle.bson_tree_laws.proofs.Wraps.{kept}
use Rattle.bson_kinds.proofs.Apart.{no_some}

-- what it is spelled as repeats no key, and it is written alike
abbrev pub Good : Value → Type 0
Good v = (levels : ℕ) (u : Tree) → spell v levels ≡ Ok u → HasCommonKeys u → HasFreeKeys u × IsAlike v

abbrev GoodItems : Items → Type 0
GoodItems vs = (i levels : ℕ) (ts : Trees) → spell_items i vs levels ≡ Ok ts → TreesHaveCommonKeys ts → TreesHaveFreeKeys ts × AreAlike vs

abbrev GoodEntries : Entries → Type 0
GoodEntries es = (levels : ℕ) (ps : Pairs) → spell_entries es levels ≡ Ok ps → PairsHaveCommonKeys ps → PairsHaveFreeKeys ps × EntriesAlike es

abbrev GoodFields : FieldValues → Type 0
GoodFields fs = (levels : ℕ) (ps : Pairs) → spell_fields fs levels ≡ Ok ps → PairsHaveCommonKeys ps → PairsHaveFreeKeys ps × FieldsAlike fs

-- ---- parts of containers

no_items_good : GoodItems value.no_items
no_items_good i levels ts e c = (subst TreesHaveFreeKeys (ok_is no_trees ts e) tt, tt)

item_good : (v : Value) (vs : Items) → Good v → GoodItems vs → GoodItems (value.item v vs)
item_good v vs g h i levels ts e c =
    let b = bind_ok (under_index i (spell v levels)) (λ t. spell_items (suc i) vs levels >>= λ us. Ok (tree.tree t us)) ts e in
    let d = bind_ok (spell_items (suc i) vs levels) (λ us. Ok (tree.tree b.0 us)) ts b.2 in
    let is = ok_is (tree.tree b.0 d.0) ts d.2 in
    let common : TreesHaveCommonKeys (tree.tree b.0 d.0) = subst TreesHaveCommonKeys (sym is) c in
    let first = g levels b.0 (inside_ok (at_index i) (spell v levels) b.0 b.1) common.0 in
    let rest = h (suc i) levels d.0 d.1 common.1 in
    (subst TreesHaveFreeKeys is (first.0, rest.0), (first.1, rest.1))

no_entries_good : GoodEntries value.no_entries
no_entries_good levels ps e c = (subst PairsHaveFreeKeys (ok_is no_pairs ps e) tt, tt)

entry_good : (k v : Value) (es : Entries) → ((key : Utf8) → key_text k ≡ Some key → IsTextKey k) → ((key : Utf8) (levels : ℕ) (ps : Pairs) → key_text k ≡ Some key → spell_entries es levels ≡ Ok ps → Lacks key ps) → Good v → GoodEntries es
    → GoodEntries (value.entry k v es)
entry_good k v es text lacks g h levels ps e c =
    let x = bind_ok (spell_key k) (λ key. under key (spell v levels) >>= λ t. spell_entries es levels >>= λ qs. Ok (pair key t qs)) ps e in
    let b = bind_ok (under x.0 (spell v levels)) (λ t. spell_entries es levels >>= λ qs. Ok (pair x.0 t qs)) ps x.2 in
    let d = bind_ok (spell_entries es levels) (λ qs. Ok (pair x.0 b.0 qs)) ps b.2 in
    let is = ok_is (pair x.0 b.0 d.0) ps d.2 in
    let common : PairsHaveCommonKeys (pair x.0 b.0 d.0) = subst PairsHaveCommonKeys (sym is) c in
    let key = (spell_key_ok k x.0 x.1).0 in
    let first = g levels b.0 (under_ok x.0 (spell v levels) b.0 b.1) common.1 in
    let rest = h levels d.0 d.1 common.2 in
    (subst PairsHaveFreeKeys is (common.0, lacks x.0 levels d.0 key d.1, first.0, rest.0), (text x.0 key, first.1, rest.1))

no_fields_good : GoodFields value.no_field_values
no_fields_good levels ps e c = (subst PairsHaveFreeKeys (ok_is no_pairs ps e) tt, tt)

field_good : (name : Utf8) (v : Value) (fs : FieldValues) → ((levels : ℕ) (ps : Pairs) → spell_fields fs levels ≡ Ok ps → Lacks name ps) → Good v → GoodFields fs → GoodFields (value.field_value name v fs)
field_good name v fs lacks g h levels ps e c =
    let a = bind_ok (named name (spell v levels)) (λ t. spell_fields fs levels >>= λ qs. Ok (pair name t qs)) ps e in
    let b = bind_ok (spell_fields fs levels) (λ qs. Ok (pair name a.0 qs)) ps a.2 in
    let is = ok_is (pair name a.0 b.0) ps b.2 in
    let common : PairsHaveCommonKeys (pair name a.0 b.0) = subst PairsHaveCommonKeys (sym is) c in
    let first = g levels a.0 (named_ok name (spell v levels) a.0 a.1).1 common.1 in
    let rest = h levels b.0 b.1 common.2 in
    (subst PairsHaveFreeKeys is (common.0, lacks levels b.0 b.1, first.0, rest.0), (first.1, rest.1))

array_good : (vs : Items) → GoodItems vs → (levels : ℕ) (u : Tree) → enclosed_at array levels (spell_items 0 vs) ≡ Ok u → HasCommonKeys u → HasFreeKeys u × AreAlike vs
array_good vs h levels u e c = let m = enclosed_ok array levels (spell_items 0 vs) u e in let r = h 0 m.0 m.2.0 m.2.1 (subst HasCommonKeys (sym m.2.2) c) in (subst HasFreeKeys m.2.2 r.0, r.1)

map_good : (es : Entries) → GoodEntries es → Good (value.map es)
map_good es h levels u e c = let m = enclosed_ok document levels (spell_entries es) u e in let r = h m.0 m.2.0 m.2.1 (subst HasCommonKeys (sym m.2.2) c) in (subst HasFreeKeys m.2.2 r.0, r.1)

fields_good : (fs : FieldValues) → GoodFields fs → (levels : ℕ) (u : Tree) → enclosed_at document levels (spell_fields fs) ≡ Ok u → HasCommonKeys u → HasFreeKeys u × FieldsAlike fs
fields_good fs h levels u e c = let m = enclosed_ok document levels (spell_fields fs) u e in let r = h m.0 m.2.0 m.2.1 (subst HasCommonKeys (sym m.2.2) c) in (subst HasFreeKeys m.2.2 r.0, r.1)

variant_good : {P : Type 0} (name : Utf8) (content : ℕ → Writing Tree) → ((n : ℕ) (t : Tree) → content n ≡ Ok t → HasCommonKeys t → HasFreeKeys t × P) → (levels : ℕ) (u : Tree)
    → enclosed_at document levels (λ inside. named name (content inside) >>= λ t. Ok (pair name t no_pairs)) ≡ Ok u → HasCommonKeys u → HasFreeKeys u × P
variant_good name content h levels u e c =
    let m = variant_ok name levels content u e in
    let common : HasCommonKeys (document (pair name m.2.0 no_pairs)) = subst HasCommonKeys (sym m.2.2) c in
    let r = h m.0 m.2.0 m.2.1 common.1 in
    (subst HasFreeKeys m.2.2 (common.0, tt, r.0, tt), r.1)

-- ---- keys that are apart

texts_apart : (a b x y : Utf8) → Some a ≡ Some x → Some b ≡ Some y → bytes_eq b a ≡ false → bytes_eq x y ≡ false
texts_apart a b x y p q e = (λ i. bytes_eq (sym (some_is a x p) i) (sym (some_is b y q) i)) ∙ unlike_sym b a e

leaf_apart : (k : LeafKind) (v w : Value) (x y : Utf8) → IsGivenLeafKey k v → IsGivenLeafKey k w → key_text v ≡ Some x → key_text w ≡ Some y → same w v ≡ false → bytes_eq x y ≡ false
leaf_apart anything (value.str a) (value.str b) x y g h p q e = texts_apart a b x y p q e
leaf_apart texts (value.str a) (value.str b) x y g h p q e = texts_apart a b x y p q e
leaf_apart raw_values (value.str a) (value.str b) x y g h p q e = texts_apart a b x y p q e
leaf_apart characters (value.character a) w x y g h p q e = absurd cc
leaf_apart byte_strings (value.bytes a) w x y g h p q e = absurd cc
leaf_apart byte_buffers (value.bytes a) w x y g h p q e = absurd cc
leaf_apart ignored value.unit w x y g h p q e = absurd cc
leaf_apart anything (value.str a) w x y g h p q e = absurd h
leaf_apart texts (value.str a) w x y g h p q e = absurd h
leaf_apart raw_values (value.str a) w x y g h p q e = absurd h
leaf_apart k v w x y g h p q e = absurd g

key_apart : (at : Sight) (s : Form) (v w : Value) (x y : Utf8) → IsGivenKey at s v → IsGivenKey at s w → key_text v ≡ Some x → key_text w ≡ Some y → same w v ≡ false → bytes_eq x y ≡ false
key_apart at (leaf l) v w x y g h p q e = leaf_apart (leaf_kind l) v w x y g.0 h.0 p q e
key_apart at (enumeration vs) (value.unit_variant a) (value.unit_variant b) x y g h p q e = texts_apart a b x y p q e
key_apart at (enumeration vs) (value.unit_variant a) w x y g h p q e = absurd h
key_apart at (enumeration vs) v w x y g h p q e = absurd g
key_apart at s v w x y g h p q e = absurd g

leaf_text : (k : LeafKind) (v : Value) (x : Utf8) → IsGivenLeafKey k v → key_text v ≡ Some x → IsTextKey v
leaf_text anything (value.str a) x g p = tt
leaf_text texts (value.str a) x g p = tt
leaf_text raw_values (value.str a) x g p = tt
leaf_text characters (value.character a) x g p = absurd (no_some p)
leaf_text byte_strings (value.bytes a) x g p = absurd (no_some p)
leaf_text byte_buffers (value.bytes a) x g p = absurd (no_some p)
leaf_text ignored value.unit x g p = absurd (no_some p)
leaf_text k v x g p = absurd g

key_is_text : (at : Sight) (s : Form) (v : Value) (x : Utf8) → IsGivenKey at s v → key_text v ≡ Some x → IsTextKey v
key_is_text at (leaf l) v x g p = leaf_text (leaf_kind l) v x g.0 p
key_is_text at (enumeration vs) (value.unit_variant a) x g p = tt
key_is_text at (enumeration vs) v x g p = absurd g
key_is_text at s v x g p = absurd g

-- each key is so
abbrev AllKeys : (Value → Type 0) → Entries → Type 0
AllKeys P value.no_entries = Unit {0}
AllKeys P (value.entry k v es) = P k × AllKeys P es

given_keys : (at : Sight) (es : Entries) (key s : Form) → EntriesGiven at es key s → AllKeys (IsGivenKey at key) es
given_keys at value.no_entries key s g = tt
given_keys at (value.entry k v es) key s g = (g.0, given_keys at es key s g.2)

any_keys : (es : Entries) → AreGivenEntries es → AllKeys IsGivenText es
any_keys value.no_entries g = tt
any_keys (value.entry k v es) g = (g.0, any_keys es g.2)

entries_lack : (P : Value → Type 0) (k : Value) (x : Utf8) → ((w : Value) (y : Utf8) → P w → key_text w ≡ Some y → same w k ≡ false → bytes_eq x y ≡ false) → (es : Entries) → AllKeys P es → Differs k es → (levels : ℕ) (ps : Pairs)
    → spell_entries es levels ≡ Ok ps → Lacks x ps
entries_lack P k x apart value.no_entries g d levels ps e = subst (Lacks x) (ok_is no_pairs ps e) tt
entries_lack P k x apart (value.entry w v es) g d levels ps e =
    let z = bind_ok (spell_key w) (λ key. under key (spell v levels) >>= λ t. spell_entries es levels >>= λ qs. Ok (pair key t qs)) ps e in
    let b = bind_ok (under z.0 (spell v levels)) (λ t. spell_entries es levels >>= λ qs. Ok (pair z.0 t qs)) ps z.2 in
    let c = bind_ok (spell_entries es levels) (λ qs. Ok (pair z.0 b.0 qs)) ps b.2 in
    subst (Lacks x) (ok_is (pair z.0 b.0 c.0) ps c.2) (apart w z.0 g.0 (spell_key_ok w z.0 z.1).0 d.0, entries_lack P k x apart es g.1 d.1 levels c.0 c.1)

neither : (a b : Bool) → (a || b) ≡ false → (a ≡ false) × (b ≡ false)
neither true b e = absurd cc
neither false b e = (refl, e)

fields_lack : (at : Sight) (name : Utf8) (vs : FieldValues) (fs : Fields) → FieldsGiven at vs fs → has_name name (field_names fs) ≡ false → (levels : ℕ) (ps : Pairs) → spell_fields vs levels ≡ Ok ps → Lacks name ps
fields_lack at name value.no_field_values no_fields g n levels ps e = subst (Lacks name) (ok_is no_pairs ps e) tt
fields_lack at name (value.field_value m v vs) (field l s fs) g n levels ps e =
    let a = bind_ok (named m (spell v levels)) (λ t. spell_fields vs levels >>= λ qs. Ok (pair m t qs)) ps e in
    let b = bind_ok (spell_fields vs levels) (λ qs. Ok (pair m a.0 qs)) ps a.2 in
    let c = neither (bytes_eq name l) (has_name name (field_names fs)) n in
    subst (Lacks name) (ok_is (pair m a.0 b.0) ps b.2) (ap (bytes_eq name) g.0 ∙ c.0, fields_lack at name vs fs g.2 c.1 levels b.0 b.1)
fields_lack at name vs fs g n levels ps e = absurd g

-- ---- trees as data

mutual
  tree_alike : (t : Tree) → IsGivenTree t → IsAlike (datum itself t)
  tree_alike (tree.document ps) g = pairs_alike ps g
  tree_alike (tree.array ts) g = trees_alike ts g
  tree_alike (tree.binary (suc n) b) g = ((tree.binary (suc n) b, g.0, refl), ((tt, (tt, (tt, tt))), tt))
  tree_alike tree.undefined g = ((tree.undefined, tt, refl), (tt, tt))
  tree_alike (tree.object_id id) g = ((tree.object_id id, tt, refl), (tt, tt))
  tree_alike (tree.date_time n) g = ((tree.date_time n, tt, refl), ((tt, (tt, tt)), tt))
  tree_alike (tree.regular_expression p o) g = ((tree.regular_expression p o, tt, refl), ((tt, (tt, (tt, tt))), tt))
  tree_alike (tree.db_pointer n id) g = ((tree.db_pointer n id, tt, refl), ((tt, (tt, ((tt, (tt, tt)), tt))), tt))
  tree_alike (tree.javascript_code t) g = ((tree.javascript_code t, tt, refl), (tt, tt))
  tree_alike (tree.symbol t) g = ((tree.symbol t, tt, refl), (tt, tt))
  tree_alike (tree.javascript_code_with_scope code scope) g = ((tree.javascript_code_with_scope code scope, tt, refl), (tt, (pairs_alike scope g.1, tt)))
  tree_alike (tree.timestamp t i) g = ((tree.timestamp t i, tt, refl), ((tt, (tt, (tt, tt))), tt))
  tree_alike (tree.decimal128 b) g = ((tree.decimal128 b, tt, refl), (tt, tt))
  tree_alike tree.max_key g = ((tree.max_key, tt, refl), (tt, tt))
  tree_alike tree.min_key g = ((tree.min_key, tt, refl), (tt, tt))
  tree_alike t g = tt

  pairs_alike : (ps : Pairs) → ArePairsGiven ps → EntriesAlike (pair_data itself ps)
  pairs_alike no_pairs g = tt
  pairs_alike (pair key t ps) g = (tt, tree_alike t g.3, pairs_alike ps g.4)

  trees_alike : (ts : Trees) → AreTreesGiven ts → AreAlike (tree_data itself ts)
  trees_alike no_trees g = tt
  trees_alike (tree.tree t ts) g = (tree_alike t g.0, trees_alike ts g.1)

mutual
  tree_free : (t : Tree) → IsGivenTree t → HasCommonKeys t → HasFreeKeys t
  tree_free (tree.document ps) g c = pairs_free ps g c
  tree_free (tree.array ts) g c = trees_free ts g c
  tree_free (tree.javascript_code_with_scope code scope) g c = pairs_free scope g.1 c
  tree_free t g c = tt

  pairs_free : (ps : Pairs) → ArePairsGiven ps → PairsHaveCommonKeys ps → PairsHaveFreeKeys ps
  pairs_free no_pairs g c = tt
  pairs_free (pair key t ps) g c = (c.0, g.2, tree_free t g.3 c.1, pairs_free ps g.4 c.2)

  trees_free : (ts : Trees) → AreTreesGiven ts → TreesHaveCommonKeys ts → TreesHaveFreeKeys ts
  trees_free no_trees g c = tt
  trees_free (tree.tree t ts) g c = (tree_free t g.0 c.0, trees_free ts g.1 c.1)

tree_good : (t : Tree) → IsGivenTree t → Good (datum itself t)
tree_good t g levels u e c = let is = (datum_spelled t levels u g e).0 in (subst HasFreeKeys (sym is) (tree_free t g (subst HasCommonKeys is c)), tree_alike t g)

extended_good : (k : ExtendedLeaf) (v : Value) → IsGivenExtended k v → Good v
extended_good object_ids v g = subst Good (sym g.2) (tree_good (tree.object_id g.0) g.1)
extended_good uuids v g = subst Good (sym g.2) (uuid g.0) where
  uuid : (b : Bytes) → Good (uuid_datum itself b)
  uuid b levels u e c = (subst HasFreeKeys (kept _ _ (tree.binary 4 b) u e) tt, (tt, tt))
extended_good (of_kind k) v g = subst Good (sym g.3) (tree_good g.0 g.2)
extended_good trees v g = subst Good (sym g.2) (tree_good g.0 g.1)
extended_good documents v g = subst Good (sym g.2) (tree_good (tree.document g.0) g.1)

-- ---- values without a shape

-- what is spelled as no container
scalar_good : (v : Value) (t : Tree) → HasFreeKeys t → IsAlike v → ((levels : ℕ) (u : Tree) → spell v levels ≡ Ok u → t ≡ u) → Good v
scalar_good v t f a is levels u e c = (subst HasFreeKeys (is levels u e) f, a)

pub number_free : (k : ElementType) (n : ℤ) (u : Tree) → spell_number k n ≡ Ok u → HasFreeKeys u
number_free Int32 n u e = subst HasFreeKeys (ok_is (tree.int32 n) u e) tt
number_free k n u e = subst HasFreeKeys (kept _ _ (tree.int64 n) u e) tt

any_texts : (a b : Value) (x y : Utf8) → IsGivenText a → IsGivenText b → key_text a ≡ Some x → key_text b ≡ Some y → same b a ≡ false → bytes_eq x y ≡ false
any_texts (value.str a) (value.str b) x y g h p q e = texts_apart a b x y p q e
any_texts (value.str a) b x y g h p q e = absurd h
any_texts a b x y g h p q e = absurd g

any_is_text : (k : Value) → IsGivenText k → IsTextKey k
any_is_text (value.str t) g = tt
any_is_text k g = absurd g

mutual
  any_good : (v : Value) → IsGivenAny v → Good v
  any_good (value.boolean b) g levels u e c = (subst HasFreeKeys (ok_is (tree.boolean b) u e) tt, tt)
  any_good (value.integer i32 n) g levels u e c = (number_free Int32 n u e, tt)
  any_good (value.integer i64 n) g levels u e c = (number_free Int64 n u e, tt)
  any_good (value.double b) g levels u e c = (subst HasFreeKeys (ok_is (tree.double b) u e) tt, tt)
  any_good (value.str t) g levels u e c = (subst HasFreeKeys (ok_is (tree.string t) u e) tt, tt)
  any_good (value.bytes b) g levels u e c = (subst HasFreeKeys (kept _ _ (tree.binary 0 b) u e) tt, tt)
  any_good value.unit g levels u e c = (subst HasFreeKeys (ok_is tree.null u e) tt, tt)
  any_good (value.sequence vs) g levels u e c = array_good vs (any_items_good vs g) levels u e c
  any_good (value.map es) g levels u e c = map_good es (any_entries_good es g.0 g.1) levels u e c
  any_good v g levels u e c = absurd g

  any_items_good : (vs : Items) → AreGivenItems vs → GoodItems vs
  any_items_good value.no_items g = no_items_good
  any_items_good (value.item v vs) g = item_good v vs (any_good v g.0) (any_items_good vs g.1)

  any_entries_good : (es : Entries) → AreApart es → AreGivenEntries es → GoodEntries es
  any_entries_good value.no_entries a g = no_entries_good
  any_entries_good (value.entry k v es) a g =
      entry_good k v es (λ x p. any_is_text k g.0) (λ x levels ps p q. entries_lack IsGivenText k x (λ w y h o d. any_texts k w x y g.0 h p o d) es (any_keys es g.2) a.0 levels ps q) (any_good v g.1) (any_entries_good es a.1 g.2)

-- ---- leaves

leaf_good : (k : LeafKind) (v : Value) → IsBuilt k → IsGivenLeaf k v → Good v
leaf_good anything v b g levels u e c = any_good v g levels u e c
leaf_good ignored value.unit b g levels u e c = (subst HasFreeKeys (ok_is tree.null u e) tt, tt)
leaf_good booleans (value.boolean x) b g levels u e c = (subst HasFreeKeys (ok_is (tree.boolean x) u e) tt, tt)
leaf_good (numbers type) (value.integer t n) b g levels u e c = (number_free (written_as t) n u e, tt)
leaf_good doubles (value.double x) b g levels u e c = (subst HasFreeKeys (ok_is (tree.double x) u e) tt, tt)
leaf_good characters (value.character x) b g levels u e c = (subst HasFreeKeys (ok_is (tree.string (encode_utf8 x)) u e) tt, tt)
leaf_good texts (value.str t) b g levels u e c = (subst HasFreeKeys (ok_is (tree.string t) u e) tt, tt)
leaf_good byte_strings (value.bytes x) b g levels u e c = (subst HasFreeKeys (kept _ _ (tree.binary 0 x) u e) tt, tt)
leaf_good byte_buffers (value.bytes x) b g levels u e c = (subst HasFreeKeys (kept _ _ (tree.binary 0 x) u e) tt, tt)
leaf_good units value.unit b g levels u e c = (subst HasFreeKeys (ok_is tree.null u e) tt, tt)
leaf_good (extended_values k) v b g levels u e c = extended_good k v g levels u e c
leaf_good raw_documents v b g levels u e c = absurd b
leaf_good raw_arrays v b g levels u e c = absurd b
leaf_good raw_values v b g levels u e c = absurd b
leaf_good k v b g levels u e c = absurd g

-- ---- all values

chosen_content : (b : Bool) (c d : Content) (o : Option Content) → IsContent c → cond b (Some c) o ≡ Some d → (o ≡ Some d → IsContent d) → IsContent d
chosen_content true c d o p e h = subst IsContent (some_is c d e) p
chosen_content false c d o p e h = h e

content_is : (vs : Variants) (name : Utf8) (c : Content) → AreVariants vs → content_of vs name ≡ Some c → IsContent c
content_is no_variants name c p e = absurd (no_some e)
content_is (variant n d vs) name c p e = chosen_content (bytes_eq n name) d c (content_of vs name) p.1 e (content_is vs name c p.2)

chosen_suits : (b : Bool) (c d : Content) (o : Option Content) → EveryContent ways_rows c → cond b (Some c) o ≡ Some d → (o ≡ Some d → EveryContent ways_rows d) → EveryContent ways_rows d
chosen_suits true c d o p e h = subst (EveryContent ways_rows) (some_is c d e) p
chosen_suits false c d o p e h = h e

content_suits : (vs : Variants) (name : Utf8) (c : Content) → EveryVariant ways_rows vs → content_of vs name ≡ Some c → EveryContent ways_rows c
content_suits no_variants name c p e = absurd (no_some e)
content_suits (variant n d vs) name c p e = chosen_suits (bytes_eq n name) d c (content_of vs name) p.1 e (content_suits vs name c p.2)

mutual
  pub given_good : (at : Sight) (v : Value) (s : Form) → IsShape s → SuitsBothWays s → IsGiven at v s → Good v
  given_good at v (leaf l) p b g levels u e c = leaf_good (leaf_kind l) v b (given_leaf at v l g).0 levels u e c
  given_good at v (lossy s) p b g levels u e c = given_good (marked at) v s p b (given_lossy at v s g) levels u e c
  given_good at v (human_readable s) p b g levels u e c = absurd b
  given_good at v (by_mode s t) p b g levels u e c = absurd b
  given_good at v (definitions t s) p b g levels u e c = given_good at v s p b.1 (given_body at v t s g) levels u e c
  given_good at value.none (optional s) p b g levels u e c = (subst HasFreeKeys (ok_is tree.null u e) tt, tt)
  given_good at (value.some v) (optional s) p b g levels u e c = given_good at v s p b g levels u e c
  given_good at (value.newtype m v) (newtype n s) p b g levels u e c = given_good at v s p.1 b.1 g.1 levels u (sym (free_spelled m v levels (ap is_reserved_newtype g.0 ∙ p.0.free)) ∙ e) c
  given_good at (value.unit_structure m) (unit_structure n) p b g levels u e c = (subst HasFreeKeys (ok_is tree.null u e) tt, tt)
  given_good at (value.sequence vs) (sequence s) p b g levels u e c = array_good vs (given_items_good at vs s p b g) levels u e c
  given_good at (value.map es) (map key s) p b g levels u e c = map_good es (given_entries_good at es key s p.2 b.1 g.0 g.1) levels u e c
  given_good at (value.tuple vs) (tuple ps) p b g levels u e c = array_good vs (given_parts_good at vs ps p b g) levels u e c
  given_good at (value.tuple_structure m vs) (tuple_structure n ps) p b g levels u e c = array_good vs (given_parts_good at vs ps p.1 b g.1) levels u e c
  given_good at (value.structure m vs) (structure w n fs) p b g levels u e c =
      let none = ap reserved_kind g.0 ∙ p.0.free in
      let r = fields_good vs (given_fields_good at vs fs p.0.distinct p.1 b.1 g.1) levels u (sym (free_struct m vs levels none) ∙ e) c in
      (r.0, (subst (λ o. IsWrap o m vs) (sym none) tt, r.1))
  given_good at (value.unit_variant name) (enumeration vs) p b g levels u e c = (subst HasFreeKeys (ok_is (tree.string name) u e) tt, tt)
  given_good at (value.newtype_variant name v) (enumeration vs) p b g levels u e c =
      variant_good name (spell v) (λ n t q d. given_good at v g.0 (content_is vs name (newtype_content g.0) p.1 g.1) (content_suits vs name (newtype_content g.0) b g.1) g.2 n t q d) levels u e c
  given_good at (value.tuple_variant name ws) (enumeration vs) p b g levels u e c =
      variant_good name (λ inside. enclosed_at array inside (spell_items 0 ws))
      (λ n t q d. array_good ws (given_parts_good at ws g.0 (content_is vs name (tuple_content g.0) p.1 g.1) (content_suits vs name (tuple_content g.0) b g.1) g.2) n t q d) levels u e c
  given_good at (value.structure_variant name ws) (enumeration vs) p b g levels u e c =
      let is = content_is vs name (struct_content g.0) p.1 g.1 in
      variant_good name (λ inside. enclosed_at document inside (spell_fields ws))
      (λ n t q d. fields_good ws (given_fields_good at ws g.0 is.0 is.1 (content_suits vs name (struct_content g.0) b g.1) g.2) n t q d) levels u e c
  given_good at v s p b g levels u e c = absurd g

  given_items_good : (at : Sight) (vs : Items) (s : Form) → IsShape s → SuitsBothWays s → ItemsGiven at vs s → GoodItems vs
  given_items_good at value.no_items s p b g = no_items_good
  given_items_good at (value.item v vs) s p b g = item_good v vs (given_good at v s p b g.0) (given_items_good at vs s p b g.1)

  given_parts_good : (at : Sight) (vs : Items) (ps : Parts) → AreParts ps → EveryPart ways_rows ps → PartsGiven at vs ps → GoodItems vs
  given_parts_good at value.no_items no_parts p b g = no_items_good
  given_parts_good at (value.item v vs) (part s ps) p b g = item_good v vs (given_good at v s p.0 b.0 g.0) (given_parts_good at vs ps p.1 b.1 g.1)
  given_parts_good at vs ps p b g = absurd g

  given_entries_good : (at : Sight) (es : Entries) (key s : Form) → IsShape s → SuitsBothWays s → AreApart es → EntriesGiven at es key s → GoodEntries es
  given_entries_good at value.no_entries key s p b a g = no_entries_good
  given_entries_good at (value.entry k v es) key s p b a g =
      entry_good k v es (λ x o. key_is_text at key k x g.0 o) (λ x levels ps o q. entries_lack (IsGivenKey at key) k x (λ w y h t d. key_apart at key k w x y g.0 h o t d) es (given_keys at es key s g.2) a.0 levels ps q)
      (given_good at v s p b g.1) (given_entries_good at es key s p b a.1 g.2)

  given_fields_good : (at : Sight) (vs : FieldValues) (fs : Fields) → repeats fs ≡ false → AreShapes fs → EveryField ways_rows fs → FieldsGiven at vs fs → GoodFields vs
  given_fields_good at value.no_field_values no_fields d p b g = no_fields_good
  given_fields_good at (value.field_value m v vs) (field n s fs) d p b g =
      let c = neither (has_name n (field_names fs)) (repeats fs) d in
      field_good m v vs (λ levels ps e. fields_lack at m vs fs g.2 (ap (λ x. has_name x (field_names fs)) g.0 ∙ c.0) levels ps e) (given_good at v s p.1 b.1 g.1) (given_fields_good at vs fs c.1 p.2 b.2 g.2)
  given_fields_good at vs fs d p b g = absurd g
