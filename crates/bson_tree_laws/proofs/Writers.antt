-- What is spelled as a tree without `$` keys and without repeated keys is written to this tree.
use Rattle.std.proofs.Common.{◌≡◌, ℕ, zero, suc, [], Bool, true, false, cond, Option, Some, None, Ok, refl, ap, sym, subst, ◌∙◌}
use Rattle.std.specs.Prelude.{◌||◌, is_some}
use Rattle.std.specs.Str.{bytes_eq}
use Rattle.bson_kinds.specs.Outcome.{◌>>=◌, result_map}
use Rattle.bson_base.specs.Pairs.{put}
use Rattle.bson_kinds.specs.Reserved.{reserved_kind}
use Rattle.bson_kinds.specs.Text.{Bytes, Utf8}
use Rattle.bson_base.specs.Tree as tree
use Rattle.bson_base.specs.Tree.{Tree, document, array, Pairs, no_pairs, pair, Trees, no_trees}
use Rattle.bson_kinds.specs.declared.element_type.ElementType.{ElementType}
use Rattle.bson_kinds.proofs.Outcomes.{some_is, map_ok, bind_ok}
use Rattle.bson_values.specs.Value as value
use Rattle.bson_values.specs.Value.{Value, Items, Entries, FieldValues, uuid_newtype, readable_inside}
use Rattle.bson_values.specs.Refusal.{at_index, under, under_index}
use Rattle.bson_laws.specs.Unwrap.{unwrap, scoped_code}
use Rattle.bson_laws.specs.UuidBytes.{uuid_bytes}
use Rattle.bson_laws.specs.Spell.{Writing, spell_uuid, spell_key, named, enclosed_at, struct_at, reserved_at, spell_as, spell_items_as, spell_entries_as, spell_fields_as, spell_list}
use Rattle.bson_laws.proofs.Sizes.{ok_is, inside_ok, under_ok, named_ok, spell_key_ok}
use Rattle.bson_tree_laws.proofs.Puts.{put_all, put_free, fold_free}
use Rattle.bson_tree_laws.proofs.Wraps.{Agrees, EachAgrees, kept, wrap_agrees}
use Rattle.bson_tree_laws.specs.Alike.{HasFreeKeys, PairsHaveFreeKeys, TreesHaveFreeKeys, IsWrap, IsTextKey, IsAlike, AreAlike, EntriesAlike, FieldsAlike}
use Rattle.bson_base.specs.Folded.{fold}
use Rattle.bson_tree_laws.specs.TreeSpell.{tree_uuid, tree_key, tree_variant, tree_struct, tree_spell, tree_items, tree_entries, tree_fields}
use Rattle.bson_kinds.proofs.Apart.{no_ok}

-- ---- the same for items, entries and fields

abbrev ItemsAgree : Items → Type 0
ItemsAgree vs = (readable : Bool) (i levels : ℕ) (ts : Trees) → spell_items_as readable i vs levels ≡ Ok ts → TreesHaveFreeKeys ts → tree_items readable i vs levels ≡ Ok ts

-- after pairs that are there, those of the entries are put one after another
abbrev EntriesAgree : Entries → Type 0
EntriesAgree es = (readable : Bool) (levels : ℕ) (ps done : Pairs) → spell_entries_as readable es levels ≡ Ok ps → PairsHaveFreeKeys ps → tree_entries readable es done levels ≡ Ok (put_all ps done)

abbrev FieldsAgree : FieldValues → Type 0
FieldsAgree fs = (readable : Bool) (levels : ℕ) (ps done : Pairs) → spell_fields_as readable fs levels ≡ Ok ps → PairsHaveFreeKeys ps → tree_fields readable false fs done levels ≡ Ok (put_all ps done)

-- ---- containers

-- where the parts of a container are written, one level further in, so is another of the same levels
enclosed_agrees : {A B : Type 0} (one : A → Tree) (other : B → Tree) (parts : ℕ → Writing A) (others : ℕ → Writing B) (levels : ℕ) (u : Tree) → ((n : ℕ) (x : A) → parts n ≡ Ok x → one x ≡ u → result_map other (others n) ≡ Ok u)
    → enclosed_at one levels parts ≡ Ok u → enclosed_at other levels others ≡ Ok u
enclosed_agrees one other parts others zero u h e = absurd (no_ok e)
enclosed_agrees one other parts others (suc n) u h e = let m = map_ok one (parts n) u e in h n m.0 m.1 m.2

array_agrees : (vs : Items) → ItemsAgree vs → (readable : Bool) (levels : ℕ) (u : Tree) → enclosed_at array levels (spell_items_as readable 0 vs) ≡ Ok u → HasFreeKeys u → enclosed_at array levels (tree_items readable 0 vs) ≡ Ok u
array_agrees vs h readable levels u e f =
    enclosed_agrees array array (spell_items_as readable 0 vs) (tree_items readable 0 vs) levels u
    (λ n ts q is. ap (result_map array) (h readable 0 n ts q (subst HasFreeKeys (sym is) f)) ∙ ap Ok is) e

-- pairs that are put one after another are a document
folded_is : (r : Writing Pairs) (ps : Pairs) (u : Tree) → (PairsHaveFreeKeys ps → r ≡ Ok (put_all ps no_pairs)) → document ps ≡ u → HasFreeKeys u → result_map fold r ≡ Ok u
folded_is r ps u h is f =
    let free : PairsHaveFreeKeys ps = subst HasFreeKeys (sym is) f in
    ap (result_map fold) (h free) ∙ ap Ok (ap fold (put_free ps free) ∙ fold_free ps free ∙ is)

map_agrees : (es : Entries) → EntriesAgree es → Agrees (value.map es)
map_agrees es h readable levels u e f =
    enclosed_agrees document fold (spell_entries_as readable es) (tree_entries readable es no_pairs) levels u
    (λ n ps q is. folded_is (tree_entries readable es no_pairs n) ps u (λ free. h readable n ps no_pairs q free) is f) e

fields_agree : (fs : FieldValues) → FieldsAgree fs → (readable : Bool) (levels : ℕ) (u : Tree) → enclosed_at document levels (spell_fields_as readable fs) ≡ Ok u → HasFreeKeys u
    → enclosed_at fold levels (tree_fields readable false fs no_pairs) ≡ Ok u
fields_agree fs h readable levels u e f =
    enclosed_agrees document fold (spell_fields_as readable fs) (tree_fields readable false fs no_pairs) levels u
    (λ n ps q is. folded_is (tree_fields readable false fs no_pairs n) ps u (λ free. h readable n ps no_pairs q free) is f) e

variant_agrees : (name : Utf8) (content other : ℕ → Writing Tree) (levels : ℕ) (u : Tree) → ((n : ℕ) (t : Tree) → content n ≡ Ok t → HasFreeKeys t → other n ≡ Ok t)
    → enclosed_at document levels (λ inside. named name (content inside) >>= λ t. Ok (pair name t no_pairs)) ≡ Ok u → HasFreeKeys u → tree_variant name levels other ≡ Ok u
variant_agrees name content other levels u h e f =
    enclosed_agrees document document (λ inside. named name (content inside) >>= λ t. Ok (pair name t no_pairs)) (λ inside. under name (other inside) >>= λ t. Ok (pair name t no_pairs)) levels u
    (λ n ps q is.
    let b = bind_ok (named name (content n)) (λ t. Ok (pair name t no_pairs)) ps q in
    let one : document (pair name b.0 no_pairs) ≡ u = ap document (ok_is (pair name b.0 no_pairs) ps b.2) ∙ is in
    ap (λ r. result_map document (under name r >>= λ t. Ok (pair name t no_pairs))) (h n b.0 (named_ok name (content n) b.0 b.1).1 (subst HasFreeKeys (sym one) f).2) ∙ ap Ok one) e

-- ---- keys, bytes and newtypes

key_agrees : (readable : Bool) (levels : ℕ) (k : Value) (key : Utf8) → IsTextKey k → spell_key k ≡ Ok key → (tree_spell readable false k levels >>= tree_key) ≡ Ok key
key_agrees readable levels (value.str t) key a e = ap Ok (some_is t key (spell_key_ok (value.str t) key e).0)
key_agrees readable levels (value.unit_variant t) key a e = ap Ok (some_is t key (spell_key_ok (value.unit_variant t) key e).0)
key_agrees readable levels k key a e = absurd a

uuid_agrees : (o : Option Bytes) (u : Tree) → spell_uuid o ≡ Ok u → tree_uuid o ≡ Ok u
uuid_agrees None u e = absurd (no_ok e)
uuid_agrees (Some b) u e = ap Ok (kept _ _ (tree.binary 4 b) u e)

newtype_agrees : (b : Bool) (o : Option Bytes) (r q : Writing Tree) (u : Tree) → (r ≡ Ok u → q ≡ Ok u) → cond b (spell_uuid o) r ≡ Ok u → cond b (tree_uuid o) q ≡ Ok u
newtype_agrees true o r q u h e = uuid_agrees o u e
newtype_agrees false o r q u h e = h e

chosen_agrees : (b : Bool) (r s x y : Writing Tree) (u : Tree) → (r ≡ Ok u → x ≡ Ok u) → (s ≡ Ok u → y ≡ Ok u) → cond b r s ≡ Ok u → cond b x y ≡ Ok u
chosen_agrees true r s x y u h g e = h e
chosen_agrees false r s x y u h g e = g e

-- ---- structs

each_put : (fs : FieldValues) → EachAgrees fs → FieldsAgree fs
each_put value.no_field_values h readable levels ps done e f = ap (λ x. Ok (put_all x done)) (ok_is no_pairs ps e)
each_put (value.field_value name v fs) h readable levels ps done e f =
    let a = bind_ok (named name (spell_as readable v levels)) (λ t. spell_fields_as readable fs levels >>= λ qs. Ok (pair name t qs)) ps e in
    let b = bind_ok (spell_fields_as readable fs levels) (λ qs. Ok (pair name a.0 qs)) ps a.2 in
    let is = ok_is (pair name a.0 b.0) ps b.2 in
    let free : PairsHaveFreeKeys (pair name a.0 b.0) = subst PairsHaveFreeKeys (sym is) f in
    ap (λ r. under name r >>= λ t. tree_fields readable false fs (put name t done) levels) (h.0 readable levels a.0 (named_ok name (spell_as readable v levels) a.0 a.1).1 free.2)
    ∙ each_put fs h.1 readable levels b.0 (put name a.0 done) b.1 free.3
    ∙ ap (λ x. Ok (put_all x done)) is

struct_agrees : (name : Utf8) (fs : FieldValues) (o : Option ElementType) → reserved_kind name ≡ o → IsWrap o name fs → EachAgrees fs → Agrees (value.structure name fs)
struct_agrees name fs None is w h readable levels u e f =
    ap (λ o. tree_struct (false || is_some o) levels (tree_fields readable (false || is_some o) fs no_pairs)) is
    ∙ fields_agree fs (each_put fs h) readable levels u (ap (λ o. struct_at o levels (spell_fields_as readable fs) (λ k. reserved_at k (unwrap k fs) (scoped_code (spell_list readable fs levels [])))) (sym is) ∙ e) f
struct_agrees name fs (Some k) is w h readable levels u e f = wrap_agrees w.0 name fs w.1 w.2 h readable levels u e f

-- ---- all values

mutual
  pub agrees : (v : Value) → IsAlike v → Agrees v
  agrees (value.bytes b) a readable levels u e f = ap Ok (kept _ _ (tree.binary 0 b) u e)
  agrees (value.some v) a readable levels u e f = agrees v a readable levels u e f
  agrees (value.newtype name v) a readable levels u e f =
      newtype_agrees (bytes_eq name uuid_newtype) (uuid_bytes readable v) (spell_as (readable_inside readable name) v levels) (tree_spell (readable_inside readable name) false v levels) u
      (λ q. agrees v a (readable_inside readable name) levels u q f) e
  agrees (value.raw_document bs) a readable levels u e f = absurd a
  agrees (value.raw_array bs) a readable levels u e f = absurd a
  agrees (value.mode v w) a readable levels u e f =
      chosen_agrees readable (spell_as readable v levels) (spell_as readable w levels) (tree_spell readable false v levels) (tree_spell readable false w levels) u
      (λ q. agrees v a.0 readable levels u q f) (λ q. agrees w a.1 readable levels u q f) e
  agrees (value.sequence vs) a readable levels u e f = array_agrees vs (items_agree vs a) readable levels u e f
  agrees (value.tuple vs) a readable levels u e f = array_agrees vs (items_agree vs a) readable levels u e f
  agrees (value.tuple_structure name vs) a readable levels u e f = array_agrees vs (items_agree vs a) readable levels u e f
  agrees (value.map es) a readable levels u e f = map_agrees es (entries_agree es a) readable levels u e f
  agrees (value.structure name fs) a readable levels u e f = struct_agrees name fs (reserved_kind name) refl a.0 (each_agrees fs a.1) readable levels u e f
  agrees (value.newtype_variant name v) a readable levels u e f = variant_agrees name (spell_as readable v) (tree_spell readable false v) levels u (λ n t q g. agrees v a readable n t q g) e f
  agrees (value.tuple_variant name vs) a readable levels u e f =
      variant_agrees name (λ inside. enclosed_at array inside (spell_items_as readable 0 vs)) (λ inside. enclosed_at array inside (tree_items readable 0 vs)) levels u
      (λ n t q g. array_agrees vs (items_agree vs a) readable n t q g) e f
  agrees (value.structure_variant name fs) a readable levels u e f =
      variant_agrees name (λ inside. enclosed_at document inside (spell_fields_as readable fs)) (λ inside. enclosed_at fold inside (tree_fields readable false fs no_pairs)) levels u
      (λ n t q g. fields_agree fs (each_put fs (each_agrees fs a)) readable n t q g) e f
  agrees v a readable levels u e f = e

  items_agree : (vs : Items) → AreAlike vs → ItemsAgree vs
  items_agree value.no_items a readable i levels ts e f = e
  items_agree (value.item v vs) a readable i levels ts e f =
      let b = bind_ok (under_index i (spell_as readable v levels)) (λ t. spell_items_as readable (suc i) vs levels >>= λ us. Ok (tree.tree t us)) ts e in
      let c = bind_ok (spell_items_as readable (suc i) vs levels) (λ us. Ok (tree.tree b.0 us)) ts b.2 in
      let is = ok_is (tree.tree b.0 c.0) ts c.2 in
      let free : TreesHaveFreeKeys (tree.tree b.0 c.0) = subst TreesHaveFreeKeys (sym is) f in
      ap (λ r. under_index i r >>= λ t. tree_items readable (suc i) vs levels >>= λ us. Ok (tree.tree t us)) (agrees v a.0 readable levels b.0 (inside_ok (at_index i) (spell_as readable v levels) b.0 b.1) free.0)
      ∙ ap (λ r. r >>= λ us. Ok (tree.tree b.0 us)) (items_agree vs a.1 readable (suc i) levels c.0 c.1 free.1)
      ∙ ap Ok is

  entries_agree : (es : Entries) → EntriesAlike es → EntriesAgree es
  entries_agree value.no_entries a readable levels ps done e f = ap (λ x. Ok (put_all x done)) (ok_is no_pairs ps e)
  entries_agree (value.entry k v es) a readable levels ps done e f =
      let x = bind_ok (spell_key k) (λ key. under key (spell_as readable v levels) >>= λ t. spell_entries_as readable es levels >>= λ qs. Ok (pair key t qs)) ps e in
      let b = bind_ok (under x.0 (spell_as readable v levels)) (λ t. spell_entries_as readable es levels >>= λ qs. Ok (pair x.0 t qs)) ps x.2 in
      let c = bind_ok (spell_entries_as readable es levels) (λ qs. Ok (pair x.0 b.0 qs)) ps b.2 in
      let is = ok_is (pair x.0 b.0 c.0) ps c.2 in
      let free : PairsHaveFreeKeys (pair x.0 b.0 c.0) = subst PairsHaveFreeKeys (sym is) f in
      ap (λ r. r >>= λ key. under key (tree_spell readable false v levels) >>= λ t. tree_entries readable es (put key t done) levels) (key_agrees readable levels k x.0 a.0 x.1)
      ∙ ap (λ r. under x.0 r >>= λ t. tree_entries readable es (put x.0 t done) levels) (agrees v a.1 readable levels b.0 (under_ok x.0 (spell_as readable v levels) b.0 b.1) free.2)
      ∙ entries_agree es a.2 readable levels c.0 (put x.0 b.0 done) c.1 free.3
      ∙ ap (λ y. Ok (put_all y done)) is

  each_agrees : (fs : FieldValues) → FieldsAlike fs → EachAgrees fs
  each_agrees value.no_field_values a = tt
  each_agrees (value.field_value name v fs) a = (agrees v a.0, each_agrees fs a.1)

pub writers : (readable : Bool) (d : Value) (levels : ℕ) (u : Tree) → IsAlike d → spell_as readable d levels ≡ Ok u → HasFreeKeys u → tree_spell readable false d levels ≡ Ok u
writers readable d levels u a e f = agrees d a readable levels u e f
