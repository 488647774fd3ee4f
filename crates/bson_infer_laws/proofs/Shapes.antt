-- What is inferred of clean documents holds each of them, and a document that is added again changes nothing.
use Rattle.std.proofs.Common.{◌≡◌, zero, suc, pos, negsuc, ℤ, Bool, true, false, refl, ap, sym, subst, ◌∙◌, arith}
use Rattle.std.specs.Prelude.{◌||◌, IsSome, FitsSigned}
use Rattle.std.specs.Int.{w32, w64}
use Rattle.std.specs.Str.{bytes_eq}
use Rattle.std.proofs.lemmas.Int.{ints}
use Rattle.bson_kinds.specs.Text.{Utf8}
use Rattle.bson_base.specs.Pairs.{lookup}
use Rattle.bson_base.specs.Sound.{IsClean, ArePairsClean, AreTreesClean, Lacks}
use Rattle.bson_base.specs.Tree as tree
use Rattle.bson_base.specs.Tree.{Tree, Pairs, no_pairs, pair, Trees, no_trees}
use Rattle.bson_shape.specs.Form.{Form, Fields, no_fields, field}
use Rattle.bson_values.specs.Value as value
use Rattle.bson_values.specs.Value.{i32, i64, in_range, Value}
use Rattle.bson_laws.specs.Views.{views}
use Rattle.bson_laws.proofs.Fitted.{bytes_eq-refl, chosen_t, chosen_f, Unnamed, unlike_swap}
use Rattle.bson_laws.specs.Named.{has}
use Rattle.bson_infer_laws.specs.Join.{nothing, is_nothing, join}
use Rattle.bson_infer_laws.specs.Above.{IsOptional, Above, IsJoined, AreJoined}
use Rattle.bson_infer_laws.specs.Inferred.{shape_of, pair_shapes, joined_shapes, inferred, with_last, AllTrees}
use Rattle.bson_infer_laws.proofs.Holds.{HoldsAt, KeysIn, Holds, FieldsHold, held}
use Rattle.bson_infer_laws.proofs.Above.{above_trans, absorbs}
use Rattle.bson_infer_laws.proofs.Joins.{above_itself, joins}
use Rattle.bson_infer_laws.proofs.Proper.{join_joined}
use Rattle.bson_infer_laws.proofs.Covers.{some_number, holds_up, all_up}

-- ---- each form is one that joins are of

pairs_lack : (key : Utf8) (ps : Pairs) → Lacks key ps → has (pair_shapes ps) key ≡ false
pairs_lack key no_pairs h = refl
pairs_lack key (pair k t ps) h = or_false (bytes_eq k key) (has (pair_shapes ps) key) (unlike_swap key k h.0) (pairs_lack key ps h.1)
  where
    or_false : (a b : Bool) → a ≡ false → b ≡ false → (a || b) ≡ false
    or_false true b e f = absurd cc
    or_false false b e f = f

something : (t : Tree) → is_nothing (shape_of t) ≡ false
something (tree.double b) = refl
something (tree.binary zero b) = refl
something (tree.binary (suc n) b) = refl
something t = refl

mutual
  pub shape_joined : (t : Tree) → IsClean t → IsJoined (shape_of t)
  shape_joined (tree.document ps) c = (refl, pairs_joined ps c)
  shape_joined (tree.array ts) c = list_joined nothing ts refl c
  shape_joined (tree.binary zero b) c = tt
  shape_joined (tree.binary (suc n) b) c = tt
  shape_joined t c = tt

  pub pairs_joined : (ps : Pairs) → ArePairsClean ps → AreJoined (pair_shapes ps)
  pairs_joined no_pairs c = tt
  pairs_joined (pair key t ps) c = (pairs_lack key ps c.1, something t, shape_joined t c.2, pairs_joined ps c.3)

  pub list_joined : (s : Form) (ts : Trees) → IsJoined s → AreTreesClean ts → IsJoined (joined_shapes s ts)
  list_joined s no_trees p c = p
  list_joined s (tree.tree t ts) p c = list_joined (join s (shape_of t)) ts (join_joined s (shape_of t) p (shape_joined t c.0)) c.1

-- ---- and it is above each value

list_above : (s : Form) (ts : Trees) → IsJoined s → AreTreesClean ts → Above (joined_shapes s ts) s
list_above s no_trees p c = above_itself s p
list_above s (tree.tree t ts) p c =
    let q = shape_joined t c.0 in
    let j = join_joined s (shape_of t) p q in
    above_trans (joined_shapes (join s (shape_of t)) ts) (join s (shape_of t)) s (list_above (join s (shape_of t)) ts j c.1) (joins s (shape_of t) p q).0

-- the form of the list is above that of its first value
first_above : (s : Form) (t : Tree) (ts : Trees) → IsJoined s → IsClean t → AreTreesClean ts → Above (joined_shapes (join s (shape_of t)) ts) (shape_of t)
first_above s t ts p c cs =
    let q = shape_joined t c in
    let j = join_joined s (shape_of t) p q in
    above_trans (joined_shapes (join s (shape_of t)) ts) (join s (shape_of t)) (shape_of t) (list_above (join s (shape_of t)) ts j cs) (joins s (shape_of t) p q).1

pub each_above : (s : Form) (ts : Trees) → IsJoined s → AreTreesClean ts → AllTrees (λ t. Above (joined_shapes s ts) (shape_of t)) ts
each_above s no_trees p c = tt
each_above s (tree.tree t ts) p c =
    (first_above s t ts p c.0 c.1, each_above (join s (shape_of t)) ts (join_joined s (shape_of t) p (shape_joined t c.0)) c.1)

-- ---- each value is of its form

in_i32 : (n : ℤ) → FitsSigned w32 n → in_range i32 n ≡ true
in_i32 (pos n) h = grind (arith, ints, h)
in_i32 (negsuc n) h = grind (arith, ints, h)

in_i64 : (n : ℤ) → FitsSigned w64 n → in_range i64 n ≡ true
in_i64 (pos n) h = grind (arith, ints, h)
in_i64 (negsuc n) h = grind (arith, ints, h)

pairs_unnamed : (key : Utf8) (ps : Pairs) → Lacks key ps → Unnamed key (pair_shapes ps)
pairs_unnamed key no_pairs h = tt
pairs_unnamed key (pair k t ps) h = (unlike_swap key k h.0, pairs_unnamed key ps h.1)

-- a pair that no field names
hold_more : (fs : Fields) (key : Utf8) (t : Tree) (ps : Pairs) → Unnamed key fs → FieldsHold fs ps → FieldsHold fs (pair key t ps)
hold_more no_fields key t ps u h = tt
hold_more (field name s fs) key t ps u h =
    (subst (HoldsAt (Holds s) (IsOptional s)) (sym (chosen_f (bytes_eq name key) t (lookup name ps) u.0)) h.0, hold_more fs key t ps u.1 h.1)

keys_more : (ps : Pairs) (n : Utf8) (s : Form) (fs : Fields) → KeysIn ps fs → KeysIn ps (field n s fs)
keys_more no_pairs n s fs h = tt
keys_more (pair key t ps) n s fs h = (ap (λ b. bytes_eq n key || b) h.0 ∙ or_true (bytes_eq n key), keys_more ps n s fs h.1)
  where
    or_true : (a : Bool) → (a || true) ≡ true
    or_true true = refl
    or_true false = refl

mutual
  pub shape_holds : (t : Tree) → IsClean t → Holds (shape_of t) t
  shape_holds (tree.document ps) c = pairs_hold ps c
  shape_holds (tree.array ts) c = list_holds nothing ts refl c
  shape_holds (tree.binary zero b) c = refl
  shape_holds (tree.binary (suc n) b) c = refl
  shape_holds (tree.int32 n) c = some_number (in_range i32 n) (value.integer i32 n) (in_i32 n c)
  shape_holds (tree.int64 n) c = some_number (in_range i64 n) (value.integer i64 n) (in_i64 n c)
  shape_holds t c = refl

  pairs_hold : (ps : Pairs) → ArePairsClean ps → FieldsHold (pair_shapes ps) ps × KeysIn ps (pair_shapes ps)
  pairs_hold no_pairs c = (tt, tt)
  pairs_hold (pair key t ps) c =
      let r = pairs_hold ps c.3 in (
        (
          subst (HoldsAt (Holds (shape_of t)) (IsOptional (shape_of t))) (sym (chosen_t (bytes_eq key key) t (lookup key ps) (bytes_eq-refl key))) (shape_holds t c.2),
          hold_more (pair_shapes ps) key t ps (pairs_unnamed key ps c.1) r.0,
        ),
        (ap (λ b. b || has (pair_shapes ps) key) (bytes_eq-refl key), keys_more ps key (shape_of t) (pair_shapes ps) r.1),
      )

  pub list_holds : (s : Form) (ts : Trees) → IsJoined s → AreTreesClean ts → AllTrees (Holds (joined_shapes s ts)) ts
  list_holds s no_trees p c = tt
  list_holds s (tree.tree t ts) p c = (
    holds_up (joined_shapes (join s (shape_of t)) ts) (shape_of t) t (first_above s t ts p c.0 c.1) (shape_holds t c.0),
    list_holds (join s (shape_of t)) ts (join_joined s (shape_of t) p (shape_joined t c.0)) c.1,
  )

-- ---- the laws

pub each_views : (ts : Trees) → AreTreesClean ts → AllTrees (λ t. IsSome (views (inferred ts) t)) ts
each_views ts c = all_up (Holds (inferred ts)) (λ t. IsSome (views (inferred ts) t)) (λ t h. held (inferred ts) t h) ts (list_holds nothing ts refl c)

last_joined : (s : Form) (ts : Trees) (u : Tree) → joined_shapes s (with_last ts u) ≡ join (joined_shapes s ts) (shape_of u)
last_joined s no_trees u = refl
last_joined s (tree.tree t ts) u = last_joined (join s (shape_of t)) ts u

pub each_again : (ts : Trees) → AreTreesClean ts → AllTrees (λ t. inferred (with_last ts t) ≡ inferred ts) ts
each_again ts c =
    all_up (λ t. Above (inferred ts) (shape_of t)) (λ t. inferred (with_last ts t) ≡ inferred ts)
    (λ t h. last_joined nothing ts t ∙ absorbs (inferred ts) (shape_of t) (list_joined nothing ts refl c) h) ts (each_above nothing ts refl c)
