-- What is inferred of clean documents meets what the makers of shapes ask.
use Rattle.std.proofs.Common.{zero, suc, ◌+◌, ◌≤◌, arith, ◌≡◌, ℕ, Bool, true, false, cond, Option, Some, None, refl, ap, sym, subst, ◌∙◌}
use Rattle.std.specs.Prelude.{◌||◌, max}
use Rattle.std.specs.Str.{bytes_eq}
use Rattle.bson_kinds.specs.Text.{Utf8}
use Rattle.bson_shape.specs.Form.{dropped, Form, leaf, optional, sequence, structure, enumeration, Fields, no_fields, field, no_variants, joined}
use Rattle.bson_shape.specs.declared.leaf.Leaf.TheVariants.{Bson}
use Rattle.std.specs.Str.{is_utf8}
use Rattle.bson_base.specs.Sound.{IsClean, ArePairsClean, AreTreesClean, IsDocument}
use Rattle.bson_base.specs.Tree as tree
use Rattle.bson_base.specs.Tree.{Tree, depth, pairs_depth, trees_depth, Pairs, no_pairs, pair, Trees, no_trees}
use Rattle.bson_shape.specs.Levels.{levels, deepest}
use Rattle.bson_shape.specs.Makers.{has_name, field_names, repeats, IsStruct, IsShape, AreShapes}
use Rattle.bson_shape.proofs.TextStates.{text-nil}
use Rattle.bson_laws.proofs.Fitted.{unlike_swap}
use Rattle.bson_laws.specs.Named.{form_of, has}
use Rattle.bson_infer_laws.specs.Join.{nothing, is_nothing, is_unit, opt, within, join_unlike, join_at, new_fields, join, join_fields}
use Rattle.bson_infer_laws.specs.Above.{bare, IsBare, IsNothing, IsJoined, AreJoined}
use Rattle.bson_infer_laws.specs.Inferred.{shape_of, pair_shapes, joined_shapes, inferred, AllTrees}
use Rattle.bson_infer_laws.proofs.Above.{by_first}
use Rattle.bson_infer_laws.proofs.Shapes.{list_joined}
use Rattle.bson_kinds.proofs.Apart.{no_some}

-- one step less, where there is one
abbrev Under : ℕ → (ℕ → Type 0) → Type 0
Under zero P = ⊥
Under (suc d) P = P d

abbrev mutual
  -- so many sequences and structs are inside one another, and the names are texts
  Low : Form → ℕ → Type 0
  Low (optional s) d = Low s d
  Low (leaf l) d = Unit {0}
  Low (sequence s) d = Under d (λ e. Low s e)
  Low (structure dropped n fs) d = Under d (λ e. AllLow fs e)
  Low s d = IsNothing s

  AllLow : Fields → ℕ → Type 0
  AllLow no_fields d = Unit {0}
  AllLow (field n s fs) d = (is_utf8 n ≡ true) × Low s d × AllLow fs d

under_both : (d : ℕ) (P Q S : ℕ → Type 0) → ((e : ℕ) → P e → Q e → S e) → Under d P → Under d Q → Under d S
under_both zero P Q S f p q = p
under_both (suc d) P Q S f p q = f d p q

cond_low : (c : Bool) (x y : Form) (d : ℕ) → Low x d → Low y d → Low (cond c x y) d
cond_low true x y d p q = p
cond_low false x y d p q = q

opt_low : (s : Form) (d : ℕ) → Low s d → Low (opt s) d
opt_low (optional s) d p = p
opt_low s d p = p

unlike_low : (a b : Form) (d : ℕ) → Low a d → Low b d → Low (join_unlike a b) d
unlike_low a b d p q =
    cond_low (is_nothing a) b _ d q (cond_low (is_nothing b) a _ d p (cond_low (is_unit a) (optional b) _ d q (cond_low (is_unit b) (optional a) (leaf Bson) d p tt)))

low_at : (gs : Fields) (n : Utf8) (y : Form) (d : ℕ) → AllLow gs d → form_of gs n ≡ Some y → Low y d
low_at no_fields n y d p e = absurd (no_some e)
low_at (field m x gs) n y d p e = by_first (bytes_eq m n) x y (form_of gs n) e (λ is same. subst (λ s. Low s d) same p.1) (λ e'. low_at gs n y d p.2 e')

field_low : (x : Form) (o : Option Form) (d : ℕ) → Low x d → ((y : Form) → o ≡ Some y → Low (join x y) d) → Low (join_at (join x) x o) d
field_low x None d p t = opt_low x d p
field_low x (Some y) d p t = t y refl

both_low : (ks bs : Fields) (d : ℕ) → AllLow ks d → AllLow bs d → AllLow (joined ks bs) d
both_low no_fields bs d p q = q
both_low (field n x ks) bs d p q = (p.0, p.1, both_low ks bs d p.2 q)

new_by : (c : Bool) (n : Utf8) (w : Form) (rest : Fields) (d : ℕ) → is_utf8 n ≡ true → Low w d → AllLow rest d → AllLow (cond c rest (field n w rest)) d
new_by true n w rest d u p q = q
new_by false n w rest d u p q = (u, p, q)

new_low : (fs ks : Fields) (d : ℕ) → AllLow ks d → AllLow (new_fields fs ks) d
new_low fs no_fields d p = tt
new_low fs (field n y ks) d p = new_by (has fs n) n (opt y) (new_fields fs ks) d p.0 (opt_low y d p.1) (new_low fs ks d p.2)

mutual
  join_low : (a b : Form) (d : ℕ) → Low a d → Low b d → Low (join a b) d
  join_low (optional x) (optional y) d p q = opt_low (join x y) d (join_low x y d p q)
  join_low (optional x) b d p q = cond_low (is_nothing b || is_unit b) (optional x) (opt (join x b)) d p (opt_low (join x b) d (join_low x b d p q))
  join_low a (optional y) d p q = cond_low (is_nothing a || is_unit a) (optional y) (opt (join a y)) d q (opt_low (join a y) d (join_low a y d p q))
  join_low (leaf l) (leaf m) d p q =
      cond_low (within m l) (leaf l) (cond (within l m) (leaf m) (join_unlike (leaf l) (leaf m))) d tt
      (cond_low (within l m) (leaf m) (join_unlike (leaf l) (leaf m)) d tt (unlike_low (leaf l) (leaf m) d tt tt))
  join_low (sequence x) (sequence y) d p q = under_both d (λ e. Low x e) (λ e. Low y e) (λ e. Low (join x y) e) (λ e g h. join_low x y e g h) p q
  join_low (structure dropped n fs) (structure dropped m gs) d p q =
      under_both d (λ e. AllLow fs e) (λ e. AllLow gs e) (λ e. AllLow (joined (join_fields fs gs) (new_fields fs gs)) e) (λ e g h. both_low (join_fields fs gs) (new_fields fs gs) e (fields_low fs gs e g h) (new_low fs gs e h)) p q
  join_low a b d p q = unlike_low a b d p q

  fields_low : (ks gs : Fields) (d : ℕ) → AllLow ks d → AllLow gs d → AllLow (join_fields ks gs) d
  fields_low no_fields gs d p q = tt
  fields_low (field n x ks) gs d p q = (p.0, field_low x (form_of gs n) d p.1 (λ y e. join_low x y d p.1 (low_at gs n y d q e)), fields_low ks gs d p.2 q)

max_left : (a b n : ℕ) → max a b ≤ n → a ≤ n
max_left a b n h = omega (arith, h)

max_right : (a b n : ℕ) → max a b ≤ n → b ≤ n
max_right a b n h = omega (arith, h)

max_both : (a b n : ℕ) → a ≤ n → b ≤ n → max a b ≤ n
max_both a b n h k = omega (arith, h, k)

mutual
  shape_low : (t : Tree) (d : ℕ) → IsClean t → depth t ≤ d → Low (shape_of t) d
  shape_low (tree.document ps) zero c l = absurd (omega (arith, l))
  shape_low (tree.document ps) (suc d) c l = pairs_low ps d c (omega (arith, l))
  shape_low (tree.array ts) zero c l = absurd (omega (arith, l))
  shape_low (tree.array ts) (suc d) c l = list_low nothing ts d refl c (omega (arith, l))
  shape_low (tree.binary zero b) d c l = tt
  shape_low (tree.binary (suc n) b) d c l = tt
  shape_low t d c l = tt

  pairs_low : (ps : Pairs) (d : ℕ) → ArePairsClean ps → pairs_depth ps ≤ d → AllLow (pair_shapes ps) d
  pairs_low no_pairs d c l = tt
  pairs_low (pair key t ps) d c l = (c.0.text, shape_low t d c.2 (max_left (depth t) (pairs_depth ps) d l), pairs_low ps d c.3 (max_right (depth t) (pairs_depth ps) d l))

  list_low : (s : Form) (ts : Trees) (d : ℕ) → Low s d → AreTreesClean ts → trees_depth ts ≤ d → Low (joined_shapes s ts) d
  list_low s no_trees d p c l = p
  list_low s (tree.tree t ts) d p c l =
      list_low (join s (shape_of t)) ts d (join_low s (shape_of t) d p (shape_low t d c.0 (max_left (depth t) (trees_depth ts) d l))) c.1 (max_right (depth t) (trees_depth ts) d l)

-- ---- levels

one_more : (s : Form) → levels s ≤ suc (levels (bare s))
one_more (optional s) = omega arith
one_more s = omega arith

bare_is : (x : Form) → IsBare x → bare x ≡ x
bare_is (optional x) h = absurd h
bare_is x h = refl

mutual
  low_levels : (s : Form) (d : ℕ) → IsJoined s → Low s d → levels (bare s) ≤ suc (d + d)
  low_levels (optional x) d p h = subst (λ y. levels y ≤ suc (d + d)) (bare_is x p.0) (low_levels x d p.2 h)
  low_levels (leaf l) d p h = omega arith
  low_levels (sequence s) zero p h = absurd h
  low_levels (sequence s) (suc d) p h = omega (arith, one_more s, low_levels s d p h)
  low_levels (structure dropped n fs) zero p h = absurd h
  low_levels (structure dropped n fs) (suc d) p h = omega (arith, low_deepest fs d p.1 h)
  low_levels (enumeration no_variants) d p h = omega arith
  low_levels s d p h = absurd cc

  low_deepest : (fs : Fields) (d : ℕ) → AreJoined fs → AllLow fs d → deepest fs ≤ suc (suc (d + d))
  low_deepest no_fields d p h = omega arith
  low_deepest (field n s fs) d p h = max_both (levels s) (deepest fs) (suc (suc (d + d))) (omega (arith, one_more s, low_levels s d p.2 h.1)) (low_deepest fs d p.3 h.2)

-- ---- the makers

no_name : (fs : Fields) (n : Utf8) → has fs n ≡ false → has_name n (field_names fs) ≡ false
no_name no_fields n e = refl
no_name (field m x fs) n e = by (bytes_eq m n) refl e (no_name fs n)
  where
    by : (b : Bool) → bytes_eq m n ≡ b → (b || has fs n) ≡ false → (has fs n ≡ false → has_name n (field_names fs) ≡ false) → (bytes_eq n m || has_name n (field_names fs)) ≡ false
    by true is e f = absurd cc
    by false is e f = ap (λ c. c || has_name n (field_names fs)) (unlike_swap m n is) ∙ f e

no_repeat : (fs : Fields) → AreJoined fs → repeats fs ≡ false
no_repeat no_fields p = refl
no_repeat (field n x fs) p = ap (λ c. c || repeats fs) (no_name fs n p.0) ∙ no_repeat fs p.3

mutual
  shape_ok : (s : Form) (d : ℕ) → IsJoined s → Low s d → d + d ≤ 510 → IsShape s
  shape_ok (optional x) d p h l = (omega (arith, l, subst (λ y. levels y ≤ suc (d + d)) (bare_is x p.0) (low_levels x d p.2 h)), shape_ok x d p.2 h l)
  shape_ok (leaf k) d p h l = tt
  shape_ok (sequence s) zero p h l = absurd h
  shape_ok (sequence s) (suc d) p h l = (omega (arith, l, one_more s, low_levels s d p h), shape_ok s d p h (omega (arith, l)))
  shape_ok (structure dropped n fs) zero p h l = absurd h
  shape_ok (structure dropped n fs) (suc d) p h l =
      (subst (λ m. IsStruct m fs) (sym p.0) (record { text = text-nil; free = refl; distinct = no_repeat fs p.1; few = omega (arith, l, low_deepest fs d p.1 h) }), fields_ok fs d p.1 h (omega (arith, l)))
  shape_ok (enumeration no_variants) d p h l = (record { distinct = refl; few = omega arith }, tt)
  shape_ok s d p h l = absurd cc

  fields_ok : (fs : Fields) (d : ℕ) → AreJoined fs → AllLow fs d → d + d ≤ 510 → AreShapes fs
  fields_ok no_fields d p h l = tt
  fields_ok (field n s fs) d p h l = (h.0, shape_ok s d p.2 h.1 l, fields_ok fs d p.3 h.2 l)

-- what is inferred of clean documents that nest no deeper than 200 is a shape of at most 401 levels
pub inferred_shape : (ts : Trees) → AreTreesClean ts → trees_depth ts ≤ 200 → IsShape (inferred ts)
inferred_shape ts c l = shape_ok (inferred ts) 200 (list_joined nothing ts refl c) (list_low nothing ts 200 refl c l) (omega arith)

-- ---- at most 401 levels

-- a struct, or nothing
abbrev IsRecord : Form → Type 0
IsRecord (structure dropped n fs) = Unit {0}
IsRecord s = IsNothing s

join_record : (a b : Form) → IsRecord a → IsRecord b → IsRecord (join a b)
join_record (structure dropped n fs) (structure dropped m gs) p q = tt
join_record (structure dropped n fs) (enumeration no_variants) p q = tt
join_record (structure dropped n fs) b p q = absurd cc
join_record (enumeration no_variants) (structure dropped m gs) p q = tt
join_record (enumeration no_variants) (enumeration no_variants) p q = refl
join_record (enumeration no_variants) b p q = absurd cc
join_record a b p q = absurd cc

record_of : (t : Tree) → IsDocument t → IsRecord (shape_of t)
record_of (tree.document ps) d = tt
record_of t d = absurd d

list_record : (s : Form) (ts : Trees) → IsRecord s → AllTrees IsDocument ts → IsRecord (joined_shapes s ts)
list_record s no_trees p q = p
list_record s (tree.tree t ts) p q = list_record (join s (shape_of t)) ts (join_record s (shape_of t) p (record_of t q.0)) q.1

record_bare : (s : Form) → IsRecord s → bare s ≡ s
record_bare (structure dropped n fs) p = refl
record_bare (enumeration no_variants) p = refl
record_bare s p = absurd cc

pub inferred_levels : (ts : Trees) → AllTrees IsDocument ts → AreTreesClean ts → trees_depth ts ≤ 200 → levels (inferred ts) ≤ 401
inferred_levels ts r c l =
    subst (λ s. levels s ≤ 401) (record_bare (inferred ts) (list_record nothing ts refl r)) (low_levels (inferred ts) 200 (list_joined nothing ts refl c) (list_low nothing ts 200 refl c l))
