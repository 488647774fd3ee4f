-- What is inferred of clean documents is plain.
use Rattle.std.proofs.Common.{◌≡◌, [], zero, suc, Bool, true, false, cond, Option, Some, None, refl, subst}
use Rattle.std.specs.Prelude.{◌||◌}
use Rattle.std.specs.Str.{bytes_eq}
use Rattle.bson_kinds.specs.Text.{Utf8, IsFreeName}
use Rattle.bson_base.specs.Sound.{IsClean, ArePairsClean, AreTreesClean}
use Rattle.bson_base.specs.Tree as tree
use Rattle.bson_base.specs.Tree.{Tree, Pairs, no_pairs, pair, Trees, no_trees}
use Rattle.bson_shape.specs.Form.{dropped, Form, leaf, optional, sequence, structure, Fields, no_fields, field, joined}
use Rattle.bson_shape.specs.declared.leaf.Leaf.TheVariants.{Bson}
use Rattle.bson_laws.specs.Plain.{IsPlain, AreFieldsPlain}
use Rattle.bson_laws.specs.Named.{form_of, has}
use Rattle.bson_infer_laws.specs.Join.{nothing, is_nothing, is_unit, opt, within, join_unlike, join_at, new_fields, join, join_fields}
use Rattle.bson_infer_laws.specs.Inferred.{shape_of, pair_shapes, joined_shapes, inferred}
use Rattle.bson_infer_laws.proofs.Above.{by_first}
use Rattle.bson_kinds.proofs.Apart.{no_some}

cond_plain : (c : Bool) (x y : Form) → IsPlain x → IsPlain y → IsPlain (cond c x y)
cond_plain true x y p q = p
cond_plain false x y p q = q

opt_plain : (s : Form) → IsPlain s → IsPlain (opt s)
opt_plain (optional s) p = p
opt_plain s p = p

unlike_plain : (a b : Form) → IsPlain a → IsPlain b → IsPlain (join_unlike a b)
unlike_plain a b p q =
    cond_plain (is_nothing a) b _ q
    (cond_plain (is_nothing b) a _ p (cond_plain (is_unit a) (optional b) _ q (cond_plain (is_unit b) (optional a) (leaf Bson) p tt)))

plain_at : (gs : Fields) (n : Utf8) (y : Form) → AreFieldsPlain gs → form_of gs n ≡ Some y → IsPlain y
plain_at no_fields n y p e = absurd (no_some e)
plain_at (field m x gs) n y p e = by_first (bytes_eq m n) x y (form_of gs n) e (λ is same. subst' x y same p.1) (λ e'. plain_at gs n y p.2 e')
  where
    subst' : (x y : Form) → x ≡ y → IsPlain x → IsPlain y
    subst' x y e p = subst IsPlain e p

field_plain : (x : Form) (o : Option Form) → IsPlain x → ((y : Form) → o ≡ Some y → IsPlain (join x y)) → IsPlain (join_at (join x) x o)
field_plain x None p t = opt_plain x p
field_plain x (Some y) p t = t y refl

both_plain : (ks bs : Fields) → AreFieldsPlain ks → AreFieldsPlain bs → AreFieldsPlain (joined ks bs)
both_plain no_fields bs p q = q
both_plain (field n x ks) bs p q = (p.0, p.1, both_plain ks bs p.2 q)

new_by : (c : Bool) (n : Utf8) (w : Form) (rest : Fields) → IsFreeName n → IsPlain w → AreFieldsPlain rest → AreFieldsPlain (cond c rest (field n w rest))
new_by true n w rest f p q = q
new_by false n w rest f p q = (f, p, q)

new_plain : (fs ks : Fields) → AreFieldsPlain ks → AreFieldsPlain (new_fields fs ks)
new_plain fs no_fields p = tt
new_plain fs (field n y ks) p = new_by (has fs n) n (opt y) (new_fields fs ks) p.0 (opt_plain y p.1) (new_plain fs ks p.2)

no_name : IsFreeName []
no_name = record { no_zero = refl; no_dollar = refl }

mutual
  join_plain : (a b : Form) → IsPlain a → IsPlain b → IsPlain (join a b)
  join_plain (optional x) (optional y) p q = opt_plain (join x y) (join_plain x y p q)
  join_plain (optional x) b p q = cond_plain (is_nothing b || is_unit b) (optional x) (opt (join x b)) p (opt_plain (join x b) (join_plain x b p q))
  join_plain a (optional y) p q = cond_plain (is_nothing a || is_unit a) (optional y) (opt (join a y)) q (opt_plain (join a y) (join_plain a y p q))
  join_plain (leaf l) (leaf m) p q =
      cond_plain (within m l) (leaf l) (cond (within l m) (leaf m) (join_unlike (leaf l) (leaf m))) p
      (cond_plain (within l m) (leaf m) (join_unlike (leaf l) (leaf m)) q (unlike_plain (leaf l) (leaf m) p q))
  join_plain (sequence x) (sequence y) p q = join_plain x y p q
  join_plain (structure dropped n fs) (structure dropped m gs) p q = (no_name, both_plain (join_fields fs gs) (new_fields fs gs) (fields_plain fs gs p.1 q.1) (new_plain fs gs q.1))
  join_plain a b p q = unlike_plain a b p q

  fields_plain : (ks gs : Fields) → AreFieldsPlain ks → AreFieldsPlain gs → AreFieldsPlain (join_fields ks gs)
  fields_plain no_fields gs p q = tt
  fields_plain (field n x ks) gs p q = (p.0, field_plain x (form_of gs n) p.1 (λ y e. join_plain x y p.1 (plain_at gs n y q e)), fields_plain ks gs p.2 q)

mutual
  shape_plain : (t : Tree) → IsClean t → IsPlain (shape_of t)
  shape_plain (tree.document ps) c = (no_name, pairs_plain ps c)
  shape_plain (tree.array ts) c = list_plain nothing ts tt c
  shape_plain (tree.binary zero b) c = tt
  shape_plain (tree.binary (suc n) b) c = tt
  shape_plain t c = tt

  pairs_plain : (ps : Pairs) → ArePairsClean ps → AreFieldsPlain (pair_shapes ps)
  pairs_plain no_pairs c = tt
  pairs_plain (pair key t ps) c = (c.0.free, shape_plain t c.2, pairs_plain ps c.3)

  list_plain : (s : Form) (ts : Trees) → IsPlain s → AreTreesClean ts → IsPlain (joined_shapes s ts)
  list_plain s no_trees p c = p
  list_plain s (tree.tree t ts) p c = list_plain (join s (shape_of t)) ts (join_plain s (shape_of t) p (shape_plain t c.0)) c.1

pub inferred_plain : (ts : Trees) → AreTreesClean ts → IsPlain (inferred ts)
inferred_plain ts c = list_plain nothing ts tt c
