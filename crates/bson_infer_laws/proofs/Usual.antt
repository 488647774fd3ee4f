-- The forms that are inferred of documents: their leaves are among those of kinds, their structs have no name, and no name of a field holds a zero.
use Rattle.std.proofs.Common.{◌≡◌, [], zero, suc, Bool, true, false, cond, Option, Some, None, refl, subst}
use Rattle.std.specs.Prelude.{◌||◌}
use Rattle.std.specs.Str.{bytes_eq}
use Rattle.bson_kinds.specs.Text.{Utf8, has_zero}
use Rattle.bson_base.specs.Sound.{IsClean, ArePairsClean, AreTreesClean, IsDocument}
use Rattle.bson_base.specs.Tree as tree
use Rattle.bson_base.specs.Tree.{Tree, Pairs, no_pairs, pair, Trees, no_trees}
use Rattle.bson_shape.specs.Form.{dropped, Form, leaf, optional, sequence, structure, enumeration, Fields, no_fields, field, no_variants, joined}
use Rattle.bson_shape.specs.declared.leaf.Leaf.{Leaf}
use Rattle.bson_shape.specs.declared.leaf.Leaf.TheVariants.{Bool as BoolLeaf, I32, I64, Double, String, ByteBuf, Binary, Unit as UnitLeaf, ObjectId, DateTime, Timestamp, Regex, CodeWithScope, Decimal128, DbPointer, Bson}
use Rattle.bson_laws.specs.Named.{form_of, has}
use Rattle.bson_infer_laws.specs.Join.{nothing, is_nothing, is_unit, opt, within, join_unlike, join_at, new_fields, join, join_fields}
use Rattle.bson_infer_laws.specs.Inferred.{shape_of, pair_shapes, joined_shapes, inferred, AllTrees}
use Rattle.bson_infer_laws.proofs.Above.{by_first}
use Rattle.bson_kinds.proofs.Apart.{no_some}

abbrev pub IsUsualLeaf : Leaf → Type 0
IsUsualLeaf BoolLeaf = Unit {0}
IsUsualLeaf I32 = Unit {0}
IsUsualLeaf I64 = Unit {0}
IsUsualLeaf Double = Unit {0}
IsUsualLeaf String = Unit {0}
IsUsualLeaf ByteBuf = Unit {0}
IsUsualLeaf Binary = Unit {0}
IsUsualLeaf UnitLeaf = Unit {0}
IsUsualLeaf ObjectId = Unit {0}
IsUsualLeaf DateTime = Unit {0}
IsUsualLeaf Timestamp = Unit {0}
IsUsualLeaf Regex = Unit {0}
IsUsualLeaf CodeWithScope = Unit {0}
IsUsualLeaf Decimal128 = Unit {0}
IsUsualLeaf DbPointer = Unit {0}
IsUsualLeaf Bson = Unit {0}
IsUsualLeaf l = ⊥

abbrev mutual
  pub IsUsual : Form → Type 0
  IsUsual (leaf l) = IsUsualLeaf l
  IsUsual (optional s) = IsUsual s
  IsUsual (sequence s) = IsUsual s
  IsUsual (structure dropped name fs) = (name ≡ []) × AreUsual fs
  IsUsual (enumeration no_variants) = Unit {0}
  IsUsual s = ⊥

  pub AreUsual : Fields → Type 0
  AreUsual no_fields = Unit {0}
  AreUsual (field name s fs) = (has_zero name ≡ false) × IsUsual s × AreUsual fs

-- ---- joins

cond_usual : (c : Bool) (x y : Form) → IsUsual x → IsUsual y → IsUsual (cond c x y)
cond_usual true x y p q = p
cond_usual false x y p q = q

opt_usual : (s : Form) → IsUsual s → IsUsual (opt s)
opt_usual (optional s) p = p
opt_usual s p = p

unlike_usual : (a b : Form) → IsUsual a → IsUsual b → IsUsual (join_unlike a b)
unlike_usual a b p q =
    cond_usual (is_nothing a) b _ q
    (cond_usual (is_nothing b) a _ p (cond_usual (is_unit a) (optional b) _ q (cond_usual (is_unit b) (optional a) (leaf Bson) p tt)))

usual_at : (gs : Fields) (n : Utf8) (y : Form) → AreUsual gs → form_of gs n ≡ Some y → IsUsual y
usual_at no_fields n y p e = absurd (no_some e)
usual_at (field m x gs) n y p e = by_first (bytes_eq m n) x y (form_of gs n) e (λ is same. same_form x y same p.1) (λ e'. usual_at gs n y p.2 e')
  where
    same_form : (x y : Form) → x ≡ y → IsUsual x → IsUsual y
    same_form x y e p = subst IsUsual e p

field_usual : (x : Form) (o : Option Form) → IsUsual x → ((y : Form) → o ≡ Some y → IsUsual (join x y)) → IsUsual (join_at (join x) x o)
field_usual x None p t = opt_usual x p
field_usual x (Some y) p t = t y refl

both_usual : (ks bs : Fields) → AreUsual ks → AreUsual bs → AreUsual (joined ks bs)
both_usual no_fields bs p q = q
both_usual (field n x ks) bs p q = (p.0, p.1, both_usual ks bs p.2 q)

new_by : (c : Bool) (n : Utf8) (w : Form) (rest : Fields) → has_zero n ≡ false → IsUsual w → AreUsual rest → AreUsual (cond c rest (field n w rest))
new_by true n w rest f p q = q
new_by false n w rest f p q = (f, p, q)

new_usual : (fs ks : Fields) → AreUsual ks → AreUsual (new_fields fs ks)
new_usual fs no_fields p = tt
new_usual fs (field n y ks) p = new_by (has fs n) n (opt y) (new_fields fs ks) p.0 (opt_usual y p.1) (new_usual fs ks p.2)

mutual
  join_usual : (a b : Form) → IsUsual a → IsUsual b → IsUsual (join a b)
  join_usual (optional x) (optional y) p q = opt_usual (join x y) (join_usual x y p q)
  join_usual (optional x) b p q = cond_usual (is_nothing b || is_unit b) (optional x) (opt (join x b)) p (opt_usual (join x b) (join_usual x b p q))
  join_usual a (optional y) p q = cond_usual (is_nothing a || is_unit a) (optional y) (opt (join a y)) q (opt_usual (join a y) (join_usual a y p q))
  join_usual (leaf l) (leaf m) p q =
      cond_usual (within m l) (leaf l) (cond (within l m) (leaf m) (join_unlike (leaf l) (leaf m))) p
      (cond_usual (within l m) (leaf m) (join_unlike (leaf l) (leaf m)) q (unlike_usual (leaf l) (leaf m) p q))
  join_usual (sequence x) (sequence y) p q = join_usual x y p q
  join_usual (structure dropped n fs) (structure dropped m gs) p q = (refl, both_usual (join_fields fs gs) (new_fields fs gs) (fields_usual fs gs p.1 q.1) (new_usual fs gs q.1))
  join_usual a b p q = unlike_usual a b p q

  fields_usual : (ks gs : Fields) → AreUsual ks → AreUsual gs → AreUsual (join_fields ks gs)
  fields_usual no_fields gs p q = tt
  fields_usual (field n x ks) gs p q = (p.0, field_usual x (form_of gs n) p.1 (λ y e. join_usual x y p.1 (usual_at gs n y q e)), fields_usual ks gs p.2 q)

mutual
  shape_usual : (t : Tree) → IsClean t → IsUsual (shape_of t)
  shape_usual (tree.document ps) c = (refl, pairs_usual ps c)
  shape_usual (tree.array ts) c = list_usual nothing ts tt c
  shape_usual (tree.binary zero b) c = tt
  shape_usual (tree.binary (suc n) b) c = tt
  shape_usual t c = tt

  pairs_usual : (ps : Pairs) → ArePairsClean ps → AreUsual (pair_shapes ps)
  pairs_usual no_pairs c = tt
  pairs_usual (pair key t ps) c = (c.0.free.no_zero, shape_usual t c.2, pairs_usual ps c.3)

  list_usual : (s : Form) (ts : Trees) → IsUsual s → AreTreesClean ts → IsUsual (joined_shapes s ts)
  list_usual s no_trees p c = p
  list_usual s (tree.tree t ts) p c = list_usual (join s (shape_of t)) ts (join_usual s (shape_of t) p (shape_usual t c.0)) c.1

pub inferred_usual : (ts : Trees) → AreTreesClean ts → IsUsual (inferred ts)
inferred_usual ts c = list_usual nothing ts tt c

-- ---- of documents

-- a struct, or nothing
abbrev pub IsOfDocuments : Form → Type 0
IsOfDocuments (structure dropped name fs) = Unit {0}
IsOfDocuments (enumeration no_variants) = Unit {0}
IsOfDocuments s = ⊥

join_of : (a : Form) (fs : Fields) → IsOfDocuments a → IsOfDocuments (join a (structure dropped [] fs))
join_of (structure dropped name gs) fs p = tt
join_of (enumeration no_variants) fs p = tt
join_of a fs p = absurd p

list_of : (s : Form) (ts : Trees) → IsOfDocuments s → AllTrees IsDocument ts → IsOfDocuments (joined_shapes s ts)
list_of s no_trees p d = p
list_of s (tree.tree (tree.document ps) ts) p d = list_of (join s (structure dropped [] (pair_shapes ps))) ts (join_of s (pair_shapes ps) p) d.1
list_of s (tree.tree t ts) p d = absurd d.0

pub inferred_of : (ts : Trees) → AllTrees IsDocument ts → IsOfDocuments (inferred ts)
inferred_of ts d = list_of nothing ts tt d
