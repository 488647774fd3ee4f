-- The join of two structs, of two options, and of what is none.
use Rattle.std.proofs.Common.{◌≡◌, ℕ, zero, suc, ◌+◌, ◌<◌, Bool, true, false, cond, List, [], ◌∷◌, length, get_or, inl, inr, refl, ap, sym, subst, ◌∙◌, arith}
use Rattle.std.specs.Prelude.{◌||◌, ◌⊎◌, slice_set, nat_lt}
use Rattle.bson_base.specs.Sound.{ArePairsClean}
use Rattle.bson_kinds.specs.Text.{Utf8}
use Rattle.bson_base.specs.Tree.{Pairs, document}
use Rattle.bson_shape.specs.Form.{dropped, Form, optional, structure}
use Rattle.bson_shape.specs.ShapeView.{nodes, fields_nodes}
use Rattle.bson_infer_laws.specs.Above.{IsBare, IsJoined, AreJoined}
use Rattle.bson_infer_laws.specs.Inferred.{shape_of}
use Rattle.bson_infer_laws.specs.Join.{is_nothing, is_unit, opt, join}
use Rattle.bson_infer_laws.proofs.Shapes.{pairs_joined}
use Rattle.bson_infer_laws.proofs.Proper.{solid_left, solid_right, join_joined}
use Rattle.bson_infer_run.specs.Counted.{Counted, puts, counted_pairs, settled, AreCounted}
use Rattle.bson_infer_run.specs.Prover.SummaryFalls.{opt_if_nodes}
use Rattle.bson_infer_run.specs.SummaryView.{counted, counted_of, struct_form, kind_form, summary_form, IsEven, IsKnown, IsSummary}
use Rattle.bson_infer_run.specs.declared.summary.FieldSummary.{FieldSummary}
use Rattle.bson_infer_run.specs.declared.summary.Kind.{Kind}
use Rattle.bson_infer_run.specs.declared.summary.StructSummary.{StructSummary}
use Rattle.bson_infer_run.proofs.Settled.{fields_solid, fields_distinct, settled_puts, puts_counted, pairs_settled, pairs_counted}
use Rattle.bson_infer_run.proofs.Puts.{puts_first}
use Rattle.bson_infer_run.proofs.Summaries.{kind_bare}

-- ---- structs

-- a struct that grew by so many with these fields
pub grown_form : (s u : StructSummary) (m : ℕ) (gs : List Counted) → IsKnown s → 0 < m → AreCounted m gs → AreJoined (settled m gs) → u.count ≡ s.count + m → counted_of u ≡ puts (counted_of s) gs
    → struct_form u ≡ join (struct_form s) (structure dropped [] (settled m gs))
grown_form s u m gs h some k v n e =
    (λ i. structure dropped [] (settled (n i) (e i))) ∙ settled_puts s.count m (counted_of s) gs h.0.some some h.0.counted k h.1.1 v

pub grown_known : (s u : StructSummary) (m : ℕ) (gs : List Counted) → IsKnown s → 0 < m → AreCounted m gs → AreJoined (settled m gs) → IsEven u → u.count ≡ s.count + m → counted_of u ≡ puts (counted_of s) gs
    → IsKnown u
grown_known s u m gs h some k v even n e = (
  record {
    even = even;
    some = omega (arith, n, some);
    counted =
        subst (λ i. AreCounted i (counted_of u)) (sym n)
        (subst (AreCounted (s.count + m)) (sym e)
        (puts_counted s.count m (counted_of s) gs h.0.counted k (fields_distinct s.count (counted_of s) h.1.1) (fields_distinct m gs v) (fields_solid m gs v)));
  },
  subst IsJoined (sym (grown_form s u m gs h some k v n e)) (join_joined (struct_form s) (structure dropped [] (settled m gs)) h.1 (refl, v)),
)

pub joined_struct : (s t u : StructSummary) → IsKnown s → IsKnown t → u.count ≡ s.count + t.count → counted_of u ≡ puts (counted_of s) (counted_of t) → struct_form u ≡ join (struct_form s) (struct_form t)
joined_struct s t u h k n e = grown_form s u t.count (counted_of t) h k.0.some k.0.counted k.1.1 n e

pub joined_known : (s t u : StructSummary) → IsKnown s → IsKnown t → IsEven u → u.count ≡ s.count + t.count → counted_of u ≡ puts (counted_of s) (counted_of t) → IsKnown u
joined_known s t u h k even n e = grown_known s u t.count (counted_of t) h k.0.some k.0.counted k.1.1 even n e

-- ---- a document

pairs_are : (ps : Pairs) → ArePairsClean ps → AreJoined (settled 1 (counted_pairs ps))
pairs_are ps c = subst AreJoined (sym (pairs_settled ps)) (pairs_joined ps c)

pub document_form : (s u : StructSummary) (ps : Pairs) → IsKnown s → ArePairsClean ps → u.count ≡ s.count + 1 → counted_of u ≡ puts (counted_of s) (counted_pairs ps)
    → struct_form u ≡ join (struct_form s) (shape_of (document ps))
document_form s u ps h c n e =
    grown_form s u 1 (counted_pairs ps) h (omega arith) (pairs_counted ps) (pairs_are ps c) n e ∙ ap (λ fs. join (struct_form s) (structure dropped [] fs)) (pairs_settled ps)

pub document_known : (s u : StructSummary) (ps : Pairs) → IsKnown s → ArePairsClean ps → IsEven u → u.count ≡ s.count + 1 → counted_of u ≡ puts (counted_of s) (counted_pairs ps) → IsKnown u
document_known s u ps h c even n e = grown_known s u 1 (counted_pairs ps) h (omega arith) (pairs_counted ps) (pairs_are ps c) even n e

-- the first document
pub first_form : (u : StructSummary) (ps : Pairs) → ArePairsClean ps → u.count ≡ 1 → counted_of u ≡ puts [] (counted_pairs ps) → struct_form u ≡ shape_of (document ps)
first_form u ps c n e =
    (λ i. structure dropped [] (settled (n i) ((e ∙ puts_first (counted_pairs ps) (fields_distinct 1 (counted_pairs ps) (pairs_are ps c))) i))) ∙ ap (structure dropped []) (pairs_settled ps)

pub first_known : (u : StructSummary) (ps : Pairs) → ArePairsClean ps → IsEven u → u.count ≡ 1 → counted_of u ≡ puts [] (counted_pairs ps) → IsKnown u
first_known u ps c even n e = (
  record {
    even = even;
    some = omega (arith, n);
    counted =
        subst (λ i. AreCounted i (counted_of u)) (sym n)
        (subst (AreCounted 1) (sym (e ∙ puts_first (counted_pairs ps) (fields_distinct 1 (counted_pairs ps) (pairs_are ps c)))) (pairs_counted ps));
  },
  subst IsJoined (sym (first_form u ps c n e)) (refl, pairs_joined ps c),
)

-- a field of a struct has fewer nodes
pub field_falls : (n : ℕ) (ks : List Utf8) (fs : List FieldSummary) (i : ℕ) (f : FieldSummary) → length ks ≡ length fs → i < length fs → f ≡ get_or fs i f
    → nodes f.summary < fields_nodes (settled n (counted ks fs))
field_falls n [] fs i f e lt is = absurd (omega (arith, e, lt))
field_falls n (k ∷ ks) [] i f e lt is = absurd (omega (arith, lt))
field_falls n (k ∷ ks) (g ∷ fs) zero f e lt is =
    subst (λ (x : FieldSummary). nodes x.summary < fields_nodes (settled n (counted (k ∷ ks) (g ∷ fs)))) (sym is) (omega (arith, opt_if_nodes (nat_lt g.count n) g.summary))
field_falls n (k ∷ ks) (g ∷ fs) (suc i) f e lt is = omega (arith, field_falls n ks fs i f (omega (arith, e)) (omega (arith, lt)) is)

pub set_twice : (fs : List FieldSummary) (i : ℕ) (f g : FieldSummary) → slice_set (slice_set fs i f) i g ≡ slice_set fs i g
set_twice [] zero f g = refl
set_twice [] (suc i) f g = refl
set_twice (h ∷ fs) zero f g = refl
set_twice (h ∷ fs) (suc i) f g = ap (λ xs. h ∷ xs) (set_twice fs i f g)

-- ---- options

pub clash : {P : Type 0} (b : Bool) → b ≡ true → b ≡ false → P
clash b e f = absurd (let both : true ≡ false = sym e ∙ f in cc)

pub one_null : (n m : Bool) → (n ≡ true) ⊎ ((n ≡ false) × (m ≡ true)) → (n || m) ≡ true
one_null true m e = refl
one_null false m (inl e) = absurd cc
one_null false m (inr e) = e.1

pub solid_join : (n m : Bool) (k j : Kind) → IsSummary n k → IsSummary m j → (n || m) ≡ true → is_nothing (join (kind_form k) (kind_form j)) ≡ false
solid_join true m k j h l e = solid_left (kind_form k) (kind_form j) h.1.1
solid_join false true k j h l e = solid_right (kind_form k) (kind_form j) l.1.1
solid_join false false k j h l e = absurd cc

option_first : (x b : Form) → IsBare b → (is_nothing b || is_unit b) ≡ false → join (optional x) b ≡ opt (join x b)
option_first x (optional z) h e = absurd h
option_first x b h e = ap (λ c. cond c (optional x) (opt (join x b))) e

option_second : (a y : Form) → IsBare a → (is_nothing a || is_unit a) ≡ false → join a (optional y) ≡ opt (join a y)
option_second (optional z) y h e = absurd h
option_second a y h e = ap (λ c. cond c (optional y) (opt (join a y))) e

pub join_null : (n m : Bool) (k j : Kind) → (n || m) ≡ true → (n ≡ true → m ≡ false → (is_nothing (kind_form j) || is_unit (kind_form j)) ≡ false)
    → (m ≡ true → n ≡ false → (is_nothing (kind_form k) || is_unit (kind_form k)) ≡ false) → opt (join (kind_form k) (kind_form j)) ≡ join (summary_form n k) (summary_form m j)
join_null true true k j e f g = refl
join_null true false k j e f g = sym (option_first (kind_form k) (kind_form j) (kind_bare j) (f refl refl))
join_null false true k j e f g = sym (option_second (kind_form k) (kind_form j) (kind_bare k) (g refl refl))
join_null false false k j e f g = absurd cc
