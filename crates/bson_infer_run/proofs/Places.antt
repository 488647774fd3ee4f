-- The fields of a struct at the indexes of their names.
use Rattle.std.proofs.Common.{◌≡◌, ℕ, zero, suc, ◌+◌, ◌<◌, Bool, true, false, cond, List, [], ◌∷◌, ◌++◌, length, get_or, drop, Some, refl, ap, sym, subst, ◌∙◌, arith, length-append, add-one}
use Rattle.std.specs.Prelude.{◌||◌, slice_set}
use Rattle.std.specs.List.{list_any, AllByRecursion, IsDistinct}
use Rattle.std.specs.Str.{bytes_eq}
use Rattle.bson_kinds.specs.Text.{Utf8}
use Rattle.bson_shape.specs.Form.{Form, optional}
use Rattle.bson_laws.proofs.Fitted.{bytes_eq-refl, unlike_swap}
use Rattle.bson_infer_laws.specs.Join.{nothing, join}
use Rattle.bson_infer_run.specs.Counted.{Counted, put, puts}
use Rattle.bson_infer_run.specs.SummaryView.{counted_field, counted, IsAt}
use Rattle.bson_infer_run.specs.declared.summary.FieldSummary.{FieldSummary}
use Rattle.bson_infer_run.proofs.Puts.{knows, both, put_new}

-- ---- where a name is

all_at : (P : Utf8 → Type 0) (ks : List Utf8) (i : ℕ) (k : Utf8) → AllByRecursion P ks → i < length ks → k ≡ get_or ks i k → P k
all_at P [] i k h lt e = absurd (omega (arith, lt))
all_at P (x ∷ ks) zero k h lt e = subst P (sym e) h.0
all_at P (x ∷ ks) (suc i) k h lt e = all_at P ks i k h.1 (omega (arith, lt)) e

-- of different names one is at its only index
pub at_distinct : (name : Utf8) (ks : List Utf8) (i : ℕ) (k : Utf8) → IsDistinct bytes_eq ks → i < length ks → k ≡ get_or ks i k → k ≡ name → IsAt ks name i
unfolding IsDistinct
at_distinct name [] i k d lt e n = absurd (omega (arith, lt))
at_distinct name (x ∷ ks) zero k d lt e n = ap (bytes_eq name) (sym e ∙ n) ∙ bytes_eq-refl name
at_distinct name (x ∷ ks) (suc i) k d lt e n = (
  unlike_swap x name (ap (bytes_eq x) (sym n) ∙ all_at (λ y. bytes_eq x y ≡ false) ks i k d.0 (omega (arith, lt)) e),
  at_distinct name ks i k d.1 (omega (arith, lt)) e n,
)

neither : (b c : Bool) → (b || c) ≡ false → (b ≡ false) × (c ≡ false)
neither true c e = absurd cc
neither false c e = (refl, e)

pub at_end : (name : Utf8) (ks : List Utf8) → list_any (bytes_eq name) ks ≡ false → IsAt (ks ++ name ∷ []) name (length ks)
at_end name [] h = bytes_eq-refl name
at_end name (k ∷ ks) h = let n = neither (bytes_eq name k) (list_any (bytes_eq name) ks) h in (n.0, at_end name ks n.1)

pub at_less : (name : Utf8) (ks : List Utf8) (i : ℕ) → IsAt ks name i → i < length ks
at_less name [] i h = absurd h
at_less name (k ∷ ks) zero h = omega arith
at_less name (k ∷ ks) (suc i) h = omega (arith, at_less name ks i h.1)

-- ---- a new name

pub knows_none : (name : Utf8) (ks : List Utf8) (fs : List FieldSummary) → list_any (bytes_eq name) ks ≡ false → knows (counted ks fs) name ≡ false
knows_none name [] fs h = refl
knows_none name (k ∷ ks) [] h = refl
knows_none name (k ∷ ks) (f ∷ fs) h =
    let n = neither (bytes_eq name k) (list_any (bytes_eq name) ks) h in
    ap (λ b. b || knows (counted ks fs) name) (unlike_swap name k n.0) ∙ knows_none name ks fs n.1

pub counted_push : (ks : List Utf8) (fs : List FieldSummary) (new : Utf8) (f : FieldSummary) → length ks ≡ length fs → counted (ks ++ new ∷ []) (fs ++ f ∷ []) ≡ counted ks fs ++ counted_field new f ∷ []
counted_push [] [] new f e = refl
counted_push [] (g ∷ fs) new f e = absurd (omega (arith, e))
counted_push (k ∷ ks) [] new f e = absurd (omega (arith, e))
counted_push (k ∷ ks) (g ∷ fs) new f e = ap (λ hs. counted_field k g ∷ hs) (counted_push ks fs new f (omega (arith, e)))

join_nothing : (s : Form) → join nothing s ≡ s
join_nothing (optional s) = refl
join_nothing s = refl

put_past : (g : Counted) (fs hs : List Counted) → knows fs g.name ≡ false → put g (fs ++ hs) ≡ fs ++ put g hs
put_past g [] hs e = refl
put_past g (f ∷ fs) hs e =
    let n = neither (bytes_eq f.name g.name) (knows fs g.name) e in
    ap (λ b. cond b (both f g ∷ fs ++ hs) (f ∷ put g (fs ++ hs))) (unlike_swap f.name g.name n.0) ∙ ap (λ xs. f ∷ xs) (put_past g fs hs n.1)

put_there : (g c : Counted) → c.name ≡ g.name → c.count ≡ 0 → c.form ≡ nothing → put g (c ∷ []) ≡ g ∷ []
put_there g c e n s =
    ap (λ b. cond b (both c g ∷ []) (c ∷ g ∷ [])) (ap (bytes_eq g.name) e ∙ bytes_eq-refl g.name)
    ∙ (λ i. (let h : Counted = record { name = e i; count = none i; form = (ap (λ x. join x g.form) s ∙ join_nothing g.form) i } in h) ∷ [])
  where
    none : c.count + g.count ≡ g.count
    none = omega (arith, n)

-- a field that no document had makes no difference
pub put_opened : (g c : Counted) (fs : List Counted) → c.name ≡ g.name → c.count ≡ 0 → c.form ≡ nothing → knows fs g.name ≡ false → put g (fs ++ c ∷ []) ≡ put g fs
put_opened g c fs e n s h = put_past g fs (c ∷ []) h ∙ ap (λ xs. fs ++ xs) (put_there g c e n s) ∙ sym (put_new g fs h)

-- ---- a name that is there

pub put_at : (g : Counted) (ks : List Utf8) (fs : List FieldSummary) (i : ℕ) (old new : FieldSummary) → IsAt ks g.name i → i < length fs → old ≡ get_or fs i old
    → new.count ≡ old.count + g.count → new.summary ≡ join old.summary g.form → counted ks (slice_set fs i new) ≡ put g (counted ks fs)
put_at g [] fs i old new h lt is n s = absurd h
put_at g (k ∷ ks) [] i old new h lt is n s = absurd (omega (arith, lt))
put_at g (k ∷ ks) (f ∷ fs) zero old new h lt is n s =
    (λ i. (let c : Counted = record { name = k; count = (n ∙ ap (λ (x : FieldSummary). x.count + g.count) is) i; form = (s ∙ ap (λ (x : FieldSummary). join x.summary g.form) is) i } in c) ∷ counted ks fs)
    ∙ ap (λ b. cond b (both (counted_field k f) g ∷ counted ks fs) (counted_field k f ∷ put g (counted ks fs))) (sym h)
put_at g (k ∷ ks) (f ∷ fs) (suc i) old new h lt is n s =
    ap (λ xs. counted_field k f ∷ xs) (put_at g ks fs i old new h.1 (omega (arith, lt)) is n s)
    ∙ ap (λ b. cond b (both (counted_field k f) g ∷ counted ks fs) (counted_field k f ∷ put g (counted ks fs))) (sym h.0)

-- ---- what is left of a list

-- the field at an index is the first that is left from there on
pub drop_counted : (ks : List Utf8) (fs : List FieldSummary) (i : ℕ) (k : Utf8) (f : FieldSummary) → i < length ks → i < length fs → k ≡ get_or ks i k → f ≡ get_or fs i f
    → drop i (counted ks fs) ≡ counted_field k f ∷ drop (suc i) (counted ks fs)
drop_counted [] fs i k f h l e s = absurd (omega (arith, h))
drop_counted (j ∷ ks) [] i k f h l e s = absurd (omega (arith, l))
drop_counted (j ∷ ks) (g ∷ fs) zero k f h l e s = λ i. counted_field (sym e i) (sym s i) ∷ counted ks fs
drop_counted (j ∷ ks) (g ∷ fs) (suc i) k f h l e s = drop_counted ks fs i k f (omega (arith, h)) (omega (arith, l)) e s

pub drop_all : (ks : List Utf8) (fs : List FieldSummary) (i : ℕ) → length fs ≡ i → drop i (counted ks fs) ≡ []
drop_all [] fs i e = none i
  where
    none : (i : ℕ) → drop i (let xs : List Counted = [] in xs) ≡ []
    none zero = refl
    none (suc i) = refl
drop_all (k ∷ ks) [] i e = none i
  where
    none : (i : ℕ) → drop i (let xs : List Counted = [] in xs) ≡ []
    none zero = refl
    none (suc i) = refl
drop_all (k ∷ ks) (f ∷ fs) zero e = absurd (omega (arith, e))
drop_all (k ∷ ks) (f ∷ fs) (suc i) e = drop_all ks fs i (omega (arith, e))

-- ---- one more

pub even_push : (ks : List Utf8) (fs : List FieldSummary) (new : Utf8) (f : FieldSummary) → length ks ≡ length fs → length (ks ++ new ∷ []) ≡ length (fs ++ f ∷ [])
even_push ks fs new f e = omega (arith, e, length-append ks (new ∷ []), length-append fs (f ∷ []))

-- one more of the fields that are left
pub puts_next : (fs hs : List Counted) (ks : List Utf8) (gs : List FieldSummary) (i : ℕ) (k : Utf8) (g : FieldSummary) → length ks ≡ length gs → i < length gs → k ≡ get_or ks i k → g ≡ get_or gs i g
    → hs ≡ put (counted_field k g) fs → puts hs (drop (i + 1) (counted ks gs)) ≡ puts fs (drop i (counted ks gs))
puts_next fs hs ks gs i k g even lt e s is =
    (λ j. puts (is j) (drop (add-one i j) (counted ks gs))) ∙ ap (puts fs) (sym (drop_counted ks gs i k g (omega (arith, even, lt)) lt e s))
