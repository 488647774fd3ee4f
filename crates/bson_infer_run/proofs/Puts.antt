-- Fields that are there again, one after another: those that were there before are joined with those of their names, and the others follow.
use Rattle.std.proofs.Common.{◌≡◌, ◌+◌, Bool, true, false, cond, List, [], ◌∷◌, ◌++◌, Option, Some, None, refl, ap, sym, subst, ◌∙◌, append_assoc, append-nil}
use Rattle.std.specs.Prelude.{◌||◌}
use Rattle.std.specs.Str.{bytes_eq}
use Rattle.bson_kinds.specs.Text.{Utf8}
use Rattle.bson_laws.proofs.Fitted.{unlike_swap}
use Rattle.bson_infer_laws.specs.Join.{join}
use Rattle.bson_infer_laws.proofs.Above.{name_is}
use Rattle.bson_infer_run.specs.Counted.{Counted, put, puts}

-- a field has the name
abbrev pub knows : List Counted → Utf8 → Bool
knows [] n = false
knows (f ∷ fs) n = bytes_eq f.name n || knows fs n

-- the field of a name
abbrev pub find : List Counted → Utf8 → Option Counted
find [] n = None
find (f ∷ fs) n = cond (bytes_eq f.name n) (Some f) (find fs n)

abbrev pub Distinct : List Counted → Type 0
Distinct [] = Unit {0}
Distinct (f ∷ fs) = (knows fs f.name ≡ false) × Distinct fs

-- a field that was there again
abbrev pub both : Counted → Counted → Counted
both f g = record { name = f.name; count = f.count + g.count; form = join f.form g.form }

abbrev pub met : Counted → Option Counted → Counted
met f None = f
met f (Some g) = both f g

-- each field with that of its name in the second list
abbrev pub merged : List Counted → List Counted → List Counted
merged [] gs = []
merged (f ∷ fs) gs = met f (find gs f.name) ∷ merged fs gs

-- the fields of the second list that the first lacks
abbrev pub fresh : List Counted → List Counted → List Counted
fresh fs [] = []
fresh fs (g ∷ gs) = cond (knows fs g.name) (fresh fs gs) (g ∷ fresh fs gs)

pub neither : (b c : Bool) → (b || c) ≡ false → (b ≡ false) × (c ≡ false)
neither true c e = absurd cc
neither false c e = (refl, e)

or_second : (b c : Bool) → b ≡ false → (b || c) ≡ c
or_second true c e = absurd cc
or_second false c e = refl

or_false : (b : Bool) → (b || false) ≡ b
or_false true = refl
or_false false = refl

pub put_new : (g : Counted) (fs : List Counted) → knows fs g.name ≡ false → put g fs ≡ fs ++ g ∷ []
put_new g [] e = refl
put_new g (f ∷ fs) e =
    let d = neither (bytes_eq f.name g.name) (knows fs g.name) e in
    ap (λ b. cond b (both f g ∷ fs) (f ∷ put g fs)) (unlike_swap f.name g.name d.0) ∙ ap (λ hs. f ∷ hs) (put_new g fs d.1)

find_none : (gs : List Counted) (n : Utf8) → knows gs n ≡ false → find gs n ≡ None
find_none [] n e = refl
find_none (g ∷ gs) n e =
    let d = neither (bytes_eq g.name n) (knows gs n) e in
    ap (λ b. cond b (Some g) (find gs n)) d.0 ∙ find_none gs n d.1

merged_none : (fs : List Counted) → merged fs [] ≡ fs
merged_none [] = refl
merged_none (f ∷ fs) = ap (λ hs. f ∷ hs) (merged_none fs)

merged_past : (g : Counted) (fs gs : List Counted) → knows fs g.name ≡ false → merged fs (g ∷ gs) ≡ merged fs gs
merged_past g [] gs e = refl
merged_past g (f ∷ fs) gs e =
    let d = neither (bytes_eq f.name g.name) (knows fs g.name) e in
    λ i. met f (cond (unlike_swap f.name g.name d.0 i) (Some g) (find gs f.name)) ∷ merged_past g fs gs d.1 i

-- ---- a field whose name is known

-- the name is that of the first field, or not
by_name : {P : Type 0} (n m : Utf8) (b : Bool) → bytes_eq n m ≡ b → (bytes_eq n m ≡ true → n ≡ m → P) → (bytes_eq n m ≡ false → bytes_eq m n ≡ false → P) → P
by_name n m true e f g = f e (name_is n m e)
by_name n m false e f g = g e (unlike_swap n m e)

merged_put : (g : Counted) (fs gs : List Counted) → knows fs g.name ≡ true → Distinct fs → knows gs g.name ≡ false → merged (put g fs) gs ≡ merged fs (g ∷ gs)
merged_put g [] gs e h u = absurd cc
merged_put g (f ∷ fs) gs e h u =
    by_name g.name f.name (bytes_eq g.name f.name) refl
    (λ is same.
    ap (λ b. merged (cond b (both f g ∷ fs) (f ∷ put g fs)) gs) is
    ∙ (λ i. met (both f g) ((ap (find gs) (sym same) ∙ find_none gs g.name u) i) ∷ sym (merged_past g fs gs (ap (knows fs) same ∙ h.0)) i)
    ∙ ap (λ b. met f (cond b (Some g) (find gs f.name)) ∷ merged fs (g ∷ gs)) (sym is))
    (λ not other.
    ap (λ b. merged (cond b (both f g ∷ fs) (f ∷ put g fs)) gs) not
    ∙ ap (λ hs. met f (find gs f.name) ∷ hs) (merged_put g fs gs (sym (or_second (bytes_eq f.name g.name) (knows fs g.name) other) ∙ e) h.1 u)
    ∙ ap (λ b. met f (cond b (Some g) (find gs f.name)) ∷ merged fs (g ∷ gs)) (sym not))

knows_put : (g : Counted) (fs : List Counted) (m : Utf8) → knows fs g.name ≡ true → knows (put g fs) m ≡ knows fs m
knows_put g [] m e = absurd cc
knows_put g (f ∷ fs) m e =
    by_name g.name f.name (bytes_eq g.name f.name) refl
    (λ is same. ap (λ b. knows (cond b (both f g ∷ fs) (f ∷ put g fs)) m) is)
    (λ not other.
    ap (λ b. knows (cond b (both f g ∷ fs) (f ∷ put g fs)) m) not
    ∙ ap (λ b. bytes_eq f.name m || b) (knows_put g fs m (sym (or_second (bytes_eq f.name g.name) (knows fs g.name) other) ∙ e)))

distinct_put : (g : Counted) (fs : List Counted) → knows fs g.name ≡ true → Distinct fs → Distinct (put g fs)
distinct_put g [] e h = absurd cc
distinct_put g (f ∷ fs) e h =
    by_name g.name f.name (bytes_eq g.name f.name) refl
    (λ is same. subst' (sym (ap (λ b. cond b (both f g ∷ fs) (f ∷ put g fs)) is)) h)
    (λ not other.
    let k = sym (or_second (bytes_eq f.name g.name) (knows fs g.name) other) ∙ e in
    subst' (sym (ap (λ b. cond b (both f g ∷ fs) (f ∷ put g fs)) not)) (knows_put g fs f.name k ∙ h.0, distinct_put g fs k h.1))
  where
    subst' : {xs ys : List Counted} → xs ≡ ys → Distinct xs → Distinct ys
    subst' e h = subst Distinct e h

fresh_alike : (fs hs gs : List Counted) → ((m : Utf8) → knows fs m ≡ knows hs m) → fresh fs gs ≡ fresh hs gs
fresh_alike fs hs [] e = refl
fresh_alike fs hs (g ∷ gs) e = λ i. cond (e g.name i) (fresh_alike fs hs gs e i) (g ∷ fresh_alike fs hs gs e i)

-- ---- a new field

knows_push : (fs : List Counted) (g : Counted) (m : Utf8) → knows (fs ++ g ∷ []) m ≡ (knows fs m || bytes_eq g.name m)
knows_push [] g m = or_false (bytes_eq g.name m)
knows_push (f ∷ fs) g m = ap (λ b. bytes_eq f.name m || b) (knows_push fs g m) ∙ again (bytes_eq f.name m) (knows fs m) (bytes_eq g.name m)
  where
    again : (a b c : Bool) → (a || (b || c)) ≡ ((a || b) || c)
    again true b c = refl
    again false b c = refl

knows_past : (fs : List Counted) (g : Counted) (m : Utf8) → bytes_eq g.name m ≡ false → knows (fs ++ g ∷ []) m ≡ knows fs m
knows_past fs g m e = knows_push fs g m ∙ ap (λ b. knows fs m || b) e ∙ or_false (knows fs m)

merged_push : (fs : List Counted) (g : Counted) (gs : List Counted) → merged (fs ++ g ∷ []) gs ≡ merged fs gs ++ met g (find gs g.name) ∷ []
merged_push [] g gs = refl
merged_push (f ∷ fs) g gs = ap (λ hs. met f (find gs f.name) ∷ hs) (merged_push fs g gs)

fresh_push : (fs : List Counted) (g : Counted) (gs : List Counted) → knows gs g.name ≡ false → fresh (fs ++ g ∷ []) gs ≡ fresh fs gs
fresh_push fs g [] e = refl
fresh_push fs g (h ∷ gs) e =
    let d = neither (bytes_eq h.name g.name) (knows gs g.name) e in
    λ i. cond (knows_past fs g h.name (unlike_swap h.name g.name d.0) i) (fresh_push fs g gs d.1 i) (h ∷ fresh_push fs g gs d.1 i)

distinct_push : (fs : List Counted) (g : Counted) → Distinct fs → knows fs g.name ≡ false → Distinct (fs ++ g ∷ [])
distinct_push [] g h e = (refl, tt)
distinct_push (f ∷ fs) g h e =
    let d = neither (bytes_eq f.name g.name) (knows fs g.name) e in
    (knows_past fs g f.name (unlike_swap f.name g.name d.0) ∙ h.0, distinct_push fs g h.1 d.1)

-- ---- all

puts_by : (g : Counted) (fs gs : List Counted) (b : Bool) → knows fs g.name ≡ b → Distinct fs → knows gs g.name ≡ false
    → ((hs : List Counted) → Distinct hs → puts hs gs ≡ merged hs gs ++ fresh hs gs) → puts (put g fs) gs ≡ merged fs (g ∷ gs) ++ cond b (fresh fs gs) (g ∷ fresh fs gs)
puts_by g fs gs true e h u all =
    all (put g fs) (distinct_put g fs e h) ∙ (λ i. merged_put g fs gs e h u i ++ fresh_alike (put g fs) fs gs (λ m. knows_put g fs m e) i)
puts_by g fs gs false e h u all =
    ap (λ hs. puts hs gs) (put_new g fs e) ∙ all (fs ++ g ∷ []) (distinct_push fs g h e)
    ∙ (λ i. (merged_push fs g gs ∙ ap (λ o. merged fs gs ++ met g o ∷ []) (find_none gs g.name u)) i ++ fresh_push fs g gs u i)
    ∙ append_assoc (merged fs gs) (g ∷ []) (fresh fs gs)
    ∙ ap (λ hs. hs ++ g ∷ fresh fs gs) (sym (merged_past g fs gs e))

pub puts_is : (fs gs : List Counted) → Distinct fs → Distinct gs → puts fs gs ≡ merged fs gs ++ fresh fs gs
puts_is fs [] h k = sym (append-nil (merged fs []) ∙ merged_none fs)
puts_is fs (g ∷ gs) h k = puts_by g fs gs (knows fs g.name) refl h k.0 (λ hs d. puts_is hs gs d k.1)

-- nothing was there before
pub puts_first : (gs : List Counted) → Distinct gs → puts [] gs ≡ gs
puts_first gs k = puts_is [] gs tt k ∙ all_fresh gs
  where
    all_fresh : (gs : List Counted) → fresh [] gs ≡ gs
    all_fresh [] = refl
    all_fresh (g ∷ gs) = ap (λ hs. g ∷ hs) (all_fresh gs)
