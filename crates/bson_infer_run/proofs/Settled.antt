-- The fields of joined structs are the join of their fields.
use Rattle.std.proofs.Common.{◌≡◌, ℕ, ◌+◌, ◌<◌, ◌≤◌, Bool, true, false, cond, List, [], ◌∷◌, ◌++◌, Option, Some, None, refl, ap, sym, subst, ◌∙◌, arith}
use Rattle.std.specs.Prelude.{◌||◌, nat_lt}
use Rattle.std.specs.Option.{option_map}
use Rattle.std.specs.Str.{bytes_eq}
use Rattle.std.proofs.lemmas.Bool.{lt-ltb}
use Rattle.bson_kinds.specs.Text.{Utf8}
use Rattle.bson_base.specs.Tree.{Pairs, no_pairs, pair}
use Rattle.bson_shape.specs.Form.{dropped, Form, optional, structure, Fields, field, joined}
use Rattle.bson_infer_laws.specs.Above.{IsJoined, AreJoined}
use Rattle.bson_infer_laws.specs.Inferred.{shape_of, pair_shapes}
use Rattle.bson_infer_laws.specs.Join.{is_nothing, opt, join_at, new_fields, join, join_fields}
use Rattle.bson_laws.specs.Named.{form_of, has}
use Rattle.bson_infer_laws.proofs.Commutes.{opt_twice, opt_join, join_opt}
use Rattle.bson_infer_laws.proofs.Proper.{opt_joined, opt_solid}
use Rattle.bson_infer_run.specs.Counted.{Counted, puts, counted_pairs, opt_if, settled, AreCounted}
use Rattle.bson_infer_run.proofs.Puts.{knows, find, Distinct, met, merged, fresh, puts_is}

-- ---- what is known of the fields of a struct

-- a form that is joined, and not of nothing
abbrev pub IsSolid : Form → Type 0
IsSolid s = IsJoined s × (is_nothing s ≡ false)

opt_back : (s : Form) → IsJoined (opt s) → IsSolid s
opt_back (optional s) h = (h, refl)
opt_back s h = (h.2, h.1)

inner_solid : (b : Bool) (s : Form) → IsJoined (opt_if b s) → is_nothing (opt_if b s) ≡ false → IsSolid s
inner_solid true s h e = opt_back s h
inner_solid false s h e = (h, e)

opt_if_solid : (b : Bool) (s : Form) → IsSolid s → IsSolid (opt_if b s)
opt_if_solid true s h = (opt_joined s h.0 h.1, opt_solid s)
opt_if_solid false s h = h

abbrev pub AreSolid : List Counted → Type 0
AreSolid [] = Unit {0}
AreSolid (f ∷ fs) = IsSolid f.form × AreSolid fs

pub fields_solid : (n : ℕ) (fs : List Counted) → AreJoined (settled n fs) → AreSolid fs
fields_solid n [] h = tt
fields_solid n (f ∷ fs) h = (inner_solid (nat_lt f.count n) f.form h.2 h.1, fields_solid n fs h.3)

settled_has : (n : ℕ) (fs : List Counted) (m : Utf8) → has (settled n fs) m ≡ knows fs m
settled_has n [] m = refl
settled_has n (f ∷ fs) m = ap (λ b. bytes_eq f.name m || b) (settled_has n fs m)

pub fields_distinct : (n : ℕ) (fs : List Counted) → AreJoined (settled n fs) → Distinct fs
fields_distinct n [] h = tt
fields_distinct n (f ∷ fs) h = (sym (settled_has n fs f.name) ∙ h.0, fields_distinct n fs h.3)

-- as the form of a struct of so many has it
abbrev as_settled : ℕ → Counted → Form
as_settled n f = opt_if (nat_lt f.count n) f.form

settled_at : (n : ℕ) (fs : List Counted) (m : Utf8) → form_of (settled n fs) m ≡ option_map (as_settled n) (find fs m)
settled_at n [] m = refl
settled_at n (f ∷ fs) m = at (bytes_eq f.name m) (settled_at n fs m)
  where
    at : (b : Bool) → form_of (settled n fs) m ≡ option_map (as_settled n) (find fs m) → cond b (Some (as_settled n f)) (form_of (settled n fs) m) ≡ option_map (as_settled n) (cond b (Some f) (find fs m))
    at true e = refl
    at false e = e

-- ---- options

opt_opt_if : (b : Bool) (s : Form) → opt (opt_if b s) ≡ opt s
opt_opt_if true s = opt_twice s
opt_opt_if false s = refl

opt_both : (b c : Bool) (x y : Form) → IsSolid x → IsSolid y → join (opt_if b x) (opt_if c y) ≡ opt_if (b || c) (join x y)
opt_both true true x y p q =
    let r = opt_if_solid true y q in
    opt_join x (opt y) p.0 p.1 r.0 r.1 ∙ ap opt (join_opt x y p.0 p.1 q.0 q.1) ∙ opt_twice (join x y)
opt_both true false x y p q = opt_join x y p.0 p.1 q.0 q.1
opt_both false true x y p q = join_opt x y p.0 p.1 q.0 q.1
opt_both false false x y p q = refl

less_both : (a b n m : ℕ) → a ≤ n → b ≤ m → nat_lt (a + b) (n + m) ≡ (nat_lt a n || nat_lt b m)
less_both a b n m h k = grind (arith, h, k)

pub less_true : (a n : ℕ) → a < n → nat_lt a n ≡ true
less_true a n h = lt-ltb a n h

missed : (a n m : ℕ) (s : Form) → a < n + m → opt_if (nat_lt a (n + m)) s ≡ opt (opt_if (nat_lt a n) s)
missed a n m s h = ap (λ b. opt_if b s) (less_true a (n + m) h) ∙ sym (opt_opt_if (nat_lt a n) s)

-- ---- the fields of the first

abbrev IsFound : ℕ → Option Counted → Type 0
IsFound m None = Unit {0}
IsFound m (Some g) = (g.count ≤ m) × IsSolid g.form

find_first : (b : Bool) (m : ℕ) (g : Counted) (o : Option Counted) → (g.count ≤ m) × IsSolid g.form → IsFound m o → IsFound m (cond b (Some g) o)
find_first true m g o h k = h
find_first false m g o h k = k

find_known : (m : ℕ) (gs : List Counted) (n : Utf8) → AreCounted m gs → AreSolid gs → IsFound m (find gs n)
find_known m [] n h k = tt
find_known m (g ∷ gs) n h k = find_first (bytes_eq g.name n) m g (find gs n) (h.0, k.0) (find_known m gs n h.1 k.1)

met_settled : (n m : ℕ) (f : Counted) (o : Option Counted) (rest : Fields) → 0 < m → f.count ≤ n → IsSolid f.form → IsFound m o
    → field (met f o).name (as_settled (n + m) (met f o)) rest ≡ field f.name (join_at (join (as_settled n f)) (as_settled n f) (option_map (as_settled m) o)) rest
met_settled n m f None rest pos h p k = ap (λ s. field f.name s rest) (missed f.count n m f.form (omega (arith, pos, h)))
met_settled n m f (Some g) rest pos h p k =
    ap (λ s. field f.name s rest)
    (ap (λ b. opt_if b (join f.form g.form)) (less_both f.count g.count n m h k.0) ∙ sym (opt_both (nat_lt f.count n) (nat_lt g.count m) f.form g.form p k.1))

merged_settled : (n m : ℕ) (fs gs : List Counted) → 0 < m → AreCounted n fs → AreSolid fs → AreCounted m gs → AreSolid gs
    → settled (n + m) (merged fs gs) ≡ join_fields (settled n fs) (settled m gs)
merged_settled n m [] gs pos h p k q = refl
merged_settled n m (f ∷ fs) gs pos h p k q =
    met_settled n m f (find gs f.name) (settled (n + m) (merged fs gs)) pos h.0 p.0 (find_known m gs f.name k q)
    ∙ (λ i. field f.name (join_at (join (as_settled n f)) (as_settled n f) (sym (settled_at m gs f.name) i)) (merged_settled n m fs gs pos h.1 p.1 k q i))

-- ---- those of the second

fresh_settled : (n m : ℕ) (fs gs : List Counted) → 0 < n → AreCounted m gs → settled (n + m) (fresh fs gs) ≡ new_fields (settled n fs) (settled m gs)
fresh_settled n m fs [] pos k = refl
fresh_settled n m fs (g ∷ gs) pos k = at (knows fs g.name) (fresh_settled n m fs gs pos k.1) ∙ ap (λ b. cond b (new_fields (settled n fs) (settled m gs)) (field g.name (opt (as_settled m g)) (new_fields (settled n fs) (settled m gs)))) (sym (settled_has n fs g.name))
  where
    fewer : opt_if (nat_lt g.count (n + m)) g.form ≡ opt (as_settled m g)
    fewer = ap (λ b. opt_if b g.form) (less_true g.count (n + m) (omega (arith, pos, k.0))) ∙ sym (opt_opt_if (nat_lt g.count m) g.form)

    at : (b : Bool) → settled (n + m) (fresh fs gs) ≡ new_fields (settled n fs) (settled m gs) → settled (n + m) (cond b (fresh fs gs) (g ∷ fresh fs gs)) ≡ cond b (new_fields (settled n fs) (settled m gs)) (field g.name (opt (as_settled m g)) (new_fields (settled n fs) (settled m gs)))
    at true e = e
    at false e = λ i. field g.name (fewer i) (e i)

-- ---- all

settled_append : (n : ℕ) (fs gs : List Counted) → settled n (fs ++ gs) ≡ joined (settled n fs) (settled n gs)
settled_append n [] gs = refl
settled_append n (f ∷ fs) gs = ap (λ hs. field f.name (as_settled n f) hs) (settled_append n fs gs)

-- joining one struct after another is joining their forms
pub settled_puts : (n m : ℕ) (fs gs : List Counted) → 0 < n → 0 < m → AreCounted n fs → AreCounted m gs → AreJoined (settled n fs) → AreJoined (settled m gs)
    → structure dropped [] (settled (n + m) (puts fs gs)) ≡ join (structure dropped [] (settled n fs)) (structure dropped [] (settled m gs))
settled_puts n m fs gs p q h k u v =
    ap (λ hs. structure dropped [] (settled (n + m) hs)) (puts_is fs gs (fields_distinct n fs u) (fields_distinct m gs v))
    ∙ ap (structure dropped []) (settled_append (n + m) (merged fs gs) (fresh fs gs)
    ∙ (λ i. joined (merged_settled n m fs gs q h (fields_solid n fs u) k (fields_solid m gs v) i) (fresh_settled n m fs gs p k i)))

-- ---- how often each field was there

met_counted : (n m : ℕ) (f : Counted) (o : Option Counted) → f.count ≤ n → IsFound m o → (met f o).count ≤ n + m
met_counted n m f None h k = omega (arith, h)
met_counted n m f (Some g) h k = omega (arith, h, k.0)

merged_counted : (n m : ℕ) (fs gs : List Counted) → AreCounted n fs → AreCounted m gs → AreSolid gs → AreCounted (n + m) (merged fs gs)
merged_counted n m [] gs h k q = tt
merged_counted n m (f ∷ fs) gs h k q = (met_counted n m f (find gs f.name) h.0 (find_known m gs f.name k q), merged_counted n m fs gs h.1 k q)

fresh_counted : (n m : ℕ) (fs gs : List Counted) → AreCounted m gs → AreCounted (n + m) (fresh fs gs)
fresh_counted n m fs [] k = tt
fresh_counted n m fs (g ∷ gs) k = at (knows fs g.name) (fresh_counted n m fs gs k.1)
  where
    at : (b : Bool) → AreCounted (n + m) (fresh fs gs) → AreCounted (n + m) (cond b (fresh fs gs) (g ∷ fresh fs gs))
    at true h = h
    at false h = (omega (arith, k.0), h)

counted_append : (n : ℕ) (fs gs : List Counted) → AreCounted n fs → AreCounted n gs → AreCounted n (fs ++ gs)
counted_append n [] gs h k = k
counted_append n (f ∷ fs) gs h k = (h.0, counted_append n fs gs h.1 k)

pub puts_counted : (n m : ℕ) (fs gs : List Counted) → AreCounted n fs → AreCounted m gs → Distinct fs → Distinct gs → AreSolid gs → AreCounted (n + m) (puts fs gs)
puts_counted n m fs gs h k u v q =
    subst (AreCounted (n + m)) (sym (puts_is fs gs u v)) (counted_append (n + m) (merged fs gs) (fresh fs gs) (merged_counted n m fs gs h k q) (fresh_counted n m fs gs k))

-- ---- one document

pub pairs_settled : (ps : Pairs) → settled 1 (counted_pairs ps) ≡ pair_shapes ps
pairs_settled no_pairs = refl
pairs_settled (pair key t ps) = ap (field key (shape_of t)) (pairs_settled ps)

pub pairs_counted : (ps : Pairs) → AreCounted 1 (counted_pairs ps)
pairs_counted no_pairs = tt
pairs_counted (pair key t ps) = (omega arith, pairs_counted ps)
