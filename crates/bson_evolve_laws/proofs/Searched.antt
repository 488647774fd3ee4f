-- The search decides compatibility: where each pair that it met passes the shapes are compatible, and where it finds a fault they are not.
use Rattle.std.proofs.Common.{◌≡◌, ℕ, zero, suc, ◌<◌, ◌≤◌, Bool, true, false, cond, List, [], ◌∷◌, ◌++◌, map, Some, None, inl, inr, refl, ap, sym, subst, ◌∙◌, arith}
use Rattle.std.specs.Prelude.{◌⊎◌, ◌&&◌, ◌||◌}
use Rattle.bson_shape.specs.Form.{Form, Fields, no_fields, definitions}
use Rattle.bson_shape.specs.Same.{same, same_fields}
use Rattle.bson_shape.specs.Prover.Decided.{same_decides}
use Rattle.bson_values.specs.Refusal.{Path}
use Rattle.bson_evolve_laws.specs.Compatible.{Meets, Met, ArePassing, IsCompatible}
use Rattle.bson_evolve_laws.specs.First.{Pair, pair_of, same_pair, is_met, PendingPair, pending_step, all_pass, fault, cut_off, unmet, entered, entered_first, search, start, IsFirstFault}
use Rattle.bson_evolve_laws.specs.Placed.{Placed, placed, same_placed}
use Rattle.bson_evolve_laws.specs.Rows.{Step, Answer, row}
use Rattle.bson_evolve_laws.proofs.Closed.{passing_closed, closed_passing}

-- ---- the pairs that were met

abbrev pub In : Pair → List Pair → Type 0
In p [] = ⊥
In p (q ∷ qs) = (p ≡ q) ⊎ In p qs

both_true : (a b : Bool) → (a && b) ≡ true → (a ≡ true) × (b ≡ true)
both_true true b e = (refl, e)
both_true false b e = absurd (let both : false ≡ true = e in cc)

-- the definitions that a form begins with
abbrev table : Form → Fields
table (definitions t s) = t
table s = no_fields

fields_is : (h k : Fields) (f : Form) → same_fields h k ≡ true → h ≡ k
fields_is h k f e = ap table ((same_decides (definitions h f) (definitions k f)).0 (ap (λ b. b && same f f) e ∙ (same_decides f f).1 refl))

fields_self : (h : Fields) (f : Form) → same_fields h h ≡ true
fields_self h f = (both_true (same_fields h h) (same f f) ((same_decides (definitions h f) (definitions h f)).1 refl)).0

placed_is : (p q : Placed) → same_placed p q ≡ true → p ≡ q
placed_is p q e =
    let r = both_true (same p.form q.form) (same_fields p.around q.around) e in
    let f : p.form ≡ q.form = (same_decides p.form q.form).0 r.0 in
    let h : p.around ≡ q.around = fields_is p.around q.around p.form r.1 in
    λ i. record { around = h i; form = f i }

placed_self : (p : Placed) → same_placed p p ≡ true
placed_self p = ap (λ b. b && same_fields p.around p.around) ((same_decides p.form p.form).1 refl) ∙ fields_self p.around p.form

pair_is : (p q : Pair) → same_pair p q ≡ true → p ≡ q
pair_is p q e =
    let r = both_true (same_placed p.old q.old) (same_placed p.new q.new) e in
    let a : p.old ≡ q.old = placed_is p.old q.old r.0 in
    let b : p.new ≡ q.new = placed_is p.new q.new r.1 in
    λ i. record { old = a i; new = b i }

pair_self : (p : Pair) → same_pair p p ≡ true
pair_self p = ap (λ b. b && same_placed p.new p.new) (placed_self p.old) ∙ placed_self p.new

-- is_met asks of each pair that was met whether it is this one
pub met_in : (qs : List Pair) (p : Pair) → is_met qs p ≡ true → In p qs
met_in [] p e = absurd (let both : false ≡ true = e in cc)
met_in (q ∷ qs) p e = by_case (same_pair q p) refl e (λ f. met_in qs p f) where
  by_case : (b : Bool) → same_pair q p ≡ b → (b || is_met qs p) ≡ true → (is_met qs p ≡ true → In p qs) → In p (q ∷ qs)
  by_case true is e f = inl (sym (pair_is q p is))
  by_case false is e f = inr (f e)

or_right : (a b : Bool) → b ≡ true → (a || b) ≡ true
or_right true b e = refl
or_right false b e = e

pub in_met : (qs : List Pair) (p : Pair) → In p qs → is_met qs p ≡ true
in_met [] p i = absurd i
in_met (q ∷ qs) p (inl e) = ap (λ b. b || is_met qs p) (subst (λ z. same_pair z p ≡ true) e (pair_self p))
in_met (q ∷ qs) p (inr i) = or_right (same_pair q p) (is_met qs p) (in_met qs p i)

-- ---- the pairs that are to be entered

abbrev pub AllPending : (Pair → Type 0) → List PendingPair → Type 0
AllPending P [] = Unit {0}
AllPending P (d ∷ ds) = P d.pair × AllPending P ds

pub pending_first : (P : Pair → Type 0) (ds es : List PendingPair) → AllPending P (ds ++ es) → AllPending P ds
pending_first P [] es a = tt
pending_first P (d ∷ ds) es a = (a.0, pending_first P ds es a.1)

pub pending_others : (P : Pair → Type 0) (ds es : List PendingPair) → AllPending P (ds ++ es) → AllPending P es
pending_others P [] es a = a
pending_others P (d ∷ ds) es a = pending_others P ds es a.1

pub pending_both : (P : Pair → Type 0) (ds es : List PendingPair) → AllPending P ds → AllPending P es → AllPending P (ds ++ es)
pending_both P [] es a b = b
pending_both P (d ∷ ds) es a b = (a.0, pending_both P ds es a.1 b)

-- those before the first that was not met were met
skipped : (P : Pair → Type 0) (met : List Pair) (ds : List PendingPair) → ((p : Pair) → In p met → P p) → AllPending P (unmet met ds) → AllPending P ds
skipped P met [] f a = tt
skipped P met (d ∷ ds) f a = by_case (is_met met d.pair) refl a (λ k. skipped P met ds f k) where
  by_case : (b : Bool) → is_met met d.pair ≡ b → AllPending P (cond b (unmet met ds) (d ∷ ds)) → (AllPending P (unmet met ds) → AllPending P ds) → AllPending P (d ∷ ds)
  by_case true is a g = (f d.pair (met_in met d.pair is), g a)
  by_case false is a g = a

left_pending : (P : Pair → Type 0) (met : List Pair) (ds : List PendingPair) → AllPending P ds → AllPending P (unmet met ds)
left_pending P met [] a = tt
left_pending P met (d ∷ ds) a = by_case (is_met met d.pair) (left_pending P met ds a.1) where
  by_case : (b : Bool) → AllPending P (unmet met ds) → AllPending P (cond b (unmet met ds) (d ∷ ds))
  by_case true k = k
  by_case false k = a

-- the first that is left was not met
first_new : (met : List Pair) (ds es : List PendingPair) (e : PendingPair) → unmet met ds ≡ e ∷ es → is_met met e.pair ≡ false
first_new met [] es e i = absurd (let none : [] ≡ e ∷ es = i in cc)
first_new met (d ∷ ds) es e i = by_case (is_met met d.pair) refl i (λ k. first_new met ds es e k) where
  head_is : (x y : PendingPair) (xs ys : List PendingPair) → x ∷ xs ≡ y ∷ ys → x ≡ y
  head_is x y xs ys k = cc

  by_case : (b : Bool) → is_met met d.pair ≡ b → cond b (unmet met ds) (d ∷ ds) ≡ e ∷ es → (unmet met ds ≡ e ∷ es → is_met met e.pair ≡ false) → is_met met e.pair ≡ false
  by_case true is k others = others k
  by_case false is k others = subst (λ x. is_met met x.pair ≡ false) (head_is d e ds es k) is

-- ---- what a row names

-- the pair that a step of a row leads to
abbrev step_pair : Pair → Form → Form → Pair
step_pair p x y = pair_of (placed p.old.around x) (placed p.new.around y)

-- it holds of each pair that the row names, where one does
abbrev pub RowAll : (Pair → Type 0) → Pair → Type 0
RowAll P p = Met (λ x y. P (step_pair p x y)) (row p.old.form p.new.form)

steps_pending : (P : Pair → Type 0) (d : PendingPair) (ss : List Step) → Meets (λ x y. P (step_pair d.pair x y)) ss → AllPending P (map (pending_step d) ss)
steps_pending P d [] m = tt
steps_pending P d (s ∷ ss) m = (m.0, steps_pending P d ss m.1)

pending_steps : (P : Pair → Type 0) (d : PendingPair) (ss : List Step) → AllPending P (map (pending_step d) ss) → Meets (λ x y. P (step_pair d.pair x y)) ss
pending_steps P d [] a = tt
pending_steps P d (s ∷ ss) a = (a.0, pending_steps P d ss a.1)

-- ---- a search that finds no fault

-- what it has made sure of: the pairs that were met are among these, and each of these was met or its row names pairs of these
abbrev Sure : List Pair → List PendingPair → List Pair → Type 0
Sure met pending W = ((p : Pair) → In p met → In p W) × AllPending (λ p. In p W) pending × ((p : Pair) → In p W → In p met ⊎ RowAll (λ q. In q W) p)

same_list : (V W : List Pair) → all_pass V ≡ all_pass W → V ≡ W
same_list V W e = cc

met_is : (V W : List Pair) → all_pass V ≡ all_pass W → (pending : List PendingPair) → unmet V pending ≡ [] → Sure V pending W
met_is V W e pending none =
    subst (Sure V pending) (same_list V W e) ((λ p i. i), skipped (λ p. In p V) V pending (λ p i. i) (subst (AllPending (λ p. In p V)) (sym none) tt), (λ p i. inl i))

first_in : (V W : List Pair) (x y : Pair) → RowAll (λ q. In q W) x → In y (x ∷ V) ⊎ RowAll (λ q. In q W) y → In y V ⊎ RowAll (λ q. In q W) y
first_in V W x y d (inl (inl e)) = inr (subst (RowAll (λ q. In q W)) (sym e) d)
first_in V W x y d (inl (inr i)) = inl i
first_in V W x y d (inr k) = inr k

pub search_sure : (n : ℕ) (met : List Pair) (pending : List PendingPair) (W : List Pair) → search n met pending ≡ all_pass W → Sure met pending W
search_sure zero met pending W e = absurd (let none : cut_off ≡ all_pass W = e in cc)
search_sure (suc n) met pending W e = by_pending (unmet met pending) refl e (λ more later k. search_sure n more later W k) where
  by_row : (d : PendingPair) (ds : List PendingPair) (o : Answer) → unmet met pending ≡ d ∷ ds → row d.pair.old.form d.pair.new.form ≡ o → entered (λ more later. search n more later) met d ds o ≡ all_pass W
      → ((more : List Pair) (later : List PendingPair) → search n more later ≡ all_pass W → Sure more later W) → Sure met pending W
  by_row d ds None is r k rest = absurd (let none : fault d.path ≡ all_pass W = k in cc)
  by_row d ds (Some ss) is r k rest =
      let s = rest (d.pair ∷ met) (map (pending_step d) ss ++ ds) k in
      let done : RowAll (λ q. In q W) d.pair = subst (Met (λ x y. In (step_pair d.pair x y) W)) (sym r) (pending_steps (λ q. In q W) d ss (pending_first (λ q. In q W) (map (pending_step d) ss) ds s.1)) in
      let here : In d.pair W = s.0 d.pair (inl refl) in (
        (λ p i. s.0 p (inr i)),
        skipped (λ p. In p W) met pending (λ p i. s.0 p (inr i)) (subst (AllPending (λ p. In p W)) (sym is) (here, pending_others (λ q. In q W) (map (pending_step d) ss) ds s.1)),
        (λ p i. first_in met W d.pair p done (s.2 p i)),
      )

  by_pending : (l : List PendingPair) → unmet met pending ≡ l → entered_first (λ more later. search n more later) met l ≡ all_pass W
      → ((more : List Pair) (later : List PendingPair) → search n more later ≡ all_pass W → Sure more later W) → Sure met pending W
  by_pending [] is k rest = met_is met W k pending is
  by_pending (d ∷ ds) is k rest = by_row d ds (row d.pair.old.form d.pair.new.form) is refl k rest

-- the pairs that it met are closed under the rows, so the shapes are compatible
pub search_yes : (n : ℕ) (old new : Form) (W : List Pair) → search n [] (start old new ∷ []) ≡ all_pass W → IsCompatible old new
search_yes n old new W e =
    let s = search_sure n [] (start old new ∷ []) W e in
    closed_passing (λ a b. In (pair_of a b) W) (λ a b i. by_met (pair_of a b) (s.2 (pair_of a b) i)) (placed no_fields old) (placed no_fields new) s.1.0
  where
    by_met : (p : Pair) → In p [] ⊎ RowAll (λ q. In q W) p → RowAll (λ q. In q W) p
    by_met p (inl i) = absurd i
    by_met p (inr d) = d

-- ---- a search that finds one

-- the pair passes, and so do those that its row names
abbrev pub PassesAll : Pair → Type 0
PassesAll p = Met (λ x y. ArePassing (placed p.old.around x) (placed p.new.around y)) (row p.old.form p.new.form)

steps_pass : (p : Pair) (ss : List Step) → Meets (λ x y. ArePassing (placed p.old.around x) (placed p.new.around y)) ss → Meets (λ x y. PassesAll (step_pair p x y)) ss
steps_pass p [] m = tt
steps_pass p (s ∷ ss) m = (passing_closed (placed p.old.around s.old) (placed p.new.around s.new) m.0, steps_pass p ss m.1)

pub search_fault : (n : ℕ) (met : List Pair) (pending : List PendingPair) (path : Path) → search n met pending ≡ fault path → AllPending PassesAll pending → ⊥
search_fault zero met pending path e a = let none : cut_off ≡ fault path = e in cc
search_fault (suc n) met pending path e a = by_pending (unmet met pending) (left_pending PassesAll met pending a) e (λ more later k b. search_fault n more later path k b) where
  by_row : (d : PendingPair) (ds : List PendingPair) (o : Answer) → Met (λ x y. ArePassing (placed d.pair.old.around x) (placed d.pair.new.around y)) o → AllPending PassesAll ds
      → entered (λ more later. search n more later) met d ds o ≡ fault path → ((more : List Pair) (later : List PendingPair) → search n more later ≡ fault path → AllPending PassesAll later → ⊥) → ⊥
  by_row d ds None m b k rest = m
  by_row d ds (Some ss) m b k rest =
      rest (d.pair ∷ met) (map (pending_step d) ss ++ ds) k (pending_both PassesAll (map (pending_step d) ss) ds (steps_pending PassesAll d ss (steps_pass d.pair ss m)) b)

  by_pending : (l : List PendingPair) → AllPending PassesAll l → entered_first (λ more later. search n more later) met l ≡ fault path
      → ((more : List Pair) (later : List PendingPair) → search n more later ≡ fault path → AllPending PassesAll later → ⊥) → ⊥
  by_pending [] b k rest = let none : all_pass met ≡ fault path = k in cc
  by_pending (d ∷ ds) b k rest = by_row d ds (row d.pair.old.form d.pair.new.form) b.0 b.1 k rest

pub search_no : (old new : Form) (path : Path) → IsFirstFault old new path → IsCompatible old new → ⊥
search_no old new path f c = search_fault f.0 [] (start old new ∷ []) path f.1 (passing_closed (placed no_fields old) (placed no_fields new) c, tt)

-- ---- it ends

-- how many of these pairs were not met
abbrev pub count_if : Bool → ℕ → ℕ
count_if true n = n
count_if false n = suc n

abbrev pub left : List Pair → List Pair → ℕ
left [] met = 0
left (q ∷ qs) met = count_if (is_met met q) (left qs met)

fewer : (a b : Bool) (n m : ℕ) → (a ≡ true → b ≡ true) → m ≤ n → count_if b m ≤ count_if a n
fewer true true n m f le = le
fewer true false n m f le = absurd (let both : false ≡ true = f refl in cc)
fewer false true n m f le = omega (arith, le)
fewer false false n m f le = omega (arith, le)

left_more : (qs V W : List Pair) → ((p : Pair) → In p V → In p W) → left qs W ≤ left qs V
left_more [] V W s = omega arith
left_more (q ∷ qs) V W s = fewer (is_met V q) (is_met W q) (left qs V) (left qs W) (λ e. in_met W q (s q (met_in V q e))) (left_more qs V W s)

one_fewer : (a b : Bool) (n m : ℕ) → (a ≡ true → b ≡ true) → m < n → count_if b m < count_if a n
one_fewer true true n m f lt = lt
one_fewer true false n m f lt = absurd (let both : false ≡ true = f refl in cc)
one_fewer false true n m f lt = omega (arith, lt)
one_fewer false false n m f lt = omega (arith, lt)

this_one : (a b : Bool) (n m : ℕ) → a ≡ false → b ≡ true → m ≤ n → count_if b m < count_if a n
this_one true b n m e f le = absurd (let both : true ≡ false = e in cc)
this_one false true n m e f le = omega (arith, le)
this_one false false n m e f le = absurd (let both : false ≡ true = f in cc)

pub left_less : (qs V : List Pair) (p : Pair) → In p qs → is_met V p ≡ false → left qs (p ∷ V) < left qs V
left_less [] V p i e = absurd i
left_less (q ∷ qs) V p (inl is) e =
    this_one (is_met V q) (is_met (p ∷ V) q) (left qs V) (left qs (p ∷ V)) (ap (is_met V) (sym is) ∙ e) (in_met (p ∷ V) q (inl (sym is))) (left_more qs V (p ∷ V) (λ z i. inr i))
left_less (q ∷ qs) V p (inr i) e =
    one_fewer (is_met V q) (is_met (p ∷ V) q) (left qs V) (left qs (p ∷ V)) (λ f. in_met (p ∷ V) q (inr (met_in V q f))) (left_less qs V p i e)

-- A search among these pairs, which are closed under the rows, is not cut off in more steps than so many of them were not met.
pub search_ends : (all : List Pair) → ((p : Pair) → In p all → (ss : List Step) → row p.old.form p.new.form ≡ Some ss → Meets (λ x y. In (step_pair p x y) all) ss) → (n : ℕ) (met : List Pair) (pending : List PendingPair)
    → AllPending (λ p. In p all) pending → left all met < n → search n met pending ≡ cut_off → ⊥
search_ends all closed zero met pending a lt e = omega (arith, lt)
search_ends all closed (suc n) met pending a lt e = by_pending (unmet met pending) refl (left_pending (λ p. In p all) met pending a) e (λ more later b l k. search_ends all closed n more later b l k) where
  by_row : (d : PendingPair) (ds : List PendingPair) (o : Answer) → unmet met pending ≡ d ∷ ds → row d.pair.old.form d.pair.new.form ≡ o → In d.pair all → AllPending (λ p. In p all) ds
      → entered (λ more later. search n more later) met d ds o ≡ cut_off
      → ((more : List Pair) (later : List PendingPair) → AllPending (λ p. In p all) later → left all more < n → search n more later ≡ cut_off → ⊥) → ⊥
  by_row d ds None is r i b k rest = let none : fault d.path ≡ cut_off = k in cc
  by_row d ds (Some ss) is r i b k rest =
      rest (d.pair ∷ met) (map (pending_step d) ss ++ ds)
      (pending_both (λ p. In p all) (map (pending_step d) ss) ds (steps_pending (λ p. In p all) d ss (closed d.pair i ss r)) b)
      (omega (arith, lt, left_less all met d.pair i (first_new met pending ds d is))) k

  by_pending : (l : List PendingPair) → unmet met pending ≡ l → AllPending (λ p. In p all) l → entered_first (λ more later. search n more later) met l ≡ cut_off
      → ((more : List Pair) (later : List PendingPair) → AllPending (λ p. In p all) later → left all more < n → search n more later ≡ cut_off → ⊥) → ⊥
  by_pending [] is b k rest = let none : all_pass met ≡ cut_off = k in cc
  by_pending (d ∷ ds) is b k rest = by_row d ds (row d.pair.old.form d.pair.new.form) is refl b.0 b.1 k rest
