-- The steps of the search for a name that leads back to itself.
use Rattle.std.proofs.Common.{◌≡◌, ℕ, zero, suc, ◌≤◌, ◌<◌, ◌+◌, ◌*◌, List, [], ◌∷◌, Bool, true, false, not, cond, ◌||◌, Option, Some, None, refl, ap, sym, subst, ◌∙◌, ◌⊎◌, inl, inr, arith, suc-mul}
use Rattle.std.specs.Str.{bytes_eq}
use Rattle.std.proofs.lemmas.Slice.Eq.{bytes_eq-Decides}
use Rattle.bson_kinds.specs.Text.{Utf8}
use Rattle.bson_shape.specs.Form.{Form, optional, lossy, human_readable, by_mode, newtype, reference, Fields}
use Rattle.bson_shape.specs.Guarded.{definition, LeadsTo, FoundLeadsTo, NameLeadsTo, LeadsIn, Leads, FoundLeads, Ends, is_guarded}
use Rattle.bson_shape.specs.ShapeView.{nodes, fields_nodes}
use Rattle.bson_shape.specs.Prover.Search.{Task, follow, leave, nowhere, to_name, to_inner, to_both, lead_of, Search, with_task, entering, without_unseen, leaving, Settled, Covered, AllLead, Follows, IsUnguarded, is_entered, Searches, left, Goes}
use Rattle.bson_shape.proofs.Chains.{lead_more, settled_never, unguarded_back, guarded_never, definition_smaller}

same_bytes : (xs ys : Utf8) → bytes_eq xs ys ≡ true → xs ≡ ys
same_bytes xs ys e = (bytes_eq-Decides xs ys).0 e

alike : (xs : Utf8) → bytes_eq xs xs ≡ true
alike xs = (bytes_eq-Decides xs xs).1 refl

-- ---- chains that end

leads_more : (P Q : Utf8 → Type 0) → ((key : Utf8) → P key → Q key) → (f : Form) → Leads P f → Leads Q f
leads_more P Q m (reference name) l = m name l
leads_more P Q m (optional f) l = leads_more P Q m f l
leads_more P Q m (lossy f) l = leads_more P Q m f l
leads_more P Q m (human_readable f) l = leads_more P Q m f l
leads_more P Q m (by_mode r c) l = (leads_more P Q m r l.0, leads_more P Q m c l.1)
leads_more P Q m (newtype name f) l = leads_more P Q m f l
leads_more P Q m f l = tt

found_more : (P Q : Utf8 → Type 0) → ((key : Utf8) → P key → Q key) → (o : Option Form) → FoundLeads P o → FoundLeads Q o
found_more P Q m None l = tt
found_more P Q m (Some f) l = leads_more P Q m f l

-- the more names may follow, the more chains end
ends_longer : (h : Fields) (n m : ℕ) (name : Utf8) → n ≤ m → Ends h n name → Ends h m name
ends_longer h zero m name le e = absurd e
ends_longer h (suc n) zero name le e = absurd (omega arith)
ends_longer h (suc n) (suc m) name le e = found_more (Ends h n) (Ends h m) (λ key x. ends_longer h n m key (omega arith) x) (definition h name) e

gathered : (h : Fields) (f : Form) → ((key : Utf8) → LeadsTo f key → Settled h key) → (n : ℕ) × Leads (Ends h n) f
gathered h (reference name) g = g name refl
gathered h (optional f) g = gathered h f g
gathered h (lossy f) g = gathered h f g
gathered h (human_readable f) g = gathered h f g
gathered h (by_mode r c) g =
    let a = gathered h r (λ key l. g key (inl l)) in
    let b = gathered h c (λ key l. g key (inr l)) in
    let n = a.0 + b.0 in
    (n, (leads_more (Ends h a.0) (Ends h n) (λ key x. ends_longer h a.0 n key (omega arith) x) r a.1, leads_more (Ends h b.0) (Ends h n) (λ key x. ends_longer h b.0 n key (omega arith) x) c b.1))
gathered h (newtype name f) g = gathered h f g
gathered h f g = (zero, tt)

found_gathered : (h : Fields) (o : Option Form) → ((key : Utf8) → FoundLeadsTo o key → Settled h key) → (n : ℕ) × FoundLeads (Ends h n) o
found_gathered h None g = (zero, tt)
found_gathered h (Some f) g = gathered h f g

-- a name is settled where each that its definition leads to is
settled_name : (h : Fields) (name : Utf8) → ((key : Utf8) → NameLeadsTo h name key → Settled h key) → Settled h name
settled_name h name g = let all = found_gathered h (definition h name) g in (suc all.0, all.1)

undefined_settled : (h : Fields) (name : Utf8) → definition h name ≡ None → Settled h name
undefined_settled h name e = (suc zero, subst (FoundLeads (Ends h zero)) (sym e) tt)

-- ---- what is to be done

covered_more : (h : Fields) (P Q : Utf8 → Type 0) (ts : List Task) → ((key : Utf8) → P key → Settled h key ⊎ Q key) → Covered h P ts → Covered h Q ts
covered_more h P Q [] m c = tt
covered_more h P Q (follow f ∷ ts) m c = covered_more h (λ key. P key ⊎ LeadsTo f key) (λ key. Q key ⊎ LeadsTo f key) ts more c where
  more : (key : Utf8) → P key ⊎ LeadsTo f key → Settled h key ⊎ (Q key ⊎ LeadsTo f key)
  more key (inl p) = elim (m key p) [ inl s ↦ inl s | inr q ↦ inr (inl q) ]
  more key (inr l) = inr (inr l)
covered_more h P Q (leave name ∷ ts) m c = (λ key l. more key (c.0 key l), c.1) where
  more : (key : Utf8) → Settled h key ⊎ P key → Settled h key ⊎ Q key
  more key (inl s) = inl s
  more key (inr p) = m key p

all_more : (h : Fields) (ts : List Task) (y z : Utf8) → AllLead h ts y → NameLeadsTo h y z → AllLead h ts z
all_more h [] y z l m = tt
all_more h (follow f ∷ ts) y z l m = all_more h ts y z l m
all_more h (leave name ∷ ts) y z l m = ((suc l.0.0, lead_more h l.0.0 name y z l.0.1 m), all_more h ts y z l.1 m)

entered_leads : (h : Fields) (ts : List Task) (key to : Utf8) → is_entered ts key ≡ true → AllLead h ts to → (n : ℕ) × LeadsIn h n key to
entered_leads h [] key to e l = absurd (let g : false ≡ true = e in cc)
entered_leads h (follow f ∷ ts) key to e l = entered_leads h ts key to e l
entered_leads h (leave name ∷ ts) key to e l = by_case (bytes_eq name key) refl e (entered_leads h ts key to) where
  by_case : (t : Bool) → bytes_eq name key ≡ t → (t || is_entered ts key) ≡ true → (is_entered ts key ≡ true → AllLead h ts to → (n : ℕ) × LeadsIn h n key to) → (n : ℕ) × LeadsIn h n key to
  by_case true same q rest = subst (λ x. (n : ℕ) × LeadsIn h n x to) (same_bytes name key same) l.0
  by_case false same q rest = rest q l.1

nothing : (h : Fields) (key : Utf8) → ⊥ → Settled h key ⊎ ⊥
nothing h key p = absurd p

-- ---- steps

-- at first nothing is known of any definition
pub begins : (h : Fields) (s : Search) → ((key : Utf8) → s.unseen key ≡ definition h key) → ((key : Utf8) → s.entered key ≡ false) → s.tasks ≡ [] → Searches h s
begins h s unseen none empty = record {
  known = λ key f e. sym (unseen key) ∙ e;
  inside = λ key e. absurd (let g : false ≡ true = sym (none key) ∙ e in cc);
  settled = λ key e _. undefined_settled h key (sym (unseen key) ∙ e);
  covered = subst (Covered h (λ _. ⊥)) (sym empty) tt;
  follows = subst (Follows h) (sym empty) tt;
}

-- an entered name that what is to be done refers to leads back
pub refers_back : (h : Fields) (s : Search) (name : Utf8) → Searches h (with_task (follow (reference name)) s) → s.entered name ≡ true → IsUnguarded h
refers_back h s name k e = (name, entered_leads h s.tasks name name (k.inside name e) (k.follows.0 name refl))

-- a form is followed that leads to settled names alone
followed : (h : Fields) (s : Search) (f : Form) → ((key : Utf8) → LeadsTo f key → Settled h key) → Searches h (with_task (follow f) s) → Searches h s
followed h s f all k = record {
  known = k.known;
  inside = k.inside;
  settled = k.settled;
  covered = covered_more h (λ key. ⊥ ⊎ LeadsTo f key) (λ _. ⊥) s.tasks more k.covered;
  follows = k.follows.1;
}
  where
    more : (key : Utf8) → ⊥ ⊎ LeadsTo f key → Settled h key ⊎ ⊥
    more key (inl p) = absurd p
    more key (inr l) = inl (all key l)

-- a reference to a settled name
pub refers_settled : (h : Fields) (s : Search) (name : Utf8) → s.unseen name ≡ None → s.entered name ≡ false → Searches h (with_task (follow (reference name)) s) → Searches h s
refers_settled h s name none out k = followed h s (reference name) (λ key same. subst (Settled h) same (k.settled name none out)) k

-- a form that leads nowhere
pub followed_none : (h : Fields) (s : Search) (f : Form) → ((key : Utf8) → LeadsTo f key → ⊥) → Searches h (with_task (follow f) s) → Searches h s
followed_none h s f none k = followed h s f (λ key l. absurd (none key l)) k

-- a form that leads where the one inside it does
pub followed_inner : (h : Fields) (s : Search) (f g : Form) → ((key : Utf8) → LeadsTo f key ≡ LeadsTo g key) → Searches h (with_task (follow f) s) → Searches h (with_task (follow g) s)
followed_inner h s f g same k = record {
  known = k.known;
  inside = k.inside;
  settled = k.settled;
  covered = covered_more h (λ key. ⊥ ⊎ LeadsTo f key) (λ key. ⊥ ⊎ LeadsTo g key) s.tasks more k.covered;
  follows = (λ key l. k.follows.0 key (subst (λ (A : Type 0). A) (sym (same key)) l), k.follows.1);
}
  where
    more : (key : Utf8) → ⊥ ⊎ LeadsTo f key → Settled h key ⊎ (⊥ ⊎ LeadsTo g key)
    more key (inl p) = absurd p
    more key (inr l) = inr (inr (subst (λ (A : Type 0). A) (same key) l))

-- both of two forms
pub followed_both : (h : Fields) (s : Search) (r c : Form) → Searches h (with_task (follow (by_mode r c)) s) → Searches h (with_task (follow r) (with_task (follow c) s))
followed_both h s r c k = record {
  known = k.known;
  inside = k.inside;
  settled = k.settled;
  covered = covered_more h (λ key. ⊥ ⊎ LeadsTo (by_mode r c) key) (λ key. (⊥ ⊎ LeadsTo r key) ⊎ LeadsTo c key) s.tasks more k.covered;
  follows = (λ key l. k.follows.0 key (inl l), (λ key l. k.follows.0 key (inr l), k.follows.1));
}
  where
    more : (key : Utf8) → ⊥ ⊎ (LeadsTo r key ⊎ LeadsTo c key) → Settled h key ⊎ ((⊥ ⊎ LeadsTo r key) ⊎ LeadsTo c key)
    more key (inl p) = absurd p
    more key (inr (inl l)) = inr (inl (inr l))
    more key (inr (inr l)) = inr (inr l)

-- a definition is entered
enters : (h : Fields) (s : Search) (name : Utf8) (f : Form) (count : ℕ) → ((key : Utf8) (g : Form) → s.unseen key ≡ Some g → definition h key ≡ Some g) → ((key : Utf8) → s.entered key ≡ true → is_entered s.tasks key ≡ true)
    → ((key : Utf8) → s.unseen key ≡ None → s.entered key ≡ false → Settled h key) → Covered h (λ key. name ≡ key) s.tasks → AllLead h s.tasks name → Follows h s.tasks → s.unseen name ≡ Some f
    → Searches h (entering name f (without_unseen name count s))
enters h s name f count known inside settled covered leads follows is =
    let here : definition h name ≡ Some f = known name f is in
    let apart : (key : Utf8) → NameLeadsTo h name key → LeadsTo f key = λ key l. subst (λ o. FoundLeadsTo o key) here l in
    let back : (key : Utf8) → LeadsTo f key → NameLeadsTo h name key = λ key l. subst (λ o. FoundLeadsTo o key) (sym here) l in
    record {
      known = λ key g e. still_known (bytes_eq name key) key g e;
      inside = λ key e. now_inside (bytes_eq name key) key e;
      settled = λ key e out. now_settled (bytes_eq name key) key e out;
      covered = (λ key l. inr (inr (apart key l)), covered);
      follows = (λ key l. ((zero, back key l), all_more h s.tasks name key leads (back key l)), (leads, follows));
    }
  where
    still_known : (t : Bool) (key : Utf8) (g : Form) → cond t None (s.unseen key) ≡ Some g → definition h key ≡ Some g
    still_known true key g e = absurd cc
    still_known false key g e = known key g e

    now_inside : (t : Bool) (key : Utf8) → cond t true (s.entered key) ≡ true → (t || is_entered s.tasks key) ≡ true
    now_inside true key e = refl
    now_inside false key e = inside key e

    now_settled : (t : Bool) (key : Utf8) → cond t None (s.unseen key) ≡ None → cond t true (s.entered key) ≡ false → Settled h key
    now_settled true key e out = absurd (let g : true ≡ false = out in cc)
    now_settled false key e out = settled key e out

-- where a reference leads to it
pub refers_entering : (h : Fields) (s : Search) (name : Utf8) (f : Form) (count : ℕ) → s.unseen name ≡ Some f → Searches h (with_task (follow (reference name)) s) → Searches h (entering name f (without_unseen name count s))
refers_entering h s name f count is k =
    enters h s name f count k.known k.inside k.settled (covered_more h (λ key. ⊥ ⊎ (name ≡ key)) (λ key. name ≡ key) s.tasks more k.covered) (k.follows.0 name refl) k.follows.1 is
  where
    more : (key : Utf8) → ⊥ ⊎ (name ≡ key) → Settled h key ⊎ (name ≡ key)
    more key (inl p) = absurd p
    more key (inr l) = inr l

-- or nothing else is to be done
pub starts : (h : Fields) (s : Search) (name : Utf8) (f : Form) (count : ℕ) → s.unseen name ≡ Some f → s.tasks ≡ [] → Searches h s → Searches h (entering name f (without_unseen name count s))
starts h s name f count is empty k =
    enters h s name f count k.known k.inside k.settled (subst (Covered h (λ key. name ≡ key)) (sym empty) tt) (subst (λ ts. AllLead h ts name) (sym empty) tt) (subst (Follows h) (sym empty) tt) is

-- a definition is left
pub leaves : (h : Fields) (s : Search) (name : Utf8) → Searches h (with_task (leave name) s) → Searches h (leaving name s)
leaves h s name k =
    let done : Settled h name = settled_name h name (λ key l. only key (k.covered.0 key l)) in
    record {
      known = k.known;
      inside = λ key e. still_inside (bytes_eq name key) key refl e;
      settled = λ key e out. now_settled done (bytes_eq name key) key refl e out;
      covered = covered_more h (λ key. name ≡ key) (λ _. ⊥) s.tasks (λ key same. inl (subst (Settled h) same done)) k.covered.1;
      follows = k.follows.1;
    }
  where
    only : (key : Utf8) → Settled h key ⊎ ⊥ → Settled h key
    only key (inl x) = x
    only key (inr p) = absurd p

    still_inside : (t : Bool) (key : Utf8) → bytes_eq name key ≡ t → cond t false (s.entered key) ≡ true → is_entered s.tasks key ≡ true
    still_inside true key same e = absurd (let g : false ≡ true = e in cc)
    still_inside false key same e = sym (ap (λ t. t || is_entered s.tasks key) same) ∙ k.inside key e

    now_settled : Settled h name → (t : Bool) (key : Utf8) → bytes_eq name key ≡ t → s.unseen key ≡ None → cond t false (s.entered key) ≡ false → Settled h key
    now_settled done true key same e out = subst (Settled h) (same_bytes name key same) done
    now_settled done false key same e out = k.settled key e out

-- nothing is left to be done
pub ended : (h : Fields) (s : Search) → Searches h s → s.tasks ≡ [] → ((key : Utf8) → s.unseen key ≡ None) → is_guarded h ≡ true
ended h s k empty none = by_case (is_guarded h) refl where
  out : (key : Utf8) → s.entered key ≡ false
  out key = by_entered (s.entered key) refl where
    by_entered : (t : Bool) → s.entered key ≡ t → t ≡ false
    by_entered false e = refl
    by_entered true e = absurd (let g : false ≡ true = sym (ap (λ ts. is_entered ts key) empty) ∙ k.inside key e in cc)

  by_case : (t : Bool) → is_guarded h ≡ t → t ≡ true
  by_case true e = refl
  by_case false e =
      let back = unguarded_back h e in
      absurd (settled_never h back.0 back.1 (k.settled back.0 (none back.0) (out back.0)))

pub back_false : (h : Fields) → IsUnguarded h → is_guarded h ≡ false
back_false h back = by_case (is_guarded h) refl where
  by_case : (t : Bool) → is_guarded h ≡ t → t ≡ false
  by_case false e = refl
  by_case true e = absurd (guarded_never h e back.0 back.1)

-- ---- less is to be done

-- a definition is entered in place of a reference to it
pub less_entering : (h : Fields) (s : Search) (name : Utf8) (f : Form) (count : ℕ) → definition h name ≡ Some f → suc count ≡ s.count → left h (entering name f (without_unseen name count s)) < left h (with_task (follow (reference name)) s)
less_entering h s name f count is fewer =
    let k = fields_nodes h + 2 in
    let small : nodes f ≤ fields_nodes h = definition_smaller h name f is in
    let one : s.count * k ≡ count * k + k = ap (λ n. n * k) (sym fewer) ∙ suc-mul count k in
    omega (arith, small, one)

less_inner : (h : Fields) (s : Search) (f g : Form) → nodes g < nodes f → left h (with_task (follow g) s) < left h (with_task (follow f) s)
less_inner h s f g small = omega (arith, small)

-- ---- what a step comes to

-- a form that leads nowhere
pub goes_nowhere : (h : Fields) (s : Search) (f : Form) → ((key : Utf8) → LeadsTo f key → ⊥) → 0 < nodes f → Searches h (with_task (follow f) s) → Goes h (with_task (follow f) s) true s
goes_nowhere h s f none some k = (followed_none h s f none k, omega (arith, some), omega arith)

-- one that leads where the form inside it does
pub goes_inner : (h : Fields) (s : Search) (f g : Form) → ((key : Utf8) → LeadsTo f key ≡ LeadsTo g key) → nodes g < nodes f → Searches h (with_task (follow f) s) → Goes h (with_task (follow f) s) true (with_task (follow g) s)
goes_inner h s f g same small k = (followed_inner h s f g same k, less_inner h s f g small, omega arith)

pub goes_both : (h : Fields) (s : Search) (r c : Form) → Searches h (with_task (follow (by_mode r c)) s) → Goes h (with_task (follow (by_mode r c)) s) true (with_task (follow r) (with_task (follow c) s))
goes_both h s r c k = (followed_both h s r c k, omega arith, omega arith)

pub goes_leaving : (h : Fields) (s : Search) (name : Utf8) → Searches h (with_task (leave name) s) → Goes h (with_task (leave name) s) true (leaving name s)
goes_leaving h s name k = (leaves h s name k, omega arith, omega arith)

-- a reference to a name that is not entered yet
pub goes_entering : (h : Fields) (s : Search) (name : Utf8) (f : Form) (count : ℕ) → s.unseen name ≡ Some f → suc count ≡ s.count → Searches h (with_task (follow (reference name)) s)
    → Goes h (with_task (follow (reference name)) s) true (entering name f (without_unseen name count s))
goes_entering h s name f count is fewer k = (refers_entering h s name f count is k, less_entering h s name f count (k.known name f is) fewer, omega (arith, fewer))

-- one to a name that was
pub goes_back : (h : Fields) (s : Search) (name : Utf8) (entered : Bool) → s.unseen name ≡ None → s.entered name ≡ entered → Searches h (with_task (follow (reference name)) s) → Goes h (with_task (follow (reference name)) s) (not entered) s
goes_back h s name true none e k = refers_back h s name k e
goes_back h s name false none e k = (refers_settled h s name none e k, omega arith, omega arith)

-- ---- what a form leads to

abbrev IsFollowed : Fields → Search → Form → Form → Type 0
IsFollowed h s f g = Goes h (with_task (follow f) s) true (with_task (follow g) s)

pub follows_nowhere : (h : Fields) (s : Search) (f : Form) → nowhere ≡ lead_of f → Searches h (with_task (follow f) s) → Goes h (with_task (follow f) s) true s
follows_nowhere h s (reference name) e k = absurd cc
follows_nowhere h s (optional f) e k = absurd cc
follows_nowhere h s (lossy f) e k = absurd cc
follows_nowhere h s (human_readable f) e k = absurd cc
follows_nowhere h s (by_mode r c) e k = absurd cc
follows_nowhere h s (newtype name f) e k = absurd cc
follows_nowhere h s f e k = goes_nowhere h s f (λ key l. l) (omega arith) k

pub follows_name : (name : Utf8) (f : Form) → to_name name ≡ lead_of f → f ≡ reference name
follows_name name (reference n) e = let same : n ≡ name = cc in ap reference same
follows_name name (optional f) e = absurd cc
follows_name name (lossy f) e = absurd cc
follows_name name (human_readable f) e = absurd cc
follows_name name (by_mode r c) e = absurd cc
follows_name name (newtype n f) e = absurd cc
follows_name name f e = absurd cc

inner_of : (h : Fields) (s : Search) (f g i : Form) → to_inner g ≡ to_inner i → IsFollowed h s f i → IsFollowed h s f g
inner_of h s f g i e k = let same : i ≡ g = cc in subst (IsFollowed h s f) same k

pub follows_inner : (h : Fields) (s : Search) (g f : Form) → to_inner g ≡ lead_of f → Searches h (with_task (follow f) s) → IsFollowed h s f g
follows_inner h s g (reference name) e k = absurd cc
follows_inner h s g (optional f) e k = inner_of h s (optional f) g f e (goes_inner h s (optional f) f (λ key. refl) (omega arith) k)
follows_inner h s g (lossy f) e k = inner_of h s (lossy f) g f e (goes_inner h s (lossy f) f (λ key. refl) (omega arith) k)
follows_inner h s g (human_readable f) e k = inner_of h s (human_readable f) g f e (goes_inner h s (human_readable f) f (λ key. refl) (omega arith) k)
follows_inner h s g (by_mode r c) e k = absurd cc
follows_inner h s g (newtype name f) e k = inner_of h s (newtype name f) g f e (goes_inner h s (newtype name f) f (λ key. refl) (omega arith) k)
follows_inner h s g f e k = absurd cc

pub follows_both : (r c f : Form) → to_both r c ≡ lead_of f → f ≡ by_mode r c
follows_both r c (by_mode x y) e = let first : x ≡ r = cc in let second : y ≡ c = cc in λ i. by_mode (first i) (second i)
follows_both r c (reference name) e = absurd cc
follows_both r c (optional f) e = absurd cc
follows_both r c (lossy f) e = absurd cc
follows_both r c (human_readable f) e = absurd cc
follows_both r c (newtype name f) e = absurd cc
follows_both r c f e = absurd cc
