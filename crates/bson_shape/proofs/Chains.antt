-- Definitions pass the test exactly where no name leads back to itself: a chain with more names than there are definitions names one twice.
use Rattle.std.proofs.Common.{◌≡◌, ℕ, zero, suc, ◌≤◌, ◌<◌, ◌+◌, ◌-◌, ◌*◌, List, [], ◌∷◌, length, get_or, take, drop, drop-cons, take_all, suc-mul, string_bytes, Bool, true, false, cond, Option, Some, None, refl, ap, sym, subst, ◌∙◌, ◌⊎◌, inl, inr, arith}
use Rattle.std.specs.Prelude.{◌&&◌}
use Rattle.std.specs.Str.{bytes_eq}
use Rattle.std.proofs.lemmas.Bool.{cond-true, cond-false}
use Rattle.std.proofs.lemmas.List.{take-append-drop}
use Rattle.std.proofs.lemmas.Slice.Eq.{bytes_eq-Decides}
use Rattle.bson_kinds.specs.Text.{Utf8}
use Rattle.bson_shape.specs.Form.{Form, optional, lossy, human_readable, by_mode, newtype, reference, Fields, no_fields, field, joined}
use Rattle.bson_shape.specs.Guarded.{count, definition, LeadsTo, FoundLeadsTo, NameLeadsTo, LeadsIn, LeadsBack, Leads, FoundLeads, Ends, IsGuarded, leading, found_leading, ends, all_end, is_guarded}
use Rattle.bson_shape.specs.ShapeView.{fields_of, nodes, fields_nodes}
use Rattle.bson_shape.specs.declared.shape.FieldShape.{FieldShape}
use Rattle.bson_shape.proofs.Shapes.{fields_of-append, fields_of-take_more}
use Rattle.bson_shape.proofs.Words.{and_true}

-- ---- where chains end, no name leads back

leads_one : (P : Utf8 → Type 0) (f : Form) (key : Utf8) → Leads P f → LeadsTo f key → P key
leads_one P (reference name) key l e = subst P e l
leads_one P (optional f) key l e = leads_one P f key l e
leads_one P (lossy f) key l e = leads_one P f key l e
leads_one P (human_readable f) key l e = leads_one P f key l e
leads_one P (by_mode r c) key l (inl e) = leads_one P r key l.0 e
leads_one P (by_mode r c) key l (inr e) = leads_one P c key l.1 e
leads_one P (newtype name f) key l e = leads_one P f key l e
leads_one P f key l e = absurd e

found_one : (P : Utf8 → Type 0) (o : Option Form) (key : Utf8) → FoundLeads P o → FoundLeadsTo o key → P key
found_one P None key l e = absurd e
found_one P (Some f) key l e = leads_one P f key l e

-- a chain that ends, seen from farther along
along : (h : Fields) (n k : ℕ) (from to : Utf8) → LeadsIn h n from to → Ends h k from → (j : ℕ) × (suc j ≤ k) × Ends h j to
along h n zero from to l e = absurd e
along h zero (suc k) from to l e = (k, omega arith, found_one (Ends h k) (definition h from) to e l)
along h (suc n) (suc k) from to l e =
    let r = along h n k l.0 to l.2 (found_one (Ends h k) (definition h from) l.0 e l.1) in
    (r.0, (let q = r.1 in omega arith), r.2)

never_back : (h : Fields) (n : ℕ) (name : Utf8) → LeadsIn h n name name → (bound k : ℕ) → k ≤ bound → Ends h k name → ⊥
never_back h n name l zero zero b e = e
never_back h n name l zero (suc k) b e = absurd (omega arith)
never_back h n name l (suc bound) k b e =
    let r = along h n k name name l e in
    let q = r.1 in
    never_back h n name l bound r.0 (omega arith) r.2

pub guarded_back : (h : Fields) → IsGuarded h → (name : Utf8) → LeadsBack h name → ⊥
guarded_back h g name b = never_back h b.0 name b.1 (suc (count h)) (suc (count h)) (omega arith) (g name)

-- a name whose chain ends does not lead back
pub settled_never : (h : Fields) (name : Utf8) → LeadsBack h name → (k : ℕ) × Ends h k name → ⊥
settled_never h name b e = never_back h b.0 name b.1 e.0 e.0 (omega arith) e.1

-- ---- pigeons

same_bytes : (xs ys : Utf8) → bytes_eq xs ys ≡ true → xs ≡ ys
same_bytes xs ys e = (bytes_eq-Decides xs ys).0 e

abbrev has : Fields → Utf8 → Bool
has no_fields key = false
has (field name f h) key = cond (bytes_eq name key) true (has h key)

abbrev AllHas : Fields → List Utf8 → Type 0
AllHas h [] = Unit {0}
AllHas h (x ∷ xs) = (has h x ≡ true) × AllHas h xs

abbrev IsNew : Utf8 → List Utf8 → Type 0
IsNew key [] = Unit {0}
IsNew key (x ∷ xs) = (bytes_eq key x ≡ false) × IsNew key xs

abbrev AreNew : List Utf8 → Type 0
AreNew [] = Unit {0}
AreNew (x ∷ xs) = IsNew x xs × AreNew xs

abbrev without : Utf8 → List Utf8 → List Utf8
without name [] = []
without name (x ∷ xs) = cond (bytes_eq name x) (without name xs) (x ∷ without name xs)

-- what is new stays so
new_without : (key name : Utf8) (xs : List Utf8) → IsNew key xs → IsNew key (without name xs)
new_without key name [] n = tt
new_without key name (x ∷ xs) n = by_case (bytes_eq name x) (new_without key name xs n.1) where
  by_case : (b : Bool) → IsNew key (without name xs) → IsNew key (cond b (without name xs) (x ∷ without name xs))
  by_case true rest = rest
  by_case false rest = (n.0, rest)

are_new_without : (name : Utf8) (xs : List Utf8) → AreNew xs → AreNew (without name xs)
are_new_without name [] n = tt
are_new_without name (x ∷ xs) n = by_case (bytes_eq name x) (are_new_without name xs n.1) where
  by_case : (b : Bool) → AreNew (without name xs) → AreNew (cond b (without name xs) (x ∷ without name xs))
  by_case true rest = rest
  by_case false rest = (new_without x name xs n.0, rest)

-- nothing goes where the name is new
same_length : (name : Utf8) (xs : List Utf8) → IsNew name xs → length (without name xs) ≡ length xs
same_length name [] n = refl
same_length name (x ∷ xs) n = ap (λ b. length (cond b (without name xs) (x ∷ without name xs))) n.0 ∙ ap suc (same_length name xs n.1)

-- of different names at most one goes
one_less : (name : Utf8) (xs : List Utf8) → AreNew xs → length xs ≤ suc (length (without name xs))
one_less name [] n = omega arith
one_less name (x ∷ xs) n = by_case (bytes_eq name x) refl (one_less name xs n.1) where
  by_case : (b : Bool) → bytes_eq name x ≡ b → length xs ≤ suc (length (without name xs)) → suc (length xs) ≤ suc (length (cond b (without name xs) (x ∷ without name xs)))
  by_case true same rest = let e : length (without name xs) ≡ length xs = same_length name xs (subst (λ y. IsNew y xs) (sym (same_bytes name x same)) n.0) in omega arith
  by_case false same rest = omega arith

has_without : (name : Utf8) (f : Form) (h : Fields) (xs : List Utf8) → AllHas (field name f h) xs → AllHas h (without name xs)
has_without name f h [] a = tt
has_without name f h (x ∷ xs) a = by_case (bytes_eq name x) a.0 (has_without name f h xs a.1) where
  by_case : (b : Bool) → cond b true (has h x) ≡ true → AllHas h (without name xs) → AllHas h (cond b (without name xs) (x ∷ without name xs))
  by_case true e rest = rest
  by_case false e rest = (e, rest)

pigeons : (h : Fields) (xs : List Utf8) → AreNew xs → AllHas h xs → length xs ≤ count h
pigeons no_fields [] n a = omega arith
pigeons no_fields (x ∷ xs) n a = let e : false ≡ true = a.0 in absurd cc
pigeons (field name f h) xs n a =
    let less = one_less name xs n in
    let rest = pigeons h (without name xs) (are_new_without name xs n) (has_without name f h xs a) in
    omega arith

-- ---- where no name leads back, chains end

pub lead_more : (h : Fields) (n : ℕ) (x y z : Utf8) → LeadsIn h n x y → NameLeadsTo h y z → LeadsIn h (suc n) x z
lead_more h zero x y z l m = (y, l, m)
lead_more h (suc n) x y z l m = (l.0, l.1, lead_more h n l.0 y z l.2 m)

abbrev AllLead : Fields → List Utf8 → Utf8 → Type 0
AllLead h [] key = Unit {0}
AllLead h (x ∷ xs) key = ((n : ℕ) × LeadsIn h n x key) × AllLead h xs key

all_more : (h : Fields) (xs : List Utf8) (y z : Utf8) → AllLead h xs y → NameLeadsTo h y z → AllLead h xs z
all_more h [] y z l m = tt
all_more h (x ∷ xs) y z l m = ((suc l.0.0, lead_more h l.0.0 x y z l.0.1 m), all_more h xs y z l.1 m)

-- the name is new, or leads back to itself
new_or_back : (h : Fields) (xs : List Utf8) (key : Utf8) → AllLead h xs key → IsNew key xs ⊎ LeadsBack h key
new_or_back h [] key l = inl tt
new_or_back h (x ∷ xs) key l = by_case (bytes_eq key x) refl (new_or_back h xs key l.1) where
  by_case : (b : Bool) → bytes_eq key x ≡ b → IsNew key xs ⊎ LeadsBack h key → ((bytes_eq key x ≡ false) × IsNew key xs) ⊎ LeadsBack h key
  by_case true same rest = inr (l.0.0, subst (λ y. LeadsIn h l.0.0 y key) (sym (same_bytes key x same)) l.0.1)
  by_case false same (inl new) = inl (same, new)
  by_case false same (inr back) = inr back

leads_or : (P : Utf8 → Type 0) (Q : Type 0) (f : Form) → ((key : Utf8) → LeadsTo f key → P key ⊎ Q) → Leads P f ⊎ Q
leads_or P Q (reference name) g = g name refl
leads_or P Q (optional f) g = leads_or P Q f g
leads_or P Q (lossy f) g = leads_or P Q f g
leads_or P Q (human_readable f) g = leads_or P Q f g
leads_or P Q (by_mode r c) g = both (leads_or P Q r (λ key l. g key (inl l))) (leads_or P Q c (λ key l. g key (inr l))) where
  both : Leads P r ⊎ Q → Leads P c ⊎ Q → (Leads P r × Leads P c) ⊎ Q
  both (inl a) (inl b) = inl (a, b)
  both (inl a) (inr q) = inr q
  both (inr q) y = inr q
leads_or P Q (newtype name f) g = leads_or P Q f g
leads_or P Q f g = inl tt

found_or : (P : Utf8 → Type 0) (Q : Type 0) (o : Option Form) → ((key : Utf8) → FoundLeadsTo o key → P key ⊎ Q) → FoundLeads P o ⊎ Q
found_or P Q None g = inl tt
found_or P Q (Some f) g = leads_or P Q f g

-- a name that leads on is one of those defined
leads_has : (h : Fields) (from to : Utf8) → NameLeadsTo h from to → has h from ≡ true
leads_has no_fields from to l = absurd l
leads_has (field name f h) from to l = by_case (bytes_eq name from) (leads_has h from to) l where
  by_case : (b : Bool) → (NameLeadsTo h from to → has h from ≡ true) → FoundLeadsTo (cond b (Some f) (definition h from)) to → cond b true (has h from) ≡ true
  by_case true rest x = refl
  by_case false rest x = rest x

abbrev pub IsUnguarded : Fields → Type 0
IsUnguarded h = (name : Utf8) × LeadsBack h name

-- from this name chains end, after these names, or some name leads back
ends_or_back : (h : Fields) (k : ℕ) (xs : List Utf8) (key : Utf8) → AllLead h xs key → AreNew xs → AllHas h xs → suc (count h) ≤ length xs + k → Ends h k key ⊎ IsUnguarded h
ends_or_back h zero xs key l n a b = let few = pigeons h xs n a in absurd (omega arith)
ends_or_back h (suc k) xs key l n a b =
    elim (new_or_back h xs key l) [
      | inl new ↦
          found_or (Ends h k) (IsUnguarded h) (definition h key)
          (λ to m. ends_or_back h k (key ∷ xs) to ((zero, m), all_more h xs key to l m) (new, n) (leads_has h key to m, a) (omega arith))
      | inr back ↦ inr (key, back)
    ]

end_or_back : (h : Fields) (name : Utf8) → Ends h (suc (count h)) name ⊎ IsUnguarded h
end_or_back h name = ends_or_back h (suc (count h)) [] name tt tt tt (omega arith)

-- ---- the test

leads_if : (p : Utf8 → Bool) (P : Utf8 → Type 0) → ((name : Utf8) → p name ≡ true → P name) → (f : Form) → leading p f ≡ true → Leads P f
leads_if p P h (reference name) e = h name e
leads_if p P h (optional f) e = leads_if p P h f e
leads_if p P h (lossy f) e = leads_if p P h f e
leads_if p P h (human_readable f) e = leads_if p P h f e
leads_if p P h (by_mode r c) e = let both = and_true (leading p r) (leading p c) e in (leads_if p P h r both.0, leads_if p P h c both.1)
leads_if p P h (newtype name f) e = leads_if p P h f e
leads_if p P h f e = tt

found_if : (p : Utf8 → Bool) (P : Utf8 → Type 0) → ((name : Utf8) → p name ≡ true → P name) → (o : Option Form) → found_leading p o ≡ true → FoundLeads P o
found_if p P h None e = tt
found_if p P h (Some f) e = leads_if p P h f e

ends_if : (h : Fields) (n : ℕ) (key : Utf8) → ends h n key ≡ true → Ends h n key
ends_if h zero key e = absurd (let g : false ≡ true = e in cc)
ends_if h (suc n) key e = found_if (ends h n) (Ends h n) (λ name q. ends_if h n name q) (definition h key) e

if_leads : (p : Utf8 → Bool) (P : Utf8 → Type 0) → ((name : Utf8) → P name → p name ≡ true) → (f : Form) → Leads P f → leading p f ≡ true
if_leads p P h (reference name) l = h name l
if_leads p P h (optional f) l = if_leads p P h f l
if_leads p P h (lossy f) l = if_leads p P h f l
if_leads p P h (human_readable f) l = if_leads p P h f l
if_leads p P h (by_mode r c) l = (λ i. if_leads p P h r l.0 i && if_leads p P h c l.1 i)
if_leads p P h (newtype name f) l = if_leads p P h f l
if_leads p P h f l = refl

if_found : (p : Utf8 → Bool) (P : Utf8 → Type 0) → ((name : Utf8) → P name → p name ≡ true) → (o : Option Form) → FoundLeads P o → found_leading p o ≡ true
if_found p P h None l = refl
if_found p P h (Some f) l = if_leads p P h f l

if_ends : (h : Fields) (n : ℕ) (key : Utf8) → Ends h n key → ends h n key ≡ true
if_ends h zero key e = absurd e
if_ends h (suc n) key e = if_found (ends h n) (Ends h n) (λ name q. if_ends h n name q) (definition h key) e

-- the name is defined, or leads nowhere
ends_from : (h t : Fields) (n : ℕ) (key : Utf8) → all_end h n t ≡ true → has t key ≡ true → ends h n key ≡ true
ends_from h no_fields n key e k = absurd (let g : false ≡ true = k in cc)
ends_from h (field name f t) n key e k =
    let both = and_true (ends h n name) (all_end h n t) e in
    by_case (bytes_eq name key) refl k (ends_from h t n key both.1) where
      by_case : (b : Bool) → bytes_eq name key ≡ b → cond b true (has t key) ≡ true → (has t key ≡ true → ends h n key ≡ true) → ends h n key ≡ true
      by_case true same q rest = ap (ends h n) (sym (same_bytes name key same)) ∙ (and_true (ends h n name) (all_end h n t) e).0
      by_case false same q rest = rest q

no_definition : (h : Fields) (key : Utf8) → has h key ≡ false → definition h key ≡ None
no_definition no_fields key e = refl
no_definition (field name f h) key e = by_case (bytes_eq name key) e (no_definition h key) where
  by_case : (b : Bool) → cond b true (has h key) ≡ false → (has h key ≡ false → definition h key ≡ None) → cond b (Some f) (definition h key) ≡ None
  by_case true q rest = absurd (let g : true ≡ false = q in cc)
  by_case false q rest = rest q

-- where the test holds, the definitions are guarded
pub guarded_if : (h : Fields) → is_guarded h ≡ true → IsGuarded h
guarded_if h e key = by_case (has h key) refl where
  by_case : (b : Bool) → has h key ≡ b → Ends h (suc (count h)) key
  by_case true k = ends_if h (suc (count h)) key (ends_from h h (suc (count h)) key e k)
  by_case false k = subst (FoundLeads (Ends h (count h))) (sym (no_definition h key k)) tt

-- and no name leads back
pub guarded_never : (h : Fields) → is_guarded h ≡ true → (name : Utf8) → LeadsBack h name → ⊥
guarded_never h e = guarded_back h (guarded_if h e)

all_or_back : (h t : Fields) → (all_end h (suc (count h)) t ≡ true) ⊎ IsUnguarded h
all_or_back h no_fields = inl refl
all_or_back h (field name f t) = both (end_or_back h name) (all_or_back h t) where
  both : Ends h (suc (count h)) name ⊎ IsUnguarded h → (all_end h (suc (count h)) t ≡ true) ⊎ IsUnguarded h → ((ends h (suc (count h)) name && all_end h (suc (count h)) t) ≡ true) ⊎ IsUnguarded h
  both (inl a) (inl b) = inl (λ i. if_ends h (suc (count h)) name a i && b i)
  both (inl a) (inr back) = inr back
  both (inr back) y = inr back

-- where it does not hold, some name leads back
pub unguarded_back : (h : Fields) → is_guarded h ≡ false → IsUnguarded h
unguarded_back h e = elim (all_or_back h h) [ inl all ↦ absurd (let g : true ≡ false = sym all ∙ e in cc) | inr back ↦ back ]

-- ---- as it runs

-- with one definition more
pub all_end-push : (h t : Fields) (n : ℕ) (name : Utf8) (f : Form) → all_end h n t ≡ true → ends h n name ≡ true → all_end h n (joined t (field name f no_fields)) ≡ true
all_end-push h no_fields n name f e k = ap (λ b. b && true) k
all_end-push h (field m g t) n name f e k =
    let both = and_true (ends h n m) (all_end h n t) e in
    λ i. both.0 i && all_end-push h t n name f both.1 k i

-- one name's chain does not end
pub all_end-missed : (h t : Fields) (n : ℕ) (name : Utf8) → has t name ≡ true → ends h n name ≡ false → all_end h n t ≡ false
all_end-missed h t n name k e = by_case (all_end h n t) refl where
  by_case : (b : Bool) → all_end h n t ≡ b → b ≡ false
  by_case false is = refl
  by_case true is = absurd (let g : true ≡ false = sym (ends_from h t n name is k) ∙ e in cc)

pub ends-left : (h : Fields) (n : ℕ) (name : Utf8) → 0 < n → ends h n name ≡ found_leading (ends h (n - 1)) (definition h name)
ends-left h zero name lt = absurd (omega arith)
ends-left h (suc n) name lt = let same : n ≡ suc n - 1 = omega arith in ap (λ k. found_leading (ends h k) (definition h name)) same

-- ---- the definitions of a shape, one after another

pub count_of : (fs : List FieldShape) → count (fields_of fs) ≡ length fs
count_of [] = refl
count_of (f ∷ fs) = ap suc (count_of fs)

has_at : (fs : List FieldShape) (i : ℕ) (d : FieldShape) → i < length fs → has (fields_of fs) (string_bytes (get_or fs i d).name) ≡ true
has_at [] i d lt = absurd (omega arith)
has_at (f ∷ fs) zero d lt = cond-true (bytes_eq (string_bytes f.name) (string_bytes f.name)) _ _ ((bytes_eq-Decides (string_bytes f.name) (string_bytes f.name)).1 refl)
has_at (f ∷ fs) (suc i) d lt = later (bytes_eq (string_bytes f.name) (string_bytes (get_or fs i d).name)) (has_at fs i d (omega arith)) where
  later : (b : Bool) → has (fields_of fs) (string_bytes (get_or fs i d).name) ≡ true → cond b true (has (fields_of fs) (string_bytes (get_or fs i d).name)) ≡ true
  later true k = refl
  later false k = k

-- a loop comes to one more definition, whose chain ends
pub all_end-more : (h : Fields) (n : ℕ) (fs : List FieldShape) (i : ℕ) (f : FieldShape) → i < length fs → f ≡ get_or fs i f → all_end h n (fields_of (take i fs)) ≡ true → ends h n (string_bytes f.name) ≡ true
    → all_end h n (fields_of (take (i + 1) fs)) ≡ true
all_end-more h n fs i f lt is so_far e =
    let d = get_or fs i f in
    ap (all_end h n) (fields_of-take_more fs i f lt)
    ∙ all_end-push h (fields_of (take i fs)) n (string_bytes d.name) d.shape so_far (ap (λ (g : FieldShape). ends h n (string_bytes g.name)) (sym is) ∙ e)

-- or does not
pub all_end-not : (h : Fields) (n : ℕ) (fs : List FieldShape) (i : ℕ) (f : FieldShape) → i < length fs → f ≡ get_or fs i f → ends h n (string_bytes f.name) ≡ false → all_end h n (fields_of fs) ≡ false
all_end-not h n fs i f lt is e =
    all_end-missed h (fields_of fs) n (string_bytes f.name) (ap (λ (g : FieldShape). has (fields_of fs) (string_bytes g.name)) is ∙ has_at fs i f lt) e

-- it has come to the end
pub all_end-all : (n : ℕ) (fs : List FieldShape) (i : ℕ) → length fs ≤ i → n ≡ length fs + 1 → all_end (fields_of fs) n (fields_of (take i fs)) ≡ true → is_guarded (fields_of fs) ≡ true
all_end-all n fs i le is so_far =
    let most : suc (count (fields_of fs)) ≡ n = ap suc (count_of fs) ∙ omega (arith, is) in
    ap (λ k. all_end (fields_of fs) k (fields_of fs)) most ∙ ap (λ gs. all_end (fields_of fs) n (fields_of gs)) (sym (take_all i fs le)) ∙ so_far

pub all_end-false : (n : ℕ) (fs : List FieldShape) → n ≡ length fs + 1 → all_end (fields_of fs) n (fields_of fs) ≡ false → is_guarded (fields_of fs) ≡ false
all_end-false n fs is e =
    let most : suc (count (fields_of fs)) ≡ n = ap suc (count_of fs) ∙ omega (arith, is) in
    ap (λ k. all_end (fields_of fs) k (fields_of fs)) most ∙ e

-- ---- finding a definition

definition-joined : (a b : Fields) (key : Utf8) → definition a key ≡ None → definition (joined a b) key ≡ definition b key
definition-joined no_fields b key e = refl
definition-joined (field name f h) b key e = by_case (bytes_eq name key) e (definition-joined h b key) where
  by_case : (t : Bool) → cond t (Some f) (definition h key) ≡ None → (definition h key ≡ None → definition (joined h b) key ≡ definition b key) → cond t (Some f) (definition (joined h b) key) ≡ definition b key
  by_case true q rest = absurd cc
  by_case false q rest = rest q

-- the first ones do not have the name, and this one does
pub definition_found : (fs : List FieldShape) (i : ℕ) (f : FieldShape) (key : Utf8) → i < length fs → f ≡ get_or fs i f → definition (fields_of (take i fs)) key ≡ None → bytes_eq (string_bytes f.name) key ≡ true → definition (fields_of fs) key ≡ Some f.shape
definition_found fs i f key lt is so_far e =
    let d = get_or fs i f in
    let apart : fields_of fs ≡ joined (fields_of (take i fs)) (fields_of (drop i fs)) = ap fields_of (sym (take-append-drop i fs)) ∙ fields_of-append (take i fs) (drop i fs) in
    ap (λ h. definition h key) apart ∙ definition-joined (fields_of (take i fs)) (fields_of (drop i fs)) key so_far
    ∙ ap (λ gs. definition (fields_of gs) key) (drop-cons fs i f lt)
    ∙ ap (λ (g : FieldShape). cond (bytes_eq (string_bytes g.name) key) (Some g.shape) (definition (fields_of (drop (suc i) fs)) key)) (sym is)
    ∙ cond-true (bytes_eq (string_bytes f.name) key) _ _ e

pub definition_missed : (fs : List FieldShape) (i : ℕ) (f : FieldShape) (key : Utf8) → i < length fs → f ≡ get_or fs i f → definition (fields_of (take i fs)) key ≡ None → bytes_eq (string_bytes f.name) key ≡ false → definition (fields_of (take (i + 1) fs)) key ≡ None
definition_missed fs i f key lt is so_far e =
    let d = get_or fs i f in
    ap (λ h. definition h key) (fields_of-take_more fs i f lt)
    ∙ definition-joined (fields_of (take i fs)) (field (string_bytes d.name) d.shape no_fields) key so_far
    ∙ cond-false (bytes_eq (string_bytes d.name) key) _ _ (ap (λ (g : FieldShape). bytes_eq (string_bytes g.name) key) (sym is) ∙ e)

pub definition_none : (fs : List FieldShape) (i : ℕ) (key : Utf8) → length fs ≤ i → definition (fields_of (take i fs)) key ≡ None → definition (fields_of fs) key ≡ None
definition_none fs i key le so_far = ap (λ gs. definition (fields_of gs) key) (sym (take_all i fs le)) ∙ so_far

-- a definition is smaller than all of them
pub definition_smaller : (h : Fields) (key : Utf8) (f : Form) → definition h key ≡ Some f → nodes f ≤ fields_nodes h
definition_smaller no_fields key f e = absurd cc
definition_smaller (field name g h) key f e = by_case (bytes_eq name key) e (definition_smaller h key f) where
  by_case : (t : Bool) → cond t (Some g) (definition h key) ≡ Some f → (definition h key ≡ Some f → nodes f ≤ fields_nodes h) → nodes f ≤ nodes g + fields_nodes h + 1
  by_case true q rest = let same : g ≡ f = cc in omega (arith, ap nodes same)
  by_case false q rest = omega (arith, rest q)

-- one name fewer may follow
pub one_fewer : (n k : ℕ) → 0 < n → (n - 1) * k + k ≡ n * k
one_fewer zero k lt = absurd (omega arith)
one_fewer (suc n) k lt = let less : suc n - 1 ≡ n = omega arith in ap (λ m. m * k + k) less ∙ sym (suc-mul n k)
