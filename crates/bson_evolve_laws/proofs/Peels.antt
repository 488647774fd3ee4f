-- What a form is, seen through, by what it is made of: where the definitions around it are guarded, what holds of each step holds of all of them.
use Rattle.std.proofs.Common.{◌≡◌, ℕ, zero, suc, Bool, true, false, cond, Option, Some, None, refl, ap, sym, subst, ◌∙◌}
use Rattle.std.specs.Prelude.{◌||◌}
use Rattle.std.specs.Str.{bytes_eq}
use Rattle.bson_kinds.specs.Text.{Utf8}
use Rattle.bson_kinds.proofs.Outcomes.{some_is}
use Rattle.bson_shape.specs.Form.{Form, optional, lossy, human_readable, by_mode, newtype, reference, definitions, Fields, no_fields, field}
use Rattle.bson_shape.specs.Guarded.{count, definition, Leads, FoundLeads, Ends, IsGuarded}
use Rattle.bson_shape.specs.Makers.{has_field, IsShape, AreShapes}
use Rattle.bson_shape.proofs.Chains.{guarded_if}
use Rattle.bson_laws.specs.Plain.{IsPlainIn, AreDefinitionsPlainIn}
use Rattle.bson_laws.specs.Recursive.{IsTable}
use Rattle.bson_laws.specs.Unrolled.{repeated}
use Rattle.bson_laws.proofs.Fitted.{unlike_swap}
use Rattle.bson_evolve_laws.specs.Placed.{Placed, placed, undefined, seen, seen_name, names_in, peel}
use Rattle.bson_kinds.proofs.Apart.{no_some}

-- a form that is seen through already: no newtype, no mark, no definitions, and no reference
abbrev pub IsPeeled : Form → Type 0
IsPeeled (newtype name s) = ⊥
IsPeeled (lossy s) = ⊥
IsPeeled (definitions h s) = ⊥
IsPeeled (reference name) = ⊥
IsPeeled s = Unit {0}

-- the definitions around a form: guarded, of plain shapes
pub record IsAround (h : Fields) : Type 0 where
  pub table : IsTable h
  pub plain : AreDefinitionsPlainIn h h

-- a part of a plain shape, with the definitions around it
pub record IsPart (h : Fields) (s : Form) : Type 0 where
  pub around : IsAround h
  pub shape : IsShape s
  pub plain : IsPlainIn h s

-- ---- what a form leads to

leads_map : (P Q : Utf8 → Type 0) → ((n : Utf8) → P n → Q n) → (s : Form) → Leads P s → Leads Q s
leads_map P Q f (reference n) l = f n l
leads_map P Q f (optional s) l = leads_map P Q f s l
leads_map P Q f (lossy s) l = leads_map P Q f s l
leads_map P Q f (human_readable s) l = leads_map P Q f s l
leads_map P Q f (by_mode r c) l = (leads_map P Q f r l.0, leads_map P Q f c l.1)
leads_map P Q f (newtype n s) l = leads_map P Q f s l
leads_map P Q f s l = tt

pub found_leads_map : (P Q : Utf8 → Type 0) → ((n : Utf8) → P n → Q n) → (o : Option Form) → FoundLeads P o → FoundLeads Q o
found_leads_map P Q f None l = tt
found_leads_map P Q f (Some s) l = leads_map P Q f s l

pub leads_all : (P : Utf8 → Type 0) → ((n : Utf8) → P n) → (s : Form) → Leads P s
leads_all P f (reference n) = f n
leads_all P f (optional s) = leads_all P f s
leads_all P f (lossy s) = leads_all P f s
leads_all P f (human_readable s) = leads_all P f s
leads_all P f (by_mode r c) = (leads_all P f r, leads_all P f c)
leads_all P f (newtype n s) = leads_all P f s
leads_all P f s = tt

-- ---- names, in as many steps as their chains have

-- what a step makes of a name depends on the names that its definition leads to alone; so one step more changes nothing where chains have come to their end
module _ {A : Type 0} (h : Fields) (step : (Utf8 → A) → Utf8 → A)
    (local : (f g : Utf8 → A) (key : Utf8) → FoundLeads (λ n. f n ≡ g n) (definition h key) → step f key ≡ step g key) where
  ends_same : (k : ℕ) (f g : Utf8 → A) (key : Utf8) → Ends h k key → repeated k step f key ≡ repeated k step g key
  ends_same zero f g key e = absurd e
  ends_same (suc k) f g key e =
      local (repeated k step f) (repeated k step g) key
      (found_leads_map (Ends h k) (λ n. repeated k step f n ≡ repeated k step g n) (λ n l. ends_same k f g n l) (definition h key) e)

  shifted : (k : ℕ) (f : Utf8 → A) → repeated k step (step f) ≡ step (repeated k step f)
  shifted zero f = refl
  shifted (suc k) f = ap step (shifted k f)

  pub fixed : IsGuarded h → (f : Utf8 → A) (key : Utf8) → step (repeated (suc (count h)) step f) key ≡ repeated (suc (count h)) step f key
  fixed g f key = sym (ap (λ q. q key) (shifted (suc (count h)) f)) ∙ ends_same (suc (count h)) (step f) f key (g key)

-- ---- induction over what a form is seen through

-- a name of a list is its first one or one of the others
has_left : (a b : Bool) → (a || b) ≡ true → a ≡ false → b ≡ true
has_left true b e f = absurd (let both : true ≡ false = f in cc)
has_left false b e f = e

pub guarded_around : (h : Fields) → IsTable h → IsGuarded h
guarded_around h t = guarded_if h t.guarded

pub inside : (h k : Fields) (s : Form) → IsPart h (definitions k s) → IsPart k s
inside h k s p = record { around = record { table = record { guarded = p.shape.0.guarded; shapes = p.shape.1 }; plain = p.plain.0 }; shape = p.shape.2; plain = p.plain.1 }

pub in_newtype : (h : Fields) (n : Utf8) (s : Form) → IsPart h (newtype n s) → IsPart h s
in_newtype h n s p = record { around = p.around; shape = p.shape.1; plain = p.plain.1 }

pub in_lossy : (h : Fields) (s : Form) → IsPart h (lossy s) → IsPart h s
in_lossy h s p = record { around = p.around; shape = p.shape.1; plain = p.plain.1 }

-- a name that is asked for, and the names of the definitions that are left
abbrev AsksIn : Fields → Utf8 → Type 0
AsksIn h n = IsPart h (reference n)

module _ (C : Fields → Form → Placed → Type 0)
    (stays : (h : Fields) (s : Form) → IsPeeled s → C h s (placed h s))
    (by_newtype : (h : Fields) (n : Utf8) (s : Form) (q : Placed) → IsPart h (newtype n s) → C h s q → C h (newtype n s) q)
    (by_lossy : (h : Fields) (s : Form) (q : Placed) → IsPart h (lossy s) → C h s q → C h (lossy s) q)
    (by_definitions : (h k : Fields) (s : Form) (q : Placed) → IsPart h (definitions k s) → C k s q → C h (definitions k s) q)
    (by_reference : (h : Fields) (n : Utf8) (s : Form) (q : Placed) → IsPart h (reference n) → definition h n ≡ Some s → C h s q → C h (reference n) q) where
  -- what each of these names means is as it should be
  abbrev AreMeant : Fields → (Utf8 → Type 0) → (Utf8 → Placed) → Type 0
  AreMeant h P means = (n : Utf8) → P n → AsksIn h n → C h (reference n) (means n)

  -- in so many steps
  by_fuel : (k : Fields) → ((means : Utf8 → Placed) (P : Utf8 → Type 0) → AreMeant k P means → (n : Utf8) → FoundLeads P (definition k n) → AsksIn k n → C k (reference n) (seen_name means k k n))
      → (fuel : ℕ) (n : Utf8) → Ends k fuel n → AsksIn k n → C k (reference n) (repeated fuel (λ means name. seen_name means k k name) (undefined k) n)
  by_fuel k each zero n e a = absurd e
  by_fuel k each (suc fuel) n e a = each (repeated fuel (λ means name. seen_name means k k name) (undefined k)) (Ends k fuel) (λ m l b. by_fuel k each fuel m l b) n e a

  mutual
    seen_from : (means : Utf8 → Placed) (h : Fields) (P : Utf8 → Type 0) → AreMeant h P means → (s : Form) → IsPart h s → Leads P s → C h s (seen means h s)
    seen_from means h P ok (newtype n s) p l = by_newtype h n s (seen means h s) p (seen_from means h P ok s (in_newtype h n s p) l)
    seen_from means h P ok (lossy s) p l = by_lossy h s (seen means h s) p (seen_from means h P ok s (in_lossy h s p) l)
    seen_from means h P ok (reference n) p l = ok n l p
    seen_from means h P ok (definitions k s) p l =
        let q = inside h k s p in
        by_definitions h k s (seen (names_in k) k s) p
        (seen_from (names_in k) k (Ends k (suc (count k)))
        (λ n e a. by_fuel k (λ inner Q ok' m l' b. found_from inner k Q ok' k q.around.table.shapes q.around.plain m b b.plain l' (λ x i. i)) (suc (count k)) n e a) s q
        (leads_all (Ends k (suc (count k))) (guarded_around k q.around.table) s))
    seen_from means h P ok s p l = stays h s tt

    -- the first definition of a name among these, which are definitions of the table
    found_from : (means : Utf8 → Placed) (h : Fields) (P : Utf8 → Type 0) → AreMeant h P means → (rest : Fields) → AreShapes rest → AreDefinitionsPlainIn h rest → (n : Utf8) → AsksIn h n
        → has_field n rest ≡ true → FoundLeads P (definition rest n) → ((x : Form) → definition rest n ≡ Some x → definition h n ≡ Some x) → C h (reference n) (seen_name means h rest n)
    found_from means h P ok no_fields shapes plain n a has l into = absurd (let none : false ≡ true = has in cc)
    found_from means h P ok (field name s rest) shapes plain n a has l into =
        by_case (bytes_eq name n) refl l into (λ k. seen_from means h P ok s (record { around = a.around; shape = shapes.1; plain = plain.0 }) k)
        (λ more k i. found_from means h P ok rest shapes.2 plain.1 n a more k i)
      where
        by_case : (b : Bool) → bytes_eq name n ≡ b → FoundLeads P (cond b (Some s) (definition rest n)) → ((x : Form) → cond b (Some s) (definition rest n) ≡ Some x → definition h n ≡ Some x)
            → (Leads P s → C h s (seen means h s))
            → (has_field n rest ≡ true → FoundLeads P (definition rest n) → ((x : Form) → definition rest n ≡ Some x → definition h n ≡ Some x) → C h (reference n) (seen_name means h rest n))
            → C h (reference n) (cond b (seen means h s) (seen_name means h rest n))
        by_case true is l into here others = by_reference h n s (seen means h s) a (into s refl) (here l)
        by_case false is l into here others = others (has_left (bytes_eq n name) (has_field n rest) has (unlike_swap name n is)) l into

  -- so it is of each part of a plain shape
  pub peeled : (h : Fields) (s : Form) → IsPart h s → C h s (peel (placed h s))
  peeled h s p =
      seen_from (names_in h) h (Ends h (suc (count h)))
      (λ n e a. by_fuel h (λ inner Q ok m l b. found_from inner h Q ok h p.around.table.shapes p.around.plain m b b.plain l (λ x i. i)) (suc (count h)) n e a) s p
      (leads_all (Ends h (suc (count h))) (guarded_around h p.around.table) s)

-- ---- what a form is, seen through, is peeled, and a part of a plain shape

pub peel_is : (h : Fields) (s : Form) → IsPart h s → IsPeeled (peel (placed h s)).form
peel_is = peeled (λ h s q. IsPeeled q.form) (λ h s p. p) (λ h n s q p c. c) (λ h s q p c. c) (λ h k s q p c. c) (λ h n s q p e c. c)

found_shape : (h : Fields) (n : Utf8) (s : Form) → AreShapes h → definition h n ≡ Some s → IsShape s
found_shape no_fields n s a e = absurd (no_some e)
found_shape (field name r h) n s a e = by_case (bytes_eq name n) e (λ i. found_shape h n s a.2 i) where
  by_case : (b : Bool) → cond b (Some r) (definition h n) ≡ Some s → (definition h n ≡ Some s → IsShape s) → IsShape s
  by_case true i others = subst IsShape (some_is r s i) a.1
  by_case false i others = others i

found_plain : (around h : Fields) (n : Utf8) (s : Form) → AreDefinitionsPlainIn around h → definition h n ≡ Some s → IsPlainIn around s
found_plain around no_fields n s a e = absurd (no_some e)
found_plain around (field name r h) n s a e = by_case (bytes_eq name n) e (λ i. found_plain around h n s a.1 i) where
  by_case : (b : Bool) → cond b (Some r) (definition h n) ≡ Some s → (definition h n ≡ Some s → IsPlainIn around s) → IsPlainIn around s
  by_case true i others = subst (IsPlainIn around) (some_is r s i) a.0
  by_case false i others = others i

pub defined : (h : Fields) (n : Utf8) (s : Form) → IsPart h (reference n) → definition h n ≡ Some s → IsPart h s
defined h n s p e = record { around = p.around; shape = found_shape h n s p.around.table.shapes e; plain = found_plain h h n s p.around.plain e }

pub peel_part : (h : Fields) (s : Form) → IsPart h s → IsPart (peel (placed h s)).around (peel (placed h s)).form
peel_part h s p =
    peeled (λ g x q. IsPart g x → IsPart q.around q.form) (λ g x i k. k) (λ g n x q k c a. c (in_newtype g n x a)) (λ g x q k c a. c (in_lossy g x a)) (λ g k x q i c a. c (inside g k x a))
    (λ g n x q k e c a. c (defined g n x a e)) h s p p

-- ---- the options that a form hides

abbrev mutual
  -- how many options stand before a form that is none, seen through
  hides_by : (Utf8 → ℕ) → Form → ℕ
  hides_by means (optional s) = suc (hides_by means s)
  hides_by means (newtype name s) = hides_by means s
  hides_by means (lossy s) = hides_by means s
  hides_by means (reference name) = means name
  hides_by means (definitions k s) = hides_by (repeated (suc (count k)) (λ inner name. hides_name inner k name) (λ name. 0)) s
  hides_by means s = 0

  hides_name : (Utf8 → ℕ) → (rest : Fields) → Utf8 → ℕ
  hides_name means no_fields key = 0
  hides_name means (field name s rest) key = cond (bytes_eq name key) (hides_by means s) (hides_name means rest key)

abbrev hides_in : Fields → Utf8 → ℕ
hides_in h = repeated (suc (count h)) (λ means name. hides_name means h name) (λ name. 0)

abbrev pub hides : Fields → Form → ℕ
hides h s = hides_by (hides_in h) s

hides_local : (f g : Utf8 → ℕ) (s : Form) → Leads (λ n. f n ≡ g n) s → hides_by f s ≡ hides_by g s
hides_local f g (optional s) l = ap suc (hides_local f g s l)
hides_local f g (newtype n s) l = hides_local f g s l
hides_local f g (lossy s) l = hides_local f g s l
hides_local f g (reference n) l = l
hides_local f g s l = refl

name_local : (rest : Fields) (f g : Utf8 → ℕ) (key : Utf8) → FoundLeads (λ n. f n ≡ g n) (definition rest key) → hides_name f rest key ≡ hides_name g rest key
name_local no_fields f g key l = refl
name_local (field name s rest) f g key l = by_case (bytes_eq name key) l (λ k. name_local rest f g key k) where
  by_case : (b : Bool) → FoundLeads (λ n. f n ≡ g n) (cond b (Some s) (definition rest key)) → (FoundLeads (λ n. f n ≡ g n) (definition rest key) → hides_name f rest key ≡ hides_name g rest key)
      → cond b (hides_by f s) (hides_name f rest key) ≡ cond b (hides_by g s) (hides_name g rest key)
  by_case true k others = hides_local f g s k
  by_case false k others = others k

found_hides : (rest : Fields) (f : Utf8 → ℕ) (key : Utf8) (s : Form) → definition rest key ≡ Some s → hides_name f rest key ≡ hides_by f s
found_hides no_fields f key s e = absurd (no_some e)
found_hides (field name r rest) f key s e = by_case (bytes_eq name key) e (λ i. found_hides rest f key s i) where
  by_case : (b : Bool) → cond b (Some r) (definition rest key) ≡ Some s → (definition rest key ≡ Some s → hides_name f rest key ≡ hides_by f s) → cond b (hides_by f r) (hides_name f rest key) ≡ hides_by f s
  by_case true i others = ap (hides_by f) (some_is r s i)
  by_case false i others = others i

-- a reference hides as many as its definition
reference_hides : (h : Fields) (n : Utf8) (s : Form) → IsTable h → definition h n ≡ Some s → hides h (reference n) ≡ hides h s
reference_hides h n s t e =
    sym (fixed h (λ means name. hides_name means h name) (name_local h) (guarded_around h t) (λ name. 0) n) ∙ found_hides h (hides_in h) n s e

pub peel_hides : (h : Fields) (s : Form) → IsPart h s → hides (peel (placed h s)).around (peel (placed h s)).form ≡ hides h s
peel_hides =
    peeled (λ h s q. hides q.around q.form ≡ hides h s) (λ h s p. refl) (λ h n s q p c. c) (λ h s q p c. c) (λ h k s q p c. c) (λ h n s q p e c. c ∙ sym (reference_hides h n s p.around.table e))
