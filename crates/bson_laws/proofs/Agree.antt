-- Forms that are unrolled farther than to a depth agree down to it.
use Rattle.std.proofs.Common.{◌≡◌, ℕ, zero, suc, ◌≤◌, Bool, true, false, cond, Option, Some, None, refl, ap, arith}
use Rattle.std.specs.Str.{bytes_eq}
use Rattle.bson_kinds.specs.Text.{Utf8}
use Rattle.bson_shape.specs.Form.{Form, leaf, optional, lossy, human_readable, by_mode, sequence, newtype, unit_structure, map, tuple, tuple_structure, structure, enumeration, reference, definitions, Fields, no_fields, field, Parts, no_parts, part, Content, unit_content, newtype_content, tuple_content, struct_content, Variants, no_variants, variant}
use Rattle.bson_shape.specs.Guarded.{count, definition, Leads, FoundLeads, Ends, IsGuarded}
use Rattle.bson_shape.specs.Makers.{IsShape, AreShapes, AreParts, AreVariants, IsContent}
use Rattle.bson_shape.proofs.Chains.{guarded_if}
use Rattle.bson_laws.specs.Unrolled.{Meanings, undefined, repeated, unrolled, unrolled_name, unrolled_fields, unrolled_parts, unrolled_variants, unrolled_content, step, names_in, in_table}
use Rattle.bson_laws.proofs.Cut.{cut, cut_fields, cut_parts, cut_variants, cut_content}

-- two meanings agree at a name, down to a depth
abbrev pub AgreeAt : Meanings → Meanings → ℕ → Utf8 → Type 0
AgreeAt g k d name = cut (g name) d ≡ cut (k name) d

-- two meanings agree at all names, above a depth
abbrev pub AgreeAbove : Meanings → Meanings → ℕ → Type 0
AgreeAbove g k d = (e : ℕ) → suc e ≤ d → (name : Utf8) → AgreeAt g k e name

-- ---- what names lead to

leads_all : (P : Utf8 → Type 0) → ((name : Utf8) → P name) → (s : Form) → Leads P s
leads_all P h (reference name) = h name
leads_all P h (optional s) = leads_all P h s
leads_all P h (lossy s) = leads_all P h s
leads_all P h (human_readable s) = leads_all P h s
leads_all P h (by_mode r c) = (leads_all P h r, leads_all P h c)
leads_all P h (newtype name s) = leads_all P h s
leads_all P h s = tt

leads_map : (P Q : Utf8 → Type 0) → ((name : Utf8) → P name → Q name) → (s : Form) → Leads P s → Leads Q s
leads_map P Q h (reference name) l = h name l
leads_map P Q h (optional s) l = leads_map P Q h s l
leads_map P Q h (lossy s) l = leads_map P Q h s l
leads_map P Q h (human_readable s) l = leads_map P Q h s l
leads_map P Q h (by_mode r c) l = (leads_map P Q h r l.0, leads_map P Q h c l.1)
leads_map P Q h (newtype name s) l = leads_map P Q h s l
leads_map P Q h s l = tt

found_all : (P : Utf8 → Type 0) → ((name : Utf8) → P name) → (o : Option Form) → FoundLeads P o
found_all P h None = tt
found_all P h (Some s) = leads_all P h s

found_map : (P Q : Utf8 → Type 0) → ((name : Utf8) → P name → Q name) → (o : Option Form) → FoundLeads P o → FoundLeads Q o
found_map P Q h None l = tt
found_map P Q h (Some s) l = leads_map P Q h s l

-- ---- rounds

-- Two steps, of which each keeps agreement: at a depth, where what a name leads to agrees there, and all else above.
module _ (m n : ℕ) (h : Fields) (one two : Meanings → Meanings)
    (each : (g k : Meanings) (d : ℕ) → suc d ≤ m → suc d ≤ n → AgreeAbove g k d → (key : Utf8) → FoundLeads (AgreeAt g k d) (definition h key) → AgreeAt (one g) (two k) d key) where
  -- all steps keep what agrees above a depth
  kept : (j : ℕ) (g k : Meanings) (d : ℕ) → d ≤ m → d ≤ n → AgreeAbove g k d → AgreeAbove (repeated j one g) (repeated j two k) d
  kept zero g k d a b c e l key = c e l key
  kept (suc j) g k d a b c e l key =
      let before = kept j g k d a b c in
      each (repeated j one g) (repeated j two k) e (omega arith) (omega arith) (λ i q. before i (omega arith)) key (found_all (AgreeAt (repeated j one g) (repeated j two k) e) (before e l) (definition h key))

  -- after as many steps as a chain has names, its first name agrees one step deeper
  chained : (j : ℕ) (g k : Meanings) (d : ℕ) → suc d ≤ m → suc d ≤ n → AgreeAbove g k d → (key : Utf8) → Ends h j key → AgreeAt (repeated j one g) (repeated j two k) d key
  chained zero g k d a b c key e = absurd e
  chained (suc j) g k d a b c key e =
      each (repeated j one g) (repeated j two k) d a b (kept j g k d (omega arith) (omega arith) c) key
      (found_map (Ends h j) (AgreeAt (repeated j one g) (repeated j two k) d) (λ name q. chained j g k d a b c name q) (definition h key) e)

  -- after some rounds all names agree above as many steps
  pub rounded : IsGuarded h → (i j : ℕ) (g k : Meanings) (d : ℕ) → suc d ≤ m → suc d ≤ n → suc d ≤ i → suc d ≤ j → (key : Utf8)
      → AgreeAt (repeated i (repeated (suc (count h)) one) g) (repeated j (repeated (suc (count h)) two) k) d key
  rounded guarded zero j g k d a b c e key = absurd (omega arith)
  rounded guarded (suc i) zero g k d a b c e key = absurd (omega arith)
  rounded guarded (suc i) (suc j) g k d a b c e key =
      chained (suc (count h)) (repeated i (repeated (suc (count h)) one) g) (repeated j (repeated (suc (count h)) two) k) d a b
      (λ q l name. rounded guarded i j g k q (omega arith) (omega arith) (omega arith) (omega arith) name) key (guarded key)

-- ---- forms

chosen : (b : Bool) (P : Utf8 → Type 0) (s : Form) (o : Option Form) (w x y z : Form) (d : ℕ) → (Leads P s → cut w d ≡ cut y d) → (FoundLeads P o → cut x d ≡ cut z d) → FoundLeads P (cond b (Some s) o) → cut (cond b w x) d ≡ cut (cond b y z) d
chosen true P s o w x y z d f g e = f e
chosen false P s o w x y z d f g e = g e

module _ (m n : ℕ) where
  mutual
    -- forms agree down to a depth where the references that they lead to agree there, and all others above it
    pub agree : (s : Form) (g k : Meanings) (d : ℕ) → IsShape s → suc d ≤ m → suc d ≤ n → AgreeAbove g k d → Leads (AgreeAt g k d) s → cut (unrolled m s g) d ≡ cut (unrolled n s k) d
    agree (leaf l) g k d u a b c h = refl
    agree (optional s) g k d u a b c h = ap optional (agree s g k d u.1 a b c h)
    agree (lossy s) g k d u a b c h = ap lossy (agree s g k d u.1 a b c h)
    agree (human_readable s) g k d u a b c h = ap human_readable (agree s g k d u.1 a b c h)
    agree (by_mode s t) g k d u a b c h = λ i. by_mode (agree s g k d u.1 a b c h.0 i) (agree t g k d u.2 a b c h.1 i)
    agree (newtype name s) g k d u a b c h = ap (newtype name) (agree s g k d u.1 a b c h)
    agree (unit_structure name) g k d u a b c h = refl
    agree (reference name) g k d u a b c h = ap (definitions no_fields) h
    agree (sequence s) g k zero u a b c h = refl
    agree (sequence s) g k (suc d) u a b c h = ap sequence (agree s g k d u.1 (omega arith) (omega arith) (λ e l. c e (omega arith)) (leads_all (AgreeAt g k d) (c d (omega arith)) s))
    agree (map key s) g k zero u a b c h = refl
    agree (map key s) g k (suc d) u a b c h = λ i.
        map (agree key g k 0 u.2 (omega arith) (omega arith) (λ e l. absurd (omega arith)) (leads_all (AgreeAt g k 0) (c 0 (omega arith)) key) i)
        (agree s g k d u.3 (omega arith) (omega arith) (λ e l. c e (omega arith)) (leads_all (AgreeAt g k d) (c d (omega arith)) s) i)
    agree (tuple ps) g k zero u a b c h = refl
    agree (tuple ps) g k (suc d) u a b c h = ap tuple (agree_parts ps g k d u.1 (omega arith) (omega arith) c)
    agree (tuple_structure name ps) g k zero u a b c h = refl
    agree (tuple_structure name ps) g k (suc d) u a b c h = ap (tuple_structure name) (agree_parts ps g k d u.2 (omega arith) (omega arith) c)
    agree (structure v name fs) g k zero u a b c h = refl
    agree (structure v name fs) g k (suc d) u a b c h = ap (structure v name) (agree_fields fs g k d u.1 (omega arith) (omega arith) c)
    agree (enumeration vs) g k d u a b c h = ap enumeration (agree_variants vs g k d u.1 a b c)
    agree (definitions t s) g k d u a b c h =
        let names = rounded m n t (step m t) (step n t) (λ q r e x y z key w. agree_name t q r e u.1 x y z key w) (guarded_if t u.0.guarded) m n undefined undefined in
        ap (definitions no_fields) (agree s (names_in m t) (names_in n t) d u.2 a b (λ e l name. names e (omega arith) (omega arith) (omega arith) (omega arith) name)
        (leads_all (AgreeAt (names_in m t) (names_in n t) d) (names d a b a b) s))

    pub agree_name : (t : Fields) (g k : Meanings) (d : ℕ) → AreShapes t → suc d ≤ m → suc d ≤ n → AgreeAbove g k d → (key : Utf8) → FoundLeads (AgreeAt g k d) (definition t key) → cut (unrolled_name m t g key) d ≡ cut (unrolled_name n t k key) d
    agree_name no_fields g k d u a b c key h = refl
    agree_name (field name s t) g k d u a b c key h =
        chosen (bytes_eq name key) (AgreeAt g k d) s (definition t key) (unrolled m s g) (unrolled_name m t g key) (unrolled n s k) (unrolled_name n t k key) d
        (λ q. agree s g k d u.1 a b c q) (λ q. agree_name t g k d u.2 a b c key q) h

    agree_fields : (fs : Fields) (g k : Meanings) (d : ℕ) → AreShapes fs → suc d ≤ m → suc d ≤ n → AgreeAbove g k (suc d) → cut_fields (unrolled_fields m fs g) d ≡ cut_fields (unrolled_fields n fs k) d
    agree_fields no_fields g k d u a b c = refl
    agree_fields (field name s fs) g k d u a b c = λ i.
        field name (agree s g k d u.1 a b (λ e l. c e (omega arith)) (leads_all (AgreeAt g k d) (c d (omega arith)) s) i) (agree_fields fs g k d u.2 a b c i)

    agree_parts : (ps : Parts) (g k : Meanings) (d : ℕ) → AreParts ps → suc d ≤ m → suc d ≤ n → AgreeAbove g k (suc d) → cut_parts (unrolled_parts m ps g) d ≡ cut_parts (unrolled_parts n ps k) d
    agree_parts no_parts g k d u a b c = refl
    agree_parts (part s ps) g k d u a b c = λ i.
        part (agree s g k d u.0 a b (λ e l. c e (omega arith)) (leads_all (AgreeAt g k d) (c d (omega arith)) s) i) (agree_parts ps g k d u.1 a b c i)

    agree_variants : (vs : Variants) (g k : Meanings) (d : ℕ) → AreVariants vs → suc d ≤ m → suc d ≤ n → AgreeAbove g k d → cut_variants (unrolled_variants m vs g) d ≡ cut_variants (unrolled_variants n vs k) d
    agree_variants no_variants g k d u a b c = refl
    agree_variants (variant name w vs) g k d u a b c = λ i. variant name (agree_content w g k d u.1 a b c i) (agree_variants vs g k d u.2 a b c i)

    agree_content : (w : Content) (g k : Meanings) (d : ℕ) → IsContent w → suc d ≤ m → suc d ≤ n → AgreeAbove g k d → cut_content (unrolled_content m w g) d ≡ cut_content (unrolled_content n w k) d
    agree_content unit_content g k d u a b c = refl
    agree_content (newtype_content s) g k zero u a b c = refl
    agree_content (newtype_content s) g k (suc d) u a b c = ap newtype_content (agree s g k d u (omega arith) (omega arith) (λ e l. c e (omega arith)) (leads_all (AgreeAt g k d) (c d (omega arith)) s))
    agree_content (tuple_content ps) g k zero u a b c = refl
    agree_content (tuple_content ps) g k (suc d) u a b c = ap tuple_content (agree_parts ps g k d u (omega arith) (omega arith) c)
    agree_content (struct_content fs) g k zero u a b c = refl
    agree_content (struct_content fs) g k (suc d) u a b c = ap struct_content (agree_fields fs g k d u.1 (omega arith) (omega arith) c)

  -- what is unrolled farther than to a depth agrees down to it
  pub agree_in : (h : Fields) (s : Form) (d : ℕ) → IsGuarded h → AreShapes h → IsShape s → suc d ≤ m → suc d ≤ n → cut (in_table m h s) d ≡ cut (in_table n h s) d
  agree_in h s d ends all u a b =
      let names = rounded m n h (step m h) (step n h) (λ q r e x y z key w. agree_name h q r e all x y z key w) ends m n undefined undefined in
      agree s (names_in m h) (names_in n h) d u a b (λ e l name. names e (omega arith) (omega arith) (omega arith) (omega arith) name) (leads_all (AgreeAt (names_in m h) (names_in n h) d) (names d a b a b) s)
