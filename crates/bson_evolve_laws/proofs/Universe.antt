-- The parts of a plain shape are closed under what a form is seen through and under the rows; so there are finitely many pairs of parts.
use Rattle.std.proofs.Common.{◌≡◌, ℕ, suc, ◌+◌, ◌*◌, length, Bool, true, false, cond, List, [], ◌∷◌, ◌++◌, suc-mul, Some, inl, inr, refl, ap, sym, subst, ◌∙◌, arith}
use Rattle.std.specs.Prelude.{◌⊎◌}
use Rattle.std.specs.Str.{bytes_eq}
use Rattle.bson_kinds.specs.Text.{Utf8}
use Rattle.bson_kinds.proofs.Outcomes.{some_is}
use Rattle.bson_shape.specs.Form.{Form, leaf, optional, lossy, human_readable, by_mode, sequence, newtype, map, tuple, tuple_structure, structure, enumeration, reference, definitions, Fields, no_fields, field, Parts, no_parts, part, Content, unit_content, newtype_content, tuple_content, struct_content, Variants, no_variants, variant}
use Rattle.bson_shape.specs.Guarded.{definition}
use Rattle.bson_shape.specs.Makers.{AreShapes, AreParts, AreVariants, IsContent}
use Rattle.bson_shape.specs.declared.leaf.Leaf.TheVariants.{Bson}
use Rattle.bson_laws.specs.Plain.{AreFieldsPlainIn, AreDefinitionsPlainIn, ArePartsPlainIn, AreVariantsPlainIn, IsContentPlainIn}
use Rattle.bson_evolve_laws.specs.Compatible.{Meets}
use Rattle.bson_evolve_laws.specs.First.{Pair, pair_of}
use Rattle.bson_evolve_laws.specs.Placed.{Placed, placed, peel}
use Rattle.bson_evolve_laws.specs.Places.{places, field_places, part_places, variant_places, content_places, all_places}
use Rattle.bson_evolve_laws.specs.Rows.{Step, Answer, row}
use Rattle.bson_evolve_laws.proofs.Peels.{IsAround, IsPart, inside, in_newtype, in_lossy, peeled}
use Rattle.bson_evolve_laws.proofs.Searched.{In}
use Rattle.bson_evolve_laws.proofs.StepParts.{PartsAll, FieldsAll, ContentAll, VariantsAll, InnerAll, Named, row_named}
use Rattle.bson_kinds.proofs.Apart.{no_some}

-- ---- lists of places

abbrev pub IsAmong : Placed → List Placed → Type 0
IsAmong p [] = ⊥
IsAmong p (q ∷ qs) = (p ≡ q) ⊎ IsAmong p qs

in_left : (p : Placed) (xs ys : List Placed) → IsAmong p xs → IsAmong p (xs ++ ys)
in_left p [] ys i = absurd i
in_left p (x ∷ xs) ys (inl e) = inl e
in_left p (x ∷ xs) ys (inr i) = inr (in_left p xs ys i)

in_right : (p : Placed) (xs ys : List Placed) → IsAmong p ys → IsAmong p (xs ++ ys)
in_right p [] ys i = i
in_right p (x ∷ xs) ys i = inr (in_right p xs ys i)

-- a form is among its places
head_in : (h : Fields) (s : Form) → IsAmong (placed h s) (places h s)
head_in h (leaf l) = inl refl
head_in h s = inl refl

-- ---- parts of plain shapes

struct_parts : (h fs : Fields) → IsAround h → AreShapes fs → AreFieldsPlainIn h fs → FieldsAll (IsPart h) fs
struct_parts h no_fields a shapes plain = tt
struct_parts h (field name s fs) a shapes plain = (record { around = a; shape = shapes.1; plain = plain.1 }, struct_parts h fs a shapes.2 plain.2)

definition_parts : (h k : Fields) → IsAround h → AreShapes k → AreDefinitionsPlainIn h k → FieldsAll (IsPart h) k
definition_parts h no_fields a shapes plain = tt
definition_parts h (field name s k) a shapes plain = (record { around = a; shape = shapes.1; plain = plain.0 }, definition_parts h k a shapes.2 plain.1)

tuple_parts : (h : Fields) (ps : Parts) → IsAround h → AreParts ps → ArePartsPlainIn h ps → PartsAll (IsPart h) ps
tuple_parts h no_parts a shapes plain = tt
tuple_parts h (part s ps) a shapes plain = (record { around = a; shape = shapes.0; plain = plain.0 }, tuple_parts h ps a shapes.1 plain.1)

content_parts : (h : Fields) (c : Content) → IsAround h → IsContent c → IsContentPlainIn h c → ContentAll (IsPart h) c
content_parts h unit_content a shape plain = tt
content_parts h (newtype_content s) a shape plain = record { around = a; shape = shape; plain = plain }
content_parts h (tuple_content ps) a shape plain = tuple_parts h ps a shape plain
content_parts h (struct_content fs) a shape plain = struct_parts h fs a shape.1 plain

enum_parts : (h : Fields) (vs : Variants) → IsAround h → AreVariants vs → AreVariantsPlainIn h vs → VariantsAll (IsPart h) vs
enum_parts h no_variants a shapes plain = tt
enum_parts h (variant name c vs) a shapes plain = (content_parts h c a shapes.1 plain.1, enum_parts h vs a shapes.2 plain.2)

-- ---- places that are among others

module _ (U : List Placed) where
  abbrev Here : Fields → Form → Type 0
  Here h x = IsAmong (placed h x) U

  abbrev Inside : List Placed → Type 0
  Inside xs = (p : Placed) → IsAmong p xs → IsAmong p U

  abbrev BodyHere : Form → Type 0
  BodyHere (definitions k s) = Here k s
  BodyHere s = Unit {0}

  -- the definitions of a table are there, and `bson` in the table
  pub record IsTableHere (h : Fields) : Type 0 where
    pub bson : Here h (leaf Bson)
    pub defined : FieldsAll (Here h) h

  -- a part of a plain shape, whose parts and definitions are there
  pub record IsHeld (h : Fields) (s : Form) : Type 0 where
    pub is : IsPart h s
    pub table : IsTableHere h
    pub inner : InnerAll (Here h) s
    pub body : BodyHere s

  abbrev pub AllHeld : List Placed → Type 0
  AllHeld [] = Unit {0}
  AllHeld (p ∷ ps) = IsHeld p.around p.form × AllHeld ps

  held_both : (xs ys : List Placed) → AllHeld xs → AllHeld ys → AllHeld (xs ++ ys)
  held_both [] ys a b = b
  held_both (x ∷ xs) ys a b = (a.0, held_both xs ys a.1 b)

  first_inside : (xs ys : List Placed) → Inside (xs ++ ys) → Inside xs
  first_inside xs ys f p i = f p (in_left p xs ys i)

  rest_inside : (xs ys : List Placed) → Inside (xs ++ ys) → Inside ys
  rest_inside xs ys f p i = f p (in_right p xs ys i)

  fields_here : (h fs : Fields) → Inside (field_places h fs) → FieldsAll (Here h) fs
  fields_here h no_fields f = tt
  fields_here h (field name s fs) f = (first_inside (places h s) (field_places h fs) f (placed h s) (head_in h s), fields_here h fs (rest_inside (places h s) (field_places h fs) f))

  parts_here : (h : Fields) (ps : Parts) → Inside (part_places h ps) → PartsAll (Here h) ps
  parts_here h no_parts f = tt
  parts_here h (part s ps) f = (first_inside (places h s) (part_places h ps) f (placed h s) (head_in h s), parts_here h ps (rest_inside (places h s) (part_places h ps) f))

  content_here : (h : Fields) (c : Content) → Inside (content_places h c) → ContentAll (Here h) c
  content_here h unit_content f = tt
  content_here h (newtype_content s) f = f (placed h s) (head_in h s)
  content_here h (tuple_content ps) f = parts_here h ps f
  content_here h (struct_content fs) f = fields_here h fs f

  variants_here : (h : Fields) (vs : Variants) → Inside (variant_places h vs) → VariantsAll (Here h) vs
  variants_here h no_variants f = tt
  variants_here h (variant name c vs) f =
      (content_here h c (first_inside (content_places h c) (variant_places h vs) f), variants_here h vs (rest_inside (content_places h c) (variant_places h vs) f))

  mutual
    places_held : (h : Fields) (s : Form) → IsPart h s → IsTableHere h → Inside (places h s) → AllHeld (places h s)
    places_held h (optional s) p t f =
        (record { is = p; table = t; inner = f (placed h s) (inr (head_in h s)); body = tt }, places_held h s (record { around = p.around; shape = p.shape.1; plain = p.plain }) t (λ q i. f q (inr i)))
    places_held h (lossy s) p t f = (record { is = p; table = t; inner = f (placed h s) (inr (head_in h s)); body = tt }, places_held h s (in_lossy h s p) t (λ q i. f q (inr i)))
    places_held h (human_readable s) p t f = absurd p.plain
    places_held h (by_mode r c) p t f = absurd p.plain
    places_held h (sequence s) p t f =
        (record { is = p; table = t; inner = f (placed h s) (inr (head_in h s)); body = tt }, places_held h s (record { around = p.around; shape = p.shape.1; plain = p.plain }) t (λ q i. f q (inr i)))
    places_held h (map k s) p t f =
        (record { is = p; table = t; inner = f (placed h s) (inr (head_in h s)); body = tt }, places_held h s (record { around = p.around; shape = p.shape.3; plain = p.plain.2 }) t (λ q i. f q (inr i)))
    places_held h (tuple ps) p t f =
        (record { is = p; table = t; inner = parts_here h ps (λ q i. f q (inr i)); body = tt }, parts_held h ps (tuple_parts h ps p.around p.shape.1 p.plain) t (λ q i. f q (inr i)))
    places_held h (tuple_structure n ps) p t f =
        (record { is = p; table = t; inner = parts_here h ps (λ q i. f q (inr i)); body = tt }, parts_held h ps (tuple_parts h ps p.around p.shape.2 p.plain) t (λ q i. f q (inr i)))
    places_held h (newtype n s) p t f = (record { is = p; table = t; inner = f (placed h s) (inr (head_in h s)); body = tt }, places_held h s (in_newtype h n s p) t (λ q i. f q (inr i)))
    places_held h (structure u n fs) p t f =
        (record { is = p; table = t; inner = fields_here h fs (λ q i. f q (inr i)); body = tt }, fields_held h fs (struct_parts h fs p.around p.shape.1 p.plain.1) t (λ q i. f q (inr i)))
    places_held h (enumeration vs) p t f =
        (record { is = p; table = t; inner = variants_here h vs (λ q i. f q (inr i)); body = tt }, variants_held h vs (enum_parts h vs p.around p.shape.1 p.plain) t (λ q i. f q (inr i)))
    places_held h (definitions k s) p t f =
        let q = inside h k s p in
        let rest : Inside (field_places k k ++ places k s) = λ r i. f r (inr (inr i)) in
        let first = first_inside (field_places k k) (places k s) rest in
        let last = rest_inside (field_places k k) (places k s) rest in
        let own : IsTableHere k = record { bson = f (placed k (leaf Bson)) (inr (inl refl)); defined = fields_here k k first } in (
          record { is = p; table = t; inner = tt; body = last (placed k s) (head_in k s) },
          (
            record { is = record { around = q.around; shape = tt; plain = tt }; table = own; inner = tt; body = tt },
            held_both (field_places k k) (places k s) (fields_held k k (definition_parts k k q.around q.around.table.shapes q.around.plain) own first) (places_held k s q own last),
          ),
        )
    places_held h s p t f = (record { is = p; table = t; inner = tt; body = tt }, tt)

    fields_held : (h fs : Fields) → FieldsAll (IsPart h) fs → IsTableHere h → Inside (field_places h fs) → AllHeld (field_places h fs)
    fields_held h no_fields p t f = tt
    fields_held h (field name s fs) p t f =
        held_both (places h s) (field_places h fs) (places_held h s p.0 t (first_inside (places h s) (field_places h fs) f)) (fields_held h fs p.1 t (rest_inside (places h s) (field_places h fs) f))

    parts_held : (h : Fields) (ps : Parts) → PartsAll (IsPart h) ps → IsTableHere h → Inside (part_places h ps) → AllHeld (part_places h ps)
    parts_held h no_parts p t f = tt
    parts_held h (part s ps) p t f =
        held_both (places h s) (part_places h ps) (places_held h s p.0 t (first_inside (places h s) (part_places h ps) f)) (parts_held h ps p.1 t (rest_inside (places h s) (part_places h ps) f))

    variants_held : (h : Fields) (vs : Variants) → VariantsAll (IsPart h) vs → IsTableHere h → Inside (variant_places h vs) → AllHeld (variant_places h vs)
    variants_held h no_variants p t f = tt
    variants_held h (variant name c vs) p t f =
        held_both (content_places h c) (variant_places h vs) (content_held h c p.0 t (first_inside (content_places h c) (variant_places h vs) f))
        (variants_held h vs p.1 t (rest_inside (content_places h c) (variant_places h vs) f))

    content_held : (h : Fields) (c : Content) → ContentAll (IsPart h) c → IsTableHere h → Inside (content_places h c) → AllHeld (content_places h c)
    content_held h unit_content p t f = tt
    content_held h (newtype_content s) p t f = places_held h s p t f
    content_held h (tuple_content ps) p t f = parts_held h ps p t f
    content_held h (struct_content fs) p t f = fields_held h fs p t f

  held_at : (xs : List Placed) (p : Placed) → AllHeld xs → IsAmong p xs → IsHeld p.around p.form
  held_at [] p a i = absurd i
  held_at (x ∷ xs) p a (inl e) = subst (λ q. IsHeld q.around q.form) (sym e) a.0
  held_at (x ∷ xs) p a (inr i) = held_at xs p a.1 i

  found_here : (h k : Fields) (n : Utf8) (x : Form) → FieldsAll (Here h) k → definition k n ≡ Some x → Here h x
  found_here h no_fields n x a e = absurd (no_some e)
  found_here h (field name s k) n x a e = by_case (bytes_eq name n) e (λ i. found_here h k n x a.1 i) where
    by_case : (b : Bool) → cond b (Some s) (definition k n) ≡ Some x → (definition k n ≡ Some x → Here h x) → Here h x
    by_case true i others = subst (Here h) (some_is s x i) a.0
    by_case false i others = others i

  -- what a form of these is, seen through, is one of these
  peel_here : AllHeld U → (h : Fields) (s : Form) → IsPart h s → Here h s → IsAmong (peel (placed h s)) U
  peel_here a h s p i =
      peeled (λ g x q. Here g x → IsAmong q U) (λ g x c j. j) (λ g n x q r c j. c (held_at U (placed g (newtype n x)) a j).inner) (λ g x q r c j. c (held_at U (placed g (lossy x)) a j).inner)
      (λ g k x q r c j. c (held_at U (placed g (definitions k x)) a j).body)
      (λ g n x q r e c j. c (found_here g g n x (held_at U (placed g (reference n)) a j).table.defined e)) h s p i

-- ---- the parts of a shape

pub places_of : (s : Form) → IsPart no_fields s → AllHeld (all_places s) (all_places s)
places_of s p =
    let table : IsTableHere (all_places s) no_fields = record { bson = inl refl; defined = tt } in
    (record { is = record { around = p.around; shape = tt; plain = tt }; table = table; inner = tt; body = tt }, places_held (all_places s) no_fields s p table (λ q i. inr i))

pub whole_there : (s : Form) → IsAmong (placed no_fields s) (all_places s)
whole_there s = inr (head_in no_fields s)

-- ---- pairs of parts

abbrev pairs_with : Placed → List Placed → List Pair
pairs_with a [] = []
pairs_with a (b ∷ bs) = pair_of a b ∷ pairs_with a bs

abbrev pub pairs : List Placed → List Placed → List Pair
pairs [] bs = []
pairs (a ∷ xs) bs = pairs_with a bs ++ pairs xs bs

pairs_left : (p : Pair) (xs ys : List Pair) → In p xs → In p (xs ++ ys)
pairs_left p [] ys i = absurd i
pairs_left p (x ∷ xs) ys (inl e) = inl e
pairs_left p (x ∷ xs) ys (inr i) = inr (pairs_left p xs ys i)

pairs_right : (p : Pair) (xs ys : List Pair) → In p ys → In p (xs ++ ys)
pairs_right p [] ys i = i
pairs_right p (x ∷ xs) ys i = inr (pairs_right p xs ys i)

with_there : (a b : Placed) (bs : List Placed) → IsAmong b bs → In (pair_of a b) (pairs_with a bs)
with_there a b [] i = absurd i
with_there a b (x ∷ bs) (inl e) = inl (ap (pair_of a) e)
with_there a b (x ∷ bs) (inr i) = inr (with_there a b bs i)

pub pair_there : (a b : Placed) (xs bs : List Placed) → IsAmong a xs → IsAmong b bs → In (pair_of a b) (pairs xs bs)
pair_there a b [] bs i j = absurd i
pair_there a b (x ∷ xs) bs (inl e) j = subst (λ y. In (pair_of a b) (pairs_with y bs ++ pairs xs bs)) e (pairs_left (pair_of a b) (pairs_with a bs) (pairs xs bs) (with_there a b bs j))
pair_there a b (x ∷ xs) bs (inr i) j = pairs_right (pair_of a b) (pairs_with x bs) (pairs xs bs) (pair_there a b xs bs i j)

-- a pair of these is one of two parts
record IsPairOf (xs bs : List Placed) (p : Pair) : Type 0 where
  pub old : Placed
  pub new : Placed
  pub is : p ≡ pair_of old new
  pub old_there : IsAmong old xs
  pub new_there : IsAmong new bs

with_parts : (a : Placed) (bs : List Placed) (p : Pair) → In p (pairs_with a bs) → (b : Placed) × (p ≡ pair_of a b) × IsAmong b bs
with_parts a [] p i = absurd i
with_parts a (b ∷ bs) p (inl e) = (b, e, inl refl)
with_parts a (b ∷ bs) p (inr i) = let r = with_parts a bs p i in (r.0, r.1, inr r.2)

either_in : (xs ys : List Pair) (p : Pair) → In p (xs ++ ys) → In p xs ⊎ In p ys
either_in [] ys p i = inr i
either_in (x ∷ xs) ys p (inl e) = inl (inl e)
either_in (x ∷ xs) ys p (inr i) = or_later (either_in xs ys p i) where
  or_later : In p xs ⊎ In p ys → In p (x ∷ xs) ⊎ In p ys
  or_later (inl j) = inl (inr j)
  or_later (inr j) = inr j

pair_parts : (xs bs : List Placed) (p : Pair) → In p (pairs xs bs) → IsPairOf xs bs p
pair_parts [] bs p i = absurd i
pair_parts (a ∷ xs) bs p i = by_case (either_in (pairs_with a bs) (pairs xs bs) p i) (λ j. pair_parts xs bs p j) where
  by_case : In p (pairs_with a bs) ⊎ In p (pairs xs bs) → (In p (pairs xs bs) → IsPairOf xs bs p) → IsPairOf (a ∷ xs) bs p
  by_case (inl j) others = let r = with_parts a bs p j in record { old = a; new = r.0; is = r.1; old_there = inl refl; new_there = r.2 }
  by_case (inr j) others = let r = others j in record { old = r.old; new = r.new; is = r.is; old_there = inr r.old_there; new_there = r.new_there }

with_many : (a : Placed) (bs : List Placed) → length (pairs_with a bs) ≡ length bs
with_many a [] = refl
with_many a (b ∷ bs) = ap suc (with_many a bs)

both_many : (xs ys : List Pair) → length (xs ++ ys) ≡ length xs + length ys
both_many [] ys = let none : 0 + length ys ≡ length ys = omega arith in sym none
both_many (x ∷ xs) ys = let one : suc (length xs) + length ys ≡ suc (length xs + length ys) = omega arith in ap suc (both_many xs ys) ∙ sym one

pub pairs_many : (xs bs : List Placed) → length (pairs xs bs) ≡ length xs * length bs
pairs_many [] bs = let none : 0 * length bs ≡ 0 = omega arith in sym none
pairs_many (a ∷ xs) bs = both_many (pairs_with a bs) (pairs xs bs) ∙ (λ i. with_many a bs i + pairs_many xs bs i) ∙ sum (length xs) (length bs)
  where
    sum : (n m : ℕ) → m + n * m ≡ suc n * m
    sum n m = omega (arith, suc-mul n m)

-- ---- the pairs are closed under the rows

named_steps : (R S : Form → Form → Type 0) → ((x y : Form) → R x y → S x y) → (ss : List Step) → Meets R ss → Meets S ss
named_steps R S f [] m = tt
named_steps R S f (s ∷ ss) m = (f s.old s.new m.0, named_steps R S f ss m.1)

-- What holds of the forms, of their parts and of `bson` holds of the pairs that are named.
abbrev pub NamesParts : (Form → Form → Answer) → Type 1
NamesParts next = (P Q : Form → Type 0) (a b : Form) → P a → InnerAll P a → P (leaf Bson) → Q b → InnerAll Q b → Named (λ x y. P x × Q y) (next a b)

module _ (U V : List Placed) (u : AllHeld U U) (v : AllHeld V V) where
  module _ (next : Form → Form → Answer) (named : NamesParts next) where
    parts_closed : (a b : Placed) → IsAmong a U → IsAmong b V → (ss : List Step) → next (peel a).form (peel b).form ≡ Some ss
        → Meets (λ x y. In (pair_of (placed (peel a).around x) (placed (peel b).around y)) (pairs U V)) ss
    parts_closed a b i j ss e =
        let k = peel_here U u a.around a.form (held_at U U a u i).is i in
        let l = peel_here V v b.around b.form (held_at V V b v j).is j in
        let old = held_at U U (peel a) u k in
        let new = held_at V V (peel b) v l in
        let there = named (Here U (peel a).around) (Here V (peel b).around) (peel a).form (peel b).form k old.inner old.table.bson l new.inner in
        named_steps (λ x y. Here U (peel a).around x × Here V (peel b).around y) (λ x y. In (pair_of (placed (peel a).around x) (placed (peel b).around y)) (pairs U V))
        (λ x y s. pair_there (placed (peel a).around x) (placed (peel b).around y) U V s.0 s.1) ss
        (subst (Named (λ x y. Here U (peel a).around x × Here V (peel b).around y)) e there)

    -- the pairs that are named for one of these are among these
    pub answers_closed : (p : Pair) → In p (pairs U V) → (ss : List Step) → next p.old.form p.new.form ≡ Some ss → Meets (λ x y. In (pair_of (placed p.old.around x) (placed p.new.around y)) (pairs U V)) ss
    answers_closed p i ss e =
        let r = pair_parts U V p i in
        subst (λ q. Meets (λ x y. In (pair_of (placed q.old.around x) (placed q.new.around y)) (pairs U V)) ss) (sym r.is)
        (parts_closed r.old r.new r.old_there r.new_there ss (subst (λ q. next q.old.form q.new.form ≡ Some ss) r.is e))

  pub pairs_closed : (p : Pair) → In p (pairs U V) → (ss : List Step) → row p.old.form p.new.form ≡ Some ss → Meets (λ x y. In (pair_of (placed p.old.around x) (placed p.new.around y)) (pairs U V)) ss
  pairs_closed = answers_closed row row_named
