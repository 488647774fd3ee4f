-- Indexes in lists, and the numbers of definitions.
use Rattle.std.proofs.Common.{◌≡◌, ℕ, zero, suc, ◌+◌, ◌<◌, ◌≤◌, List, [], ◌∷◌, ◌++◌, length, get_or, map, take, take_all, Bool, true, false, refl, ap, sym, subst, ◌∙◌, ◌⊎◌, inl, inr, arith}
use Rattle.std.specs.Prelude.{◌&&◌}
use Rattle.std.proofs.lemmas.List.{append-nil, append_assoc, length-append}
use Rattle.bson_shape.specs.Form.{Form, Fields, no_fields, definitions, leaf}
use Rattle.bson_shape.specs.Same.{same, same_fields}
use Rattle.bson_shape.specs.Prover.Decided.{same_decides}
use Rattle.bson_shape.specs.declared.leaf.Leaf.TheVariants.{Bson}
use Rattle.bson_evolve_check.specs.Placing.{IsAt, AreDifferent, Extends, IsMore}

module _ {A : Type 0} where
  pub at_left : (xs ys : List A) (k : ℕ) (x : A) → IsAt xs k x → IsAt (xs ++ ys) k x
  at_left [] ys k x i = absurd i
  at_left (z ∷ xs) ys zero x i = i
  at_left (z ∷ xs) ys (suc k) x i = at_left xs ys k x i

  pub at_end : (xs : List A) (x : A) → IsAt (xs ++ x ∷ []) (length xs) x
  at_end [] x = refl
  at_end (z ∷ xs) x = at_end xs x

  pub at_within : (xs : List A) (k : ℕ) (x : A) → IsAt xs k x → k < length xs
  at_within [] k x i = absurd i
  at_within (z ∷ xs) zero x i = omega arith
  at_within (z ∷ xs) (suc k) x i = omega (arith, at_within xs k x i)

  pub at_cut : (xs ys : List A) (k : ℕ) (x : A) → k < length xs → IsAt (xs ++ ys) k x → IsAt xs k x
  at_cut [] ys k x l i = absurd (omega arith)
  at_cut (z ∷ xs) ys zero x l i = i
  at_cut (z ∷ xs) ys (suc k) x l i = at_cut xs ys k x (omega arith) i

  pub at_one : (xs : List A) (k : ℕ) (x y : A) → IsAt xs k x → IsAt xs k y → x ≡ y
  at_one [] k x y i j = absurd i
  at_one (z ∷ xs) zero x y i j = sym i ∙ j
  at_one (z ∷ xs) (suc k) x y i j = at_one xs k x y i j

  pub at_last : (xs : List A) (x y : A) (k : ℕ) → IsAt (xs ++ x ∷ []) k y → IsAt xs k y ⊎ ((k ≡ length xs) × (x ≡ y))
  at_last [] x y zero i = inr (refl, i)
  at_last [] x y (suc k) i = absurd i
  at_last (z ∷ xs) x y zero i = inl i
  at_last (z ∷ xs) x y (suc k) i = by_rest (at_last xs x y k i) where
    by_rest : IsAt xs k y ⊎ ((k ≡ length xs) × (x ≡ y)) → IsAt xs k y ⊎ ((suc k ≡ suc (length xs)) × (x ≡ y))
    by_rest (inl j) = inl j
    by_rest (inr j) = inr (ap suc j.0, j.1)

  pub different_more : (xs : List A) (x : A) → AreDifferent xs → ((k : ℕ) → IsAt xs k x → ⊥) → AreDifferent (xs ++ x ∷ [])
  different_more xs x d new i j y a b = by_both (at_last xs x y i a) (at_last xs x y j b) where
    by_both : IsAt xs i y ⊎ ((i ≡ length xs) × (x ≡ y)) → IsAt xs j y ⊎ ((j ≡ length xs) × (x ≡ y)) → i ≡ j
    by_both (inl p) (inl q) = d i j y p q
    by_both (inl p) (inr q) = absurd (new i (subst (IsAt xs i) (sym q.1) p))
    by_both (inr p) (inl q) = absurd (new j (subst (IsAt xs j) (sym p.1) q))
    by_both (inr p) (inr q) = p.0 ∙ sym q.0

pub at_get : {A B : Type 0} (f : A → B) (xs : List A) (i : ℕ) (x : A) → i < length xs → x ≡ get_or xs i x → IsAt (map f xs) i (f x)
at_get f [] i x l e = absurd (omega arith)
at_get f (y ∷ xs) zero x l e = ap f (sym e)
at_get f (y ∷ xs) (suc i) x l e = at_get f xs i x (omega arith) e

-- the value of a function at an index, and what it is the value of
pub at_map : {A B : Type 0} (f : A → B) (xs : List A) (k : ℕ) (x : A) → IsAt xs k x → IsAt (map f xs) k (f x)
at_map f [] k x i = absurd i
at_map f (y ∷ xs) zero x i = ap f i
at_map f (y ∷ xs) (suc k) x i = at_map f xs k x i

pub of_map : {A B : Type 0} (f : A → B) (xs : List A) (k : ℕ) (y : B) → IsAt (map f xs) k y → (x : A) × IsAt xs k x × (f x ≡ y)
of_map f [] k y i = absurd i
of_map f (x ∷ xs) zero y i = (x, refl, i)
of_map f (x ∷ xs) (suc k) y i = of_map f xs k y i

-- ---- what is not in a list so far

take_next : {A : Type 0} (xs : List A) (n : ℕ) (x : A) → IsAt xs n x → take (suc n) xs ≡ take n xs ++ x ∷ []
take_next [] n x i = absurd i
take_next (z ∷ xs) zero x i = λ k. i k ∷ []
take_next (z ∷ xs) (suc n) x i = ap (λ zs. z ∷ zs) (take_next xs n x i)

pub none_more : {A : Type 0} (xs : List A) (n : ℕ) (x y : A) → IsAt xs n x → (x ≡ y → ⊥) → ((k : ℕ) → IsAt (take n xs) k y → ⊥) → (k : ℕ) → IsAt (take (n + 1) xs) k y → ⊥
none_more xs n x y i other none k j = by_last (at_last (take n xs) x y k (subst (λ zs. IsAt zs k y) (ap (λ m. take m xs) one ∙ take_next xs n x i) j)) where
  one : n + 1 ≡ suc n
  one = omega arith

  by_last : IsAt (take n xs) k y ⊎ ((k ≡ length (take n xs)) × (x ≡ y)) → ⊥
  by_last (inl p) = none k p
  by_last (inr p) = other p.1

pub none_all : {A : Type 0} (xs : List A) (n : ℕ) (y : A) → length xs ≤ n → ((k : ℕ) → IsAt (take n xs) k y → ⊥) → (k : ℕ) → IsAt xs k y → ⊥
none_all xs n y l none k i = none k (subst (λ zs. IsAt zs k y) (sym (take_all n xs l)) i)

-- ---- the same definitions

pub both_true : (a b : Bool) → (a && b) ≡ true → (a ≡ true) × (b ≡ true)
both_true true b e = (refl, e)
both_true false b e = absurd (let both : false ≡ true = e in cc)

abbrev table : Form → Fields
table (definitions t s) = t
table s = no_fields

pub fields_is : (h k : Fields) → same_fields h k ≡ true → h ≡ k
fields_is h k e = ap table ((same_decides (definitions h (leaf Bson)) (definitions k (leaf Bson))).0 (ap (λ b. b && same (leaf Bson) (leaf Bson)) e ∙ (same_decides (leaf Bson) (leaf Bson)).1 refl))

pub fields_self : (h : Fields) → same_fields h h ≡ true
fields_self h = (both_true (same_fields h h) (same (leaf Bson) (leaf Bson)) ((same_decides (definitions h (leaf Bson)) (definitions h (leaf Bson))).1 refl)).0

-- ---- more with numbers

module _ {A : Type 0} where
  pub more_none : (hs : List A) → AreDifferent hs → IsMore hs hs
  more_none hs d = record { kept = ([], sym (append-nil hs)); different = d }

  pub more_one : (hs : List A) (h : A) → AreDifferent hs → ((k : ℕ) → IsAt hs k h → ⊥) → IsMore hs (hs ++ h ∷ [])
  more_one hs h d new = record { kept = (h ∷ [], refl); different = different_more hs h d new }

  pub extends_both : (hs is js : List A) → Extends is hs → Extends js is → Extends js hs
  extends_both hs is js m n = (m.0 ++ n.0, n.1 ∙ ap (λ xs. xs ++ n.0) m.1 ∙ append_assoc hs m.0 n.0)

  pub more_both : (hs is js : List A) → IsMore hs is → IsMore is js → IsMore hs js
  more_both hs is js m n = record { kept = extends_both hs is js m.kept n.kept; different = n.different }

  pub at_longer : (hs is : List A) (k : ℕ) (h : A) → Extends is hs → IsAt hs k h → IsAt is k h
  at_longer hs is k h m i = subst (λ xs. IsAt xs k h) (sym m.1) (at_left hs m.0 k h i)

  pub at_more : (hs is : List A) (k : ℕ) (h : A) → IsMore hs is → IsAt hs k h → IsAt is k h
  at_more hs is k h m i = at_longer hs is k h m.kept i

  pub at_before : (hs is : List A) (k : ℕ) (h : A) → IsMore hs is → k < length hs → IsAt is k h → IsAt hs k h
  at_before hs is k h m l i = at_cut hs m.kept.0 k h l (subst (λ xs. IsAt xs k h) m.kept.1 i)

  pub many_more : (hs is : List A) → IsMore hs is → length hs ≤ length is
  many_more hs is m = let e : length is ≡ length hs + length m.kept.0 = ap length m.kept.1 ∙ length-append hs m.kept.0 in omega (arith, e)
