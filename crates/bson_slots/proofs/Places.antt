-- The place of what has a name.
use Rattle.std.proofs.Common.{◌≡◌, ℕ, zero, suc, ◌+◌, ◌<◌, List, [], ◌∷◌, length, get_or, map, take, add-one, Bool, true, false, cond, Option, Some, None, refl, ap, sym, ◌∙◌, arith}
use Rattle.std.specs.Prelude.{IfSome, option_map}
use Rattle.std.specs.Str.{bytes_eq}
use Rattle.std.proofs.lemmas.Bool.{false≢true, or_left, or_right, or_parts}
use Rattle.std.proofs.lemmas.Slice.Eq.{bytes_eq-Decides}
use Rattle.bson_kinds.specs.Text.{Utf8}
use Rattle.bson_shape.specs.Makers.{has_name, has_repeat}
use Rattle.bson_slots.specs.Place.{place_of}

abbrev first_or : Bool → Option ℕ → Option ℕ
first_or b o = cond b (Some 0) (option_map suc o)

not_true : (b : Bool) → (b ≡ true → ⊥) → b ≡ false
not_true true n = absurd (n refl)
not_true false n = refl

same_name : (xs ys : Utf8) → bytes_eq xs ys ≡ true → xs ≡ ys
same_name xs ys e = (bytes_eq-Decides xs ys).0 e

-- of two names one is put before the other
further : (a b : Bool) (i : ℕ) (o : Option ℕ) → (a ≡ true → b ≡ false) → cond a (Some (suc i)) (cond b (Some 0) (option_map suc o)) ≡ cond b (Some 0) (option_map suc (cond a (Some i) o))
further true true i o apart = absurd (false≢true (sym (apart refl)))
further true false i o apart = refl
further false true i o apart = refl
further false false i o apart = refl

-- the first of them or one further on lies within one more
first_within : (b : Bool) (o : Option ℕ) (n : ℕ) → IfSome o (λ i. i < n) → IfSome (first_or b o) (λ i. i < suc n)
first_within true o n h = omega arith
first_within false None n h = tt
first_within false (Some i) n h = omega arith

module _ {X : Type 0} (named : X → Utf8) where
  -- it is at the first place whose name is the key
  pub place_found : (xs : List X) (key : Utf8) (i : ℕ) (d : X) → i < length xs → ((k : ℕ) (e : X) → k < i → bytes_eq (named (get_or xs k e)) key ≡ false) → bytes_eq (named (get_or xs i d)) key ≡ true
      → place_of (map named xs) key ≡ Some i
  place_found [] key i d lt before is = absurd (omega arith)
  place_found (x ∷ xs) key zero d lt before is = ap (λ b. first_or b (place_of (map named xs) key)) is
  place_found (x ∷ xs) key (suc i) d lt before is =
      ap (λ b. first_or b (place_of (map named xs) key)) (before 0 d (omega arith)) ∙ ap (option_map suc) (place_found xs key i d (omega arith) (λ k e l. before (suc k) e (omega arith)) is)

  pub place_none : (xs : List X) (key : Utf8) → ((k : ℕ) (e : X) → k < length xs → bytes_eq (named (get_or xs k e)) key ≡ false) → place_of (map named xs) key ≡ None
  place_none [] key before = refl
  place_none (x ∷ xs) key before = ap (λ b. first_or b (place_of (map named xs) key)) (before 0 x (omega arith)) ∙ ap (option_map suc) (place_none xs key (λ k e l. before (suc k) e (omega arith)))

  -- a name at a place is one of the names
  has_at : (xs : List X) (name : Utf8) (i : ℕ) (d : X) → i < length xs → name ≡ named (get_or xs i d) → has_name name (map named xs) ≡ true
  has_at [] name i d lt e = absurd (omega arith)
  has_at (x ∷ xs) name zero d lt e = or_left _ _ ((bytes_eq-Decides name (named x)).1 e)
  has_at (x ∷ xs) name (suc i) d lt e = or_right _ _ (has_at xs name i d (omega arith) e)

  -- where the names are distinct it is at each place whose name is the key, wherever one looked first
  pub place_distinct : (xs : List X) (key : Utf8) (i : ℕ) (d : X) → has_repeat (map named xs) ≡ false → i < length xs → bytes_eq (named (get_or xs i d)) key ≡ true → place_of (map named xs) key ≡ Some i
  place_distinct [] key i d distinct lt is = absurd (omega arith)
  place_distinct (x ∷ xs) key zero d distinct lt is = ap (λ b. first_or b (place_of (map named xs) key)) is
  place_distinct (x ∷ xs) key (suc i) d distinct lt is =
      let parts = or_parts (has_name (named x) (map named xs)) (has_repeat (map named xs)) distinct in
      let other : bytes_eq (named x) key ≡ false =
      not_true _ (λ e. false≢true (sym parts.0 ∙ has_at xs (named x) i d (omega arith) (same_name _ _ e ∙ sym (same_name _ _ is)))) in
      ap (λ b. first_or b (place_of (map named xs) key)) other ∙ ap (option_map suc) (place_distinct xs key i d parts.1 (omega arith) is)

  -- the same, for the one that was looked at
  pub place_got : (xs : List X) (key : Utf8) (i : ℕ) (x : X) → has_repeat (map named xs) ≡ false → i < length xs → x ≡ get_or xs i x → bytes_eq (named x) key ≡ true → place_of (map named xs) key ≡ Some i
  place_got xs key i x distinct lt got is = place_distinct xs key i x distinct lt (ap (λ y. bytes_eq (named y) key) (sym got) ∙ is)

  place_one_more : (xs : List X) (name : Utf8) (i : ℕ) (x : X) → has_repeat (map named xs) ≡ false → i < length xs → x ≡ get_or xs i x
      → cond (bytes_eq (named x) name) (Some i) (place_of (map named (take i xs)) name) ≡ place_of (map named (take (suc i) xs)) name
  place_one_more [] name i x distinct lt stands = absurd (omega arith)
  place_one_more (y ∷ xs) name zero x distinct lt stands = ap (λ z. cond (bytes_eq (named z) name) (Some 0) None) stands
  place_one_more (y ∷ xs) name (suc i) x distinct lt stands =
      let parts = or_parts (has_name (named y) (map named xs)) (has_repeat (map named xs)) distinct in
      let apart : bytes_eq (named x) name ≡ true → bytes_eq (named y) name ≡ false =
      λ is. not_true _ (λ e. false≢true (sym parts.0 ∙ has_at xs (named y) i x (omega arith) (same_name _ _ e ∙ sym (same_name _ _ is) ∙ ap named stands))) in
      further (bytes_eq (named x) name) (bytes_eq (named y) name) i (place_of (map named (take i xs)) name) apart
      ∙ ap (first_or (bytes_eq (named y) name)) (place_one_more xs name i x parts.1 (omega arith) stands)

  -- the places of the names so far, and one more
  pub place_more : (xs : List X) (name : Utf8) (i : ℕ) (x : X) → has_repeat (map named xs) ≡ false → i < length xs → x ≡ get_or xs i x
      → cond (bytes_eq (named x) name) (Some i) (place_of (map named (take i xs)) name) ≡ place_of (map named (take (i + 1) xs)) name
  place_more xs name i x distinct lt stands = place_one_more xs name i x distinct lt stands ∙ ap (λ n. place_of (map named (take n xs)) name) (sym (add-one i))

  -- a place is one of them
  pub place_within : (xs : List X) (name : Utf8) → IfSome (place_of (map named xs) name) (λ i. i < length xs)
  place_within [] name = tt
  place_within (x ∷ xs) name = first_within (bytes_eq (named x) name) (place_of (map named xs) name) (length xs) (place_within xs name)
