-- Lists of the fields of a struct whose values are alike are accepted alike.
use Rattle.std.proofs.Common.{◌≡◌, List, [], ◌∷◌, Bool, true, false, cond, Option, Some, None, refl, subst}
use Rattle.std.specs.Prelude.{option_and_then, codes}
use Rattle.std.specs.Str.{bytes_eq}
use Rattle.bson_kinds.specs.Text.{Utf8}
use Rattle.bson_values.specs.Value.{Value, str, map, raw_document}
use Rattle.bson_laws.specs.Unwrap.{Part, a_key, a_value, next_key, next_text, next_scope, end_as, scoped_code}

-- as many parts, with the same keys and the same values, which are written alike
abbrev pub AreAlike : {S T : Type 0} → (Value → S → T → Type 0) → List (Part S) → List (Part T) → Type 0
AreAlike R [] [] = Unit {0}
AreAlike R (a_key k ∷ xs) (a_key l ∷ ys) = (k ≡ l) × AreAlike R xs ys
AreAlike R (a_value v s ∷ xs) (a_value w t ∷ ys) = (v ≡ w) × R v s t × AreAlike R xs ys
AreAlike R xs ys = ⊥

-- there is neither, or both are there and are related
abbrev pub Both : {A B : Type 0} → (A → B → Type 0) → Option A → Option B → Type 0
Both R None None = Unit {0}
Both R (Some a) (Some b) = R a b
Both R o p = ⊥

both_then : {A B C D : Type 0} (R : A → B → Type 0) (Q : C → D → Type 0) (o : Option A) (p : Option B) (f : A → Option C) (g : B → Option D) → Both R o p → ((a : A) (b : B) → R a b → Both Q (f a) (g b))
    → Both Q (option_and_then f o) (option_and_then g p)
both_then R Q None None f g h next = tt
both_then R Q (Some a) (Some b) f g h next = next a b h
both_then R Q None (Some b) f g h next = absurd h
both_then R Q (Some a) None f g h next = absurd h

-- what a scope is given as: a map, or a document in its bytes
abbrev pub IsScope : Value → Type 0
IsScope (map es) = Unit {0}
IsScope (raw_document b) = Unit {0}
IsScope v = ⊥

module _ {S T : Type 0} (R : Value → S → T → Type 0) where
  key_both : (b : Bool) (xs : List (Part S)) (ys : List (Part T)) → AreAlike R xs ys → Both (AreAlike R) (cond b (Some xs) None) (cond b (Some ys) None)
  key_both true xs ys h = h
  key_both false xs ys h = tt

  key_alike : (name : Utf8) (xs : List (Part S)) (ys : List (Part T)) → AreAlike R xs ys → Both (AreAlike R) (next_key name xs) (next_key name ys)
  key_alike name [] [] h = tt
  key_alike name (a_key k ∷ xs) (a_key l ∷ ys) h =
      subst (λ m. Both (AreAlike R) (cond (bytes_eq k name) (Some xs) None) (cond (bytes_eq m name) (Some ys) None)) h.0 (key_both (bytes_eq k name) xs ys h.1)
  key_alike name (a_value v s ∷ xs) (a_value w t ∷ ys) h = tt
  key_alike name xs ys h = absurd h

  abbrev SameText : Utf8 × List (Part S) → Utf8 × List (Part T) → Type 0
  SameText p q = (p.0 ≡ q.0) × AreAlike R p.1 q.1

  text_at : (v : Value) (s : S) (t : T) (xs : List (Part S)) (ys : List (Part T)) → AreAlike R xs ys → Both SameText (next_text (a_value v s ∷ xs)) (next_text (a_value v t ∷ ys))
  text_at (str x) s t xs ys h = (refl, h)
  text_at v s t xs ys h = tt

  text_alike : (xs : List (Part S)) (ys : List (Part T)) → AreAlike R xs ys → Both SameText (next_text xs) (next_text ys)
  text_alike [] [] h = tt
  text_alike (a_key k ∷ xs) (a_key l ∷ ys) h = tt
  text_alike (a_value v s ∷ xs) (a_value w t ∷ ys) h = subst (λ u. Both SameText (next_text (a_value v s ∷ xs)) (next_text (a_value u t ∷ ys))) h.0 (text_at v s t xs ys h.2)
  text_alike xs ys h = absurd h

  abbrev SameNext : S × List (Part S) → T × List (Part T) → Type 0
  SameNext p q = ((v : Value) × IsScope v × R v p.0 q.0) × AreAlike R p.1 q.1

  scope_at : (v : Value) (s : S) (t : T) (xs : List (Part S)) (ys : List (Part T)) → R v s t → AreAlike R xs ys → Both SameNext (next_scope (a_value v s ∷ xs)) (next_scope (a_value v t ∷ ys))
  scope_at (map es) s t xs ys r h = ((map es, tt, r), h)
  scope_at (raw_document b) s t xs ys r h = ((raw_document b, tt, r), h)
  scope_at v s t xs ys r h = tt

  scope_alike : (xs : List (Part S)) (ys : List (Part T)) → AreAlike R xs ys → Both SameNext (next_scope xs) (next_scope ys)
  scope_alike [] [] h = tt
  scope_alike (a_key k ∷ xs) (a_key l ∷ ys) h = tt
  scope_alike (a_value v s ∷ xs) (a_value w t ∷ ys) h = subst (λ u. Both SameNext (next_scope (a_value v s ∷ xs)) (next_scope (a_value u t ∷ ys))) h.0 (scope_at v s t xs ys h.1 h.2)
  scope_alike xs ys h = absurd h

  -- the same code, and scopes that are written alike
  abbrev pub SameScope : Utf8 × S → Utf8 × T → Type 0
  SameScope p q = (p.0 ≡ q.0) × ((v : Value) × IsScope v × R v p.1 q.1)

  end_alike : (a : Utf8 × S) (b : Utf8 × T) (xs : List (Part S)) (ys : List (Part T)) → SameScope a b → AreAlike R xs ys → Both SameScope (end_as a xs) (end_as b ys)
  end_alike a b [] [] q h = q
  end_alike a b (a_key k ∷ xs) (a_key l ∷ ys) q h = tt
  end_alike a b (a_value v s ∷ xs) (a_value w t ∷ ys) q h = tt
  end_alike a b xs ys q h = absurd h

  -- code and its scope
  pub scopes_alike : (xs : List (Part S)) (ys : List (Part T)) → AreAlike R xs ys → Both SameScope (scoped_code xs) (scoped_code ys)
  scopes_alike xs ys h =
      both_then (AreAlike R) SameScope (next_key (codes "$code") xs) (next_key (codes "$code") ys) _ _ (key_alike (codes "$code") xs ys h)
      (λ a b i.
      both_then SameText SameScope (next_text a) (next_text b) _ _ (text_alike a b i)
      (λ p q j.
      both_then (AreAlike R) SameScope (next_key (codes "$scope") p.1) (next_key (codes "$scope") q.1) _ _ (key_alike (codes "$scope") p.1 q.1 j.1)
      (λ c d k.
      both_then SameNext SameScope (next_scope c) (next_scope d) _ _ (scope_alike c d k)
      (λ m n l. end_alike (p.0, m.0) (q.0, n.0) m.1 n.1 (j.0, l.0) l.1))))
