-- The texts of keys, and of pairs.
use Rattle.std.proofs.Common.{◌≡◌, ℕ, zero, suc, ◌<◌, ◌+◌, List, [], ◌∷◌, ◌++◌, length, get_or, take, false, refl, ap, sym, ◌∙◌, cond, string_bytes, arith}
use Rattle.std.specs.Prelude.{map, remove, slice_get, slice_set, Option, Some, None, ◌||◌, not, nat_lt, if◌then◌else◌}
use Rattle.std.specs.List.{list_any, position, position_or_len, AllByRecursion, IsDistinct}
use Rattle.std.specs.Cmp.{IsEquivalence, decided}
use Rattle.std.specs.Str.{bytes_eq}
use Rattle.std.specs.String.{string_eq}
use Rattle.std.proofs.lemmas.List.{get_or-map, map-append, length-map}
use Rattle.std.proofs.lemmas.Slice.Eq.{bytes_eq-Decides}
use Rattle.bson_kinds.specs.Text.{Utf8}
use Rattle.bson_key_map.specs.Keys.{Key, key_texts, pair_with}
use Rattle.bson_key_map.specs.declared.pair.Pair.{Pair}

pub bytes_eq_equiv : IsEquivalence bytes_eq
bytes_eq_equiv = decided bytes_eq bytes_eq-Decides

pub length-texts : {V : Type 0} (ps : List (Pair V)) → length (key_texts ps) ≡ length ps
length-texts ps = length-map ps (λ p. string_bytes p.key)

-- the text of the key at a place
pub text_at : {V : Type 0} (ps : List (Pair V)) (i : ℕ) (p : Pair V) → i < length ps → p ≡ get_or ps i p → get_or (key_texts ps) i (string_bytes p.key) ≡ string_bytes p.key
text_at ps i p lt is = get_or-map (λ p. string_bytes p.key) ps i p (string_bytes p.key) lt ∙ ap (λ q. string_bytes q.key) (sym is)

pub remove-map : {X Y : Type 0} (f : X → Y) (xs : List X) (i : ℕ) → remove (map f xs) i ≡ map f (remove xs i)
remove-map f [] zero = refl
remove-map f [] (suc i) = refl
remove-map f (x ∷ xs) zero = refl
remove-map f (x ∷ xs) (suc i) = ap (λ ys. f x ∷ ys) (remove-map f xs i)

any_text : (key : Key) (ks : List Key) → list_any (string_eq key) ks ≡ list_any (bytes_eq (string_bytes key)) (map string_bytes ks)
any_text key [] = refl
any_text key (k ∷ ks) = ap (λ b. string_eq key k || b) (any_text key ks)

-- a new key at the end of a set of keys, by its text
pub inserted : (key : Key) (ks : List Key) → list_any (bytes_eq (string_bytes key)) (map string_bytes ks) ≡ false
    → map string_bytes (if list_any (string_eq key) ks then ks else ks ++ key ∷ []) ≡ map string_bytes ks ++ string_bytes key ∷ []
inserted key ks new = ap (λ b. map string_bytes (if b then ks else ks ++ key ∷ [])) (any_text key ks ∙ new) ∙ map-append string_bytes ks (key ∷ [])

place_or_len : (text : Utf8) (ks : List Key) → position_or_len (λ k. bytes_eq text (string_bytes k)) ks ≡ position_or_len (bytes_eq text) (map string_bytes ks)
place_or_len text [] = refl
place_or_len text (k ∷ ks) = ap (λ n. cond (not (bytes_eq text (string_bytes k))) (1 + n) 0) (place_or_len text ks)

-- and its place
pub place_of_text : (text : Utf8) (ks : List Key) → position (λ k. bytes_eq text (string_bytes k)) ks ≡ position (bytes_eq text) (map string_bytes ks)
place_of_text text ks =
    let as_long = sym (length-map ks string_bytes) in
    λ i. cond (nat_lt (place_or_len text ks i) (as_long i)) (Some (place_or_len text ks i)) None

-- texts that differ
all_removed : (P : Utf8 → Type 0) (ts : List Utf8) (i : ℕ) → AllByRecursion P ts → AllByRecursion P (remove ts i)
all_removed P [] zero h = tt
all_removed P [] (suc i) h = tt
all_removed P (t ∷ ts) zero h = h.1
all_removed P (t ∷ ts) (suc i) h = (h.0, all_removed P ts i h.1)

pub no_texts : IsDistinct bytes_eq []
unfolding IsDistinct
no_texts = tt

pub distinct_removed : (ts : List Utf8) (i : ℕ) → IsDistinct bytes_eq ts → IsDistinct bytes_eq (remove ts i)
unfolding IsDistinct
distinct_removed [] zero h = tt
distinct_removed [] (suc i) h = tt
distinct_removed (t ∷ ts) zero h = h.1
distinct_removed (t ∷ ts) (suc i) h = (all_removed (λ u. bytes_eq t u ≡ false) ts i h.0, distinct_removed ts i h.1)

abbrev pub text_in : {V : Type 0} → Option (Pair V) → Utf8
text_in None = []
text_in (Some p) = string_bytes p.key

-- another value leaves the keys
pub texts_set : {V : Type 0} (ps : List (Pair V)) (i : ℕ) (p : Pair V) (value : V) → slice_get ps i ≡ Some p → key_texts (slice_set ps i (pair_with value p)) ≡ key_texts ps
texts_set [] i p value e = absurd cc
texts_set (q ∷ ps) zero p value e = ap (λ o. text_in o ∷ key_texts ps) (sym e)
texts_set (q ∷ ps) (suc i) p value e = ap (λ ts. string_bytes q.key ∷ ts) (texts_set ps i p value e)

-- a text among distinct ones is none of those before it
pub new_at : (ts : List Utf8) (i : ℕ) (d : Utf8) → IsDistinct bytes_eq ts → i < length ts → list_any (bytes_eq (get_or ts i d)) (take i ts) ≡ false
unfolding IsDistinct
new_at [] i d h lt = absurd (omega arith)
new_at (t ∷ ts) zero d h lt = refl
new_at (t ∷ ts) (suc i) d h lt =
    let other : bytes_eq t (get_or ts i d) ≡ false = differs (λ u. bytes_eq t u ≡ false) ts i d h.0 (omega arith) in
    (λ j. (bytes_same (get_or ts i d) t j) || list_any (bytes_eq (get_or ts i d)) (take i ts)) ∙ (λ j. other j || new_at ts i d h.1 (omega arith) j)
  where
    differs : (P : Utf8 → Type 0) (us : List Utf8) (k : ℕ) (d : Utf8) → AllByRecursion P us → k < length us → P (get_or us k d)
    differs P [] k d a l = absurd (omega arith)
    differs P (u ∷ us) zero d a l = a.0
    differs P (u ∷ us) (suc k) d a l = differs P us k d a.1 (omega arith)

    bytes_same : (t u : Utf8) → bytes_eq t u ≡ bytes_eq u t
    bytes_same t u = bytes_eq_equiv.symm t u
