-- The first place of a key.
use Rattle.std.proofs.Common.{◌≡◌, ℕ, suc, ◌+◌, ◌<◌, ◌≤◌, List, [], ◌∷◌, length, get_or, drop, Bool, true, false, Some, None, refl, ap, sym, subst, ◌∙◌, cond, arith, lt-ltb}
use Rattle.std.specs.Prelude.{not, ◌||◌}
use Rattle.std.specs.List.{list_any, position, position_or_len}
use Rattle.std.proofs.lemmas.Grind.{common_steps}
use Rattle.std.proofs.lemmas.List.Sums.{prefix_len-drop_yes, prefix_len-drop_no, prefix_len-le-length}
use Rattle.std.specs.Str.{bytes_eq}
use Rattle.bson_kinds.specs.Text.{Utf8}

-- it is i places after the first i texts
abbrev pub IsPassed : Utf8 → List Utf8 → ℕ → Type 0
IsPassed text texts i = position_or_len (bytes_eq text) texts ≡ i + position_or_len (bytes_eq text) (drop i texts)

pub passes : (text : Utf8) (texts : List Utf8) (i : ℕ) (d : Utf8) → i < length texts → bytes_eq text (get_or texts i d) ≡ false → IsPassed text texts i → IsPassed text texts (i + 1)
passes text texts i d within other so_far = omega (arith, so_far, prefix_len-drop_yes (λ k. not (bytes_eq text k)) texts i d within (ap not other))

pub found : (text : Utf8) (texts : List Utf8) (i : ℕ) (d : Utf8) → i < length texts → bytes_eq text (get_or texts i d) ≡ true → IsPassed text texts i → Some i ≡ position (bytes_eq text) texts
found text texts i d within same so_far =
    let e : i ≡ position_or_len (bytes_eq text) texts = omega (arith, so_far, prefix_len-drop_no (λ k. not (bytes_eq text k)) texts i d within (ap not same)) in
    ap Some e ∙ sym (rw (lt-ltb (position_or_len (bytes_eq text) texts) (length texts) (subst (λ n. n < length texts) e within)) refl)

none_from : (n m : ℕ) → m ≤ n → None ≡ cond (Rattle.std.specs.Prelude.nat_lt n m) (Some n) None
none_from n m h = grind (arith, common_steps)

pub not_found : (text : Utf8) (texts : List Utf8) (i : ℕ) → length texts ≤ i → IsPassed text texts i → None ≡ position (bytes_eq text) texts
not_found text texts i least so_far =
    none_from (position_or_len (bytes_eq text) texts) (length texts) (omega (arith, so_far, least))

-- where a key is not there, its place is behind all texts
pub behind : (text : Utf8) (texts : List Utf8) → None ≡ position (bytes_eq text) texts → length texts ≡ position_or_len (bytes_eq text) texts
behind text texts e = let most = prefix_len-le-length (λ k. not (bytes_eq text k)) texts in grind (arith, common_steps)

absent_behind : (first rest : Bool) (n m : ℕ) → suc n ≡ cond (not first) (1 + m) 0 → (n ≡ m → false ≡ rest) → false ≡ (first || rest)
absent_behind true rest n m e h = absurd (omega (arith, e))
absent_behind false rest n m e h = h (omega (arith, e))

is_absent : (text : Utf8) (texts : List Utf8) → length texts ≡ position_or_len (bytes_eq text) texts → false ≡ list_any (bytes_eq text) texts
is_absent text [] e = refl
is_absent text (k ∷ texts) e = absent_behind (bytes_eq text k) (list_any (bytes_eq text) texts) (length texts) (position_or_len (bytes_eq text) texts) e (is_absent text texts)

pub absent : (text : Utf8) (texts : List Utf8) → None ≡ position (bytes_eq text) texts → false ≡ list_any (bytes_eq text) texts
absent text texts e = is_absent text texts (behind text texts e)
