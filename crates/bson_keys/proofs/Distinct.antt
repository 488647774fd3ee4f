-- Keys that are different.
use Rattle.std.proofs.Common.{◌≡◌, ℕ, [], ◌∷◌, ◌++◌, List, map, Bool, cond, true, false, refl, ap, sym, ◌∙◌}
use Rattle.std.specs.List.{AllByRecursion, IsDistinct}
use Rattle.std.specs.List.Sorted.{IsStrictlyIncreasing, IsPermutation}
use Rattle.std.specs.Ordering.{eq_by_cmp, nat_cmp}
use Rattle.std.specs.Str.{bytes_eq}
use Rattle.std.proofs.lemmas.Bool.{false≢true}
use Rattle.std.proofs.lemmas.Bool.Decides.{same_from_decides}
use Rattle.std.proofs.lemmas.Cmp.{nat_cmp_total, eq_by_cmp_equiv}
use Rattle.std.proofs.lemmas.List.Sorted.{IsPermutation-sym}
use Rattle.std.proofs.lemmas.Map.Keys.{IsDistinct-IsPermutation, IsDistinct-from_sorted, sorted_from_strictly_increasing}
use Rattle.std.proofs.lemmas.Slice.Eq.{bytes_eq-Decides}
use Rattle.bson_kinds.specs.Text.{Utf8}
use Rattle.bson_kinds.proofs.Tests.{not_taken}
use Rattle.bson_keys.specs.New.{is_new}

pub bytes_eq-swap : (xs ys : Utf8) → bytes_eq xs ys ≡ bytes_eq ys xs
bytes_eq-swap xs ys = same_from_decides _ _ (bytes_eq-Decides xs ys) (λ e. sym ((bytes_eq-Decides ys xs).0 e), λ e. (bytes_eq-Decides ys xs).1 (sym e))

-- ---- keys that are different

unlike : (P : Utf8 → Type 0) (ks : List Utf8) (key : Utf8) → AllByRecursion P (ks ++ key ∷ []) → P key × AllByRecursion P ks
unlike P [] key h = (h.0, tt)
unlike P (k ∷ ks) key h = let rest = unlike P ks key h.1 in (rest.0, (h.0, rest.1))

taken_false : (b c : Bool) → b ≡ false → c ≡ true → cond b false c ≡ true
taken_false true c e h = sym e
taken_false false c e h = h

-- the last one is new, and those before it are different
pub distinct_last : (ks : List Utf8) (key : Utf8) → IsDistinct bytes_eq (ks ++ key ∷ []) → (is_new key ks ≡ true) × IsDistinct bytes_eq ks
unfolding IsDistinct
distinct_last [] key d = (refl, tt)
distinct_last (k ∷ ks) key d =
    let first = unlike (λ y. bytes_eq k y ≡ false) ks key d.0 in
    let rest = distinct_last ks key d.1 in
    (taken_false (bytes_eq key k) (is_new key ks) (bytes_eq-swap key k ∙ first.0) rest.0, (first.1, rest.1))

-- ---- keys whose hashes are different

hashes_alike : (hash_of : Utf8 → ℕ) (k y : Utf8) (b : Bool) → bytes_eq k y ≡ b → eq_by_cmp nat_cmp (hash_of k) (hash_of y) ≡ false → b ≡ false
hashes_alike hash_of k y true same other =
    let equal : k ≡ y = (bytes_eq-Decides k y).0 same in
    absurd (false≢true (sym other ∙ ap (λ h. eq_by_cmp nat_cmp (hash_of k) (hash_of h)) (sym equal) ∙ (eq_by_cmp_equiv nat_cmp_total).refl (hash_of k)))
hashes_alike hash_of k y false same other = refl

all_apart : (hash_of : Utf8 → ℕ) (k : Utf8) (ks : List Utf8) → AllByRecursion (λ h. eq_by_cmp nat_cmp (hash_of k) h ≡ false) (map hash_of ks) → AllByRecursion (λ y. bytes_eq k y ≡ false) ks
all_apart hash_of k [] h = tt
all_apart hash_of k (y ∷ ks) h = (hashes_alike hash_of k y (bytes_eq k y) refl h.0, all_apart hash_of k ks h.1)

pub hashes_apart : (hash_of : Utf8 → ℕ) (ks : List Utf8) → IsDistinct (eq_by_cmp nat_cmp) (map hash_of ks) → IsDistinct bytes_eq ks
unfolding IsDistinct
hashes_apart hash_of [] h = tt
hashes_apart hash_of (k ∷ ks) h = (all_apart hash_of k ks h.0, hashes_apart hash_of ks h.1)

-- numbers that are ascending in another order are different
pub different : (numbers sorted : List ℕ) → IsPermutation numbers sorted → IsStrictlyIncreasing sorted → IsDistinct (eq_by_cmp nat_cmp) numbers
different numbers sorted moved rises =
    IsDistinct-IsPermutation (eq_by_cmp nat_cmp) (eq_by_cmp_equiv nat_cmp_total).symm sorted numbers (IsPermutation-sym numbers sorted moved) (IsDistinct-from_sorted nat_cmp sorted (sorted_from_strictly_increasing sorted rises))

-- a new key behind different ones
all_more : (P : Utf8 → Type 0) (ks : List Utf8) (key : Utf8) → AllByRecursion P ks → P key → AllByRecursion P (ks ++ key ∷ [])
all_more P [] key h last = (last, tt)
all_more P (k ∷ ks) key h last = (h.0, all_more P ks key h.1 last)

pub distinct_more : (ks : List Utf8) (key : Utf8) → is_new key ks ≡ true → IsDistinct bytes_eq ks → IsDistinct bytes_eq (ks ++ key ∷ [])
unfolding IsDistinct
distinct_more [] key new d = (tt, tt)
distinct_more (k ∷ ks) key new d =
    let parts = not_taken (bytes_eq key k) (is_new key ks) new in
    (all_more (λ y. bytes_eq k y ≡ false) ks key d.0 (bytes_eq-swap k key ∙ parts.0), distinct_more ks key parts.1 d.1)

pub distinct_none : IsDistinct bytes_eq []
unfolding IsDistinct
distinct_none = tt
