-- A text that is mended holds a zero only where it did before.
use Rattle.std.proofs.Common.{◌≡◌, ℕ, zero, suc, List, [], ◌∷◌, ◌++◌, length, ◌+◌, take, drop, Bool, true, false, cond, refl, eqb}
use Rattle.std.specs.Str.Lossy.{utf8_valid_len, utf8_lossy, utf8_lossy_within, replacement_bytes, after_first_chunk, utf8_invalid_len}
use Rattle.bson_kinds.specs.Text.{has_zero}
use Rattle.bson_laws.proofs.ZeroFree.{neither, none_of, free_both}

free_take : (n : ℕ) (bs : List ℕ) → has_zero bs ≡ false → has_zero (take n bs) ≡ false
free_take zero bs h = refl
free_take (suc n) [] h = refl
free_take (suc n) (b ∷ bs) h = let p = neither (eqb b 0) (has_zero bs) h in none_of (eqb b 0) (has_zero (take n bs)) p.0 (free_take n bs p.1)

free_drop : (n : ℕ) (bs : List ℕ) → has_zero bs ≡ false → has_zero (drop n bs) ≡ false
free_drop zero bs h = h
free_drop (suc n) [] h = refl
free_drop (suc n) (b ∷ bs) h = let p = neither (eqb b 0) (has_zero bs) h in free_drop n bs p.1

replacement_free : has_zero replacement_bytes ≡ false
replacement_free = refl

step_free : (k : ℕ) (bs : List ℕ) (b : Bool) → has_zero bs ≡ false → has_zero (utf8_lossy_within k (after_first_chunk bs)) ≡ false
    → has_zero (cond b bs (take (utf8_valid_len bs) bs ++ (replacement_bytes ++ utf8_lossy_within k (after_first_chunk bs)))) ≡ false
step_free k bs true h rest = h
step_free k bs false h rest =
    let more = utf8_lossy_within k (after_first_chunk bs) in
    free_both (take (utf8_valid_len bs) bs) (replacement_bytes ++ more) (free_take (utf8_valid_len bs) bs h) (free_both replacement_bytes more replacement_free rest)

within_free : (k : ℕ) (bs : List ℕ) → has_zero bs ≡ false → has_zero (utf8_lossy_within k bs) ≡ false
within_free zero bs h = h
within_free (suc k) bs h = step_free k bs (eqb (utf8_valid_len bs) (length bs)) h (within_free k (after_first_chunk bs) (free_drop (utf8_valid_len bs + utf8_invalid_len (drop (utf8_valid_len bs) bs)) bs h))

pub mended_free : (bs : List ℕ) → has_zero bs ≡ false → has_zero (utf8_lossy bs) ≡ false
unfolding utf8_lossy
mended_free bs h = within_free (length bs) bs h
