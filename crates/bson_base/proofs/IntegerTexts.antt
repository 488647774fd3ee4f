-- Integer texts: what std's `parse` says of a text, by this crate's words.
use Rattle.std.proofs.Common.{◌≡◌, ℕ, ◌<◌, List, [], ◌∷◌, length, Some, None, Result, Ok, Err, refl, sym, arith, ℤ, pos, negsuc, Bool, true, false, w64, FitsSigned, nat_lt}
use Rattle.std.proofs.lemmas.Bool.{and_parts}
use Rattle.std.proofs.lemmas.Bool.Decides.{nat_tests}
use Rattle.std.specs.Char.{digit_value}
use Rattle.std.specs.List.{list_all}
use Rattle.std.specs.Result.{result_ok}
use Rattle.std.specs.Str.Parse.{AllDigits, IsNumeral, ParsesSigned, without_leading_sign, signed_digits_value}
use Rattle.bson_base.specs.Parsed.{is_numeral, is_int64, int64_of_numeral, integer_of_text}

digit_test : (d : ℕ) → d < 10 → nat_lt d 10 ≡ true
digit_test d h = grind (arith, nat_tests)

digit_back : (d : ℕ) → nat_lt d 10 ≡ true → d < 10
digit_back d h = grind (arith, nat_tests)

some_test : (n : ℕ) → 0 < n → nat_lt 0 n ≡ true
some_test n h = grind (arith, nat_tests)

some_back : (n : ℕ) → nat_lt 0 n ≡ true → 0 < n
some_back n h = grind (arith, nat_tests)

all_digits : (ds : List ℕ) → AllDigits 10 ds → list_all (λ c. nat_lt (digit_value c) 10) ds ≡ true
all_digits [] h = refl
all_digits (c ∷ cs) h = let here : nat_lt (digit_value c) 10 ≡ true = digit_test _ h.0 in rw (here, all_digits cs h.1) refl

digits_all : (ds : List ℕ) → list_all (λ c. nat_lt (digit_value c) 10) ds ≡ true → AllDigits 10 ds
digits_all [] h = tt
digits_all (c ∷ cs) h = let parts = and_parts _ _ h in (digit_back _ parts.0, digits_all cs parts.1)

pub fits_int64 : (z : ℤ) → FitsSigned w64 z → is_int64 z ≡ true
fits_int64 (pos n) f = grind (arith, nat_tests)
fits_int64 (negsuc n) f = grind (arith, nat_tests)

pub int64_fits : (z : ℤ) → is_int64 z ≡ true → FitsSigned w64 z
int64_fits (pos n) f = record { sfits = grind (arith, nat_tests) }
int64_fits (negsuc n) f = record { sfits = grind (arith, nat_tests) }

numeral_some : (ds : List ℕ) (z : ℤ) → IsNumeral 10 ds → FitsSigned w64 z → int64_of_numeral ds z ≡ Some z
numeral_some ds z d f =
    let a : nat_lt 0 (length ds) ≡ true = some_test (length ds) d.0 in
    let b : list_all (λ c. nat_lt (digit_value c) 10) ds ≡ true = all_digits ds d.1 in
    let e : is_int64 z ≡ true = fits_int64 z f in
    rw (a, b, e) refl

numeral_none : (ds : List ℕ) (z : ℤ) (a b : Bool) → is_numeral ds ≡ a → is_int64 z ≡ b → (IsNumeral 10 ds × FitsSigned w64 z → ⊥) → int64_of_numeral ds z ≡ None
numeral_none ds z true true d f none =
    let parts = and_parts _ _ d in
    absurd (none ((some_back (length ds) parts.0, digits_all ds parts.1), int64_fits z f))
numeral_none ds z true false d f none = rw (d, f) refl
numeral_none ds z false b d f none = rw d refl

pub integer_some : {E : Type 0} (s : List ℕ) (r : Result ℤ E) (z : ℤ) → r ≡ Ok z → ParsesSigned w64 10 s r → integer_of_text s ≡ Some z
unfolding integer_of_text
integer_some s r z e h =
    let p : (IsNumeral 10 (without_leading_sign s) × FitsSigned w64 (signed_digits_value 10 s)) × (z ≡ signed_digits_value 10 s) = rw e at h in
    rw p.1 (numeral_some (without_leading_sign s) (signed_digits_value 10 s) p.0.0 p.0.1)

pub integer_none : {E : Type 0} (s : List ℕ) (r : Result ℤ E) (f : E) → r ≡ Err f → ParsesSigned w64 10 s r → integer_of_text s ≡ None
unfolding integer_of_text
integer_none s r f e h =
    let p : IsNumeral 10 (without_leading_sign s) × FitsSigned w64 (signed_digits_value 10 s) → ⊥ = rw e at h in
    numeral_none (without_leading_sign s) (signed_digits_value 10 s) _ _ refl refl p

pub numeral_back : (ds : List ℕ) → is_numeral ds ≡ true → IsNumeral 10 ds
numeral_back ds e = let parts = and_parts _ _ e in (some_back (length ds) parts.0, digits_all ds parts.1)

pub all_numeral : (ds : List ℕ) → IsNumeral 10 ds → is_numeral ds ≡ true
all_numeral ds d =
    let a : nat_lt 0 (length ds) ≡ true = some_test (length ds) d.0 in
    let b : list_all (λ c. nat_lt (digit_value c) 10) ds ≡ true = all_digits ds d.1 in
    rw (a, b) refl

pub integer_parsed : {E : Type 0} (s : List ℕ) (r : Result ℤ E) → ParsesSigned w64 10 s r → result_ok r ≡ integer_of_text s
integer_parsed {E = E} s (Ok z) h = sym (integer_some {E = E} s (Ok z) z refl h)
integer_parsed {E = E} s (Err f) h = sym (integer_none {E = E} s (Err f) f refl h)
