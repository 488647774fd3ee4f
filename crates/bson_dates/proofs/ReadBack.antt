-- The text of a time is read back as that time.
use Rattle.std.proofs.Common.{◌≡◌, ℕ, ◌+◌, ◌-◌, ◌*◌, ◌/◌, ◌%◌, ◌<◌, ◌≤◌, ◌==◌, [], ◌∷◌, ◌++◌, Some, refl, ap, ◌∙◌, arith, true, ◌&&◌, nat_lt, nat_le, inl, inr, ℤ, pos, append_assoc}
use Rattle.std.proofs.lemmas.Bool.{cases_Bool}
use Rattle.std.proofs.lemmas.Bool.Decides.{nat_tests}
use Rattle.std.proofs.lemmas.Fmt.{decimal_digit}
use Rattle.std.specs.Int.{IsInRange, int_rem_euclid}
use Rattle.jiff_core.specs.Calendar.{days_in_month, days_from_civil}
use Rattle.jiff_core.proofs.CalendarLemmas.{days_in_month_bounds}
use Rattle.jiff_core.proofs.SignedLemmas.{signed_arith}
use Rattle.bson_dates.specs.DateText.{Utf8, part, two_digits, two_digits_below, is_day, day_of, full_date, time_of_day, second_fraction, millis_at, date_of_text}
use Rattle.bson_dates.proofs.Calendar.{civil_parts}
use Rattle.bson_dates.specs.DatePrinted.{two_digits_text, fraction_text, day_number, IsAt, text_of_parts}

-- a digit's character is one
digit_test : (n : ℕ) → n < 10 → (nat_le 48 (48 + n) && nat_le (48 + n) 57) ≡ true
digit_test n h = grind (arith, nat_tests)

below_test : (n limit : ℕ) → n < limit → nat_lt n limit ≡ true
below_test n limit h = grind (arith, nat_tests)

-- ---- the parts in front

two_digits_back : (n : ℕ) (rest : Utf8) → n < 100 → two_digits (two_digits_text n ++ rest) ≡ Some (part n rest)
unfolding two_digits_text
two_digits_back n rest h =
    let high : n / 10 < 10 = omega arith in
    let low : n % 10 < 10 = omega arith in
    let whole : 10 * (48 + n / 10 - 48) + (48 + n % 10 - 48) ≡ n = omega arith in
    rw (decimal_digit (n / 10) high, decimal_digit (n % 10) low, digit_test (n / 10) high, digit_test (n % 10) low)
    (ap (λ v. Some (part v rest)) whole)

below_back : (limit n : ℕ) (rest : Utf8) → n < 100 → n < limit → two_digits_below limit (two_digits_text n ++ rest) ≡ Some (part n rest)
below_back limit n rest h lt = rw (two_digits_back n rest h, below_test n limit lt) refl

date_back : (century year month day : ℕ) (rest : Utf8) → century < 100 → year < 100 → month < 100 → day < 100
    → full_date (two_digits_text century ++ (two_digits_text year ++ (45 ∷ (two_digits_text month ++ (45 ∷ (two_digits_text day ++ rest)))))) ≡ day_of (100 * century + year) month day rest
date_back century year month day rest c y m d = rw (two_digits_back century _ c, two_digits_back year _ y, two_digits_back month _ m, two_digits_back day _ d) refl

time_back : (hours minutes seconds : ℕ) (rest : Utf8) → hours < 24 → minutes < 60 → seconds < 60
    → time_of_day (two_digits_text hours ++ (58 ∷ (two_digits_text minutes ++ (58 ∷ (two_digits_text seconds ++ rest))))) ≡ Some (part (3600 * hours + 60 * minutes + seconds) rest)
time_back hours minutes seconds rest h m s =
    rw (below_back 24 hours _ (omega arith) h, below_back 60 minutes _ (omega arith) m, below_back 60 seconds _ (omega arith) s) refl

-- ---- the fraction and the end

one_digit : (a : ℕ) → a < 10 → second_fraction (46 ∷ (48 + a) ∷ 90 ∷ []) ≡ Some (part (100 * a) (90 ∷ []))
one_digit a h =
    let sum : 100 * (48 + a - 48) + 0 ≡ 100 * a = omega arith in
    rw (digit_test a h) (ap (λ v. Some (part v (90 ∷ []))) sum)

two_places : (a b : ℕ) → a < 10 → b < 10 → second_fraction (46 ∷ (48 + a) ∷ (48 + b) ∷ 90 ∷ []) ≡ Some (part (100 * a + 10 * b) (90 ∷ []))
two_places a b h k =
    let sum : 100 * (48 + a - 48) + (10 * (48 + b - 48) + 0) ≡ 100 * a + 10 * b = omega arith in
    rw (digit_test a h, digit_test b k) (ap (λ v. Some (part v (90 ∷ []))) sum)

three_places : (a b c : ℕ) → a < 10 → b < 10 → c < 10 → second_fraction (46 ∷ (48 + a) ∷ (48 + b) ∷ (48 + c) ∷ 90 ∷ []) ≡ Some (part (100 * a + 10 * b + c) (90 ∷ []))
three_places a b c h k l =
    let sum : 100 * (48 + a - 48) + (10 * (48 + b - 48) + (1 * (48 + c - 48) + 0)) ≡ 100 * a + 10 * b + c = omega arith in
    rw (digit_test a h, digit_test b k, digit_test c l) (ap (λ v. Some (part v (90 ∷ []))) sum)

fraction_back : (n : ℕ) → n < 1000 → second_fraction (fraction_text n ++ 90 ∷ []) ≡ Some (part n (90 ∷ []))
unfolding fraction_text
fraction_back n h =
    let a : n / 100 < 10 = omega arith in
    let b : n / 10 % 10 < 10 = omega arith in
    let c : n % 10 < 10 = omega arith in
    let said : (v : ℕ) → v ≡ n → Some (part v (90 ∷ [])) ≡ Some (part n (90 ∷ [])) = λ v e. ap (λ w. Some (part w (90 ∷ []))) e in
    elim (cases_Bool (n == 0)) [
      | inl e ↦ rw e (said 0 (grind (arith, nat_tests)))
      | inr e ↦ elim (cases_Bool (n % 100 == 0)) [
        | inl f ↦ rw (e, f, decimal_digit (n / 100) a) (one_digit (n / 100) a ∙ said _ (grind (arith, nat_tests)))
        | inr f ↦ elim (cases_Bool (n % 10 == 0)) [
          | inl g ↦ rw (e, f, g, decimal_digit (n / 100) a, decimal_digit (n / 10 % 10) b) (two_places (n / 100) (n / 10 % 10) a b ∙ said _ (grind (arith, nat_tests)))
          | inr g ↦ rw (e, f, g, decimal_digit (n / 100) a, decimal_digit (n / 10 % 10) b, decimal_digit (n % 10) c) (three_places (n / 100) (n / 10 % 10) (n % 10) a b c ∙ said _ (omega arith))
        ]
      ]
    ]

-- ---- the milliseconds

clock_whole : (n : ℕ) → 1000 * (3600 * (n / 3_600_000) + 60 * (n / 60_000 % 60) + n / 1000 % 60) + n % 1000 ≡ n
clock_whole n = omega arith

millis_back : (millis : ℤ) (seconds milliseconds n : ℕ) → 1000 * seconds + milliseconds ≡ n → pos n ≡ int_rem_euclid millis (pos 86_400_000) → millis_at (day_number millis) seconds milliseconds (pos 0) ≡ millis
millis_back millis seconds milliseconds n sum rem = omega (arith, signed_arith)

-- ---- the whole text

day_made : (year month day : ℕ) (rest : Utf8) (r : ℤ) → is_day year month day ≡ true → days_from_civil (pos year) month day ≡ r → day_of year month day rest ≡ Some (part r rest)
day_made year month day rest r is e = rw (is, e) refl

day_limits : (month day top : ℕ) → IsInRange 1 12 month → IsInRange 1 top day → top ≤ 31 → (month < 100) × (day < 100)
day_limits month day top m d le = (omega arith, omega arith)

in_day : (millis : ℤ) (n : ℕ) → pos n ≡ int_rem_euclid millis (pos 86_400_000) → n < 86_400_000
in_day millis n e = omega (arith, signed_arith)

pub text_back : (millis : ℤ) (year month day n : ℕ) → IsAt millis year month day n → date_of_text (text_of_parts year month day n) ≡ Some millis
text_back millis year month day n h =
    let parts = civil_parts month day (days_in_month (pos year) month) h.on.on_calendar in
    let limits = day_limits month day (days_in_month (pos year) month) parts.0 parts.1 (days_in_month_bounds (pos year) month).0 in
    let le : year ≤ 9999 = h.on.in_range in
    let lt : n < 86_400_000 = in_day millis n h.in_day in
    let years : 100 * (year / 100) + year % 100 ≡ year = omega arith in
    simp append_assoc
    (rw (
      date_back (year / 100) (year % 100) month day _ (omega arith) (omega arith) limits.0 limits.1,
      years,
      day_made year month day _ _ h.on.on_calendar h.on.on_day,
      time_back (n / 3_600_000) (n / 60_000 % 60) (n / 1000 % 60) _ (omega arith) (omega arith) (omega arith),
      fraction_back (n % 1000) (omega arith),
    )
    (ap Some (millis_back millis _ _ n (clock_whole n) h.in_day)))
