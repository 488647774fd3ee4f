-- Steps of the reader of dates, over plain variables.
use Rattle.std.proofs.Common.{◌≡◌, ℕ, ◌+◌, ◌-◌, ◌*◌, ◌/◌, ◌<◌, ◌≤◌, List, [], ◌∷◌, length, take, drop, slice_index, Option, Some, None, refl, sym, subst, ◌∙◌, arith, true, false, ℤ, pos, if◌then◌else◌, nat_le, ◌&&◌}
use Rattle.std.proofs.lemmas.Bool.Decides.{nat_tests}
use Rattle.std.proofs.lemmas.List.{take_all}
use Rattle.std.specs.Int.{IsInRange}
use Rattle.jiff_core.specs.Calendar.{days_in_month, days_from_civil}
use Rattle.bson_dates.specs.DateFront.{begins_with_digit}
use Rattle.bson_dates.specs.DateText.{Utf8, part, is_day, is_digit, fraction_millis, behind_digits, digits_after, second_fraction, time_offset, millis_at, after_time, is_separator, character, with_part, time_of_day, full_date, date_of_text}

civil_test : (m d top : ℕ) → IsInRange 1 12 m → IsInRange 1 top d → (nat_le 1 m && nat_le m 12 && nat_le 1 d && nat_le d top) ≡ true
civil_test m d top hm hd = grind (arith, nat_tests)

pub day_ok : (year : ℤ) (month day : ℕ) (y m d : ℕ) (r : ℤ) → year ≡ pos y → month ≡ m → day ≡ d → IsInRange 1 12 month → IsInRange 1 (days_in_month year month) day
    → r ≡ days_from_civil year month day → Some r ≡ (if is_day y m d then Some (days_from_civil (pos y) m d) else None)
day_ok year month day y m d r ey em ed hm hd er =
    let top : IsInRange 1 (days_in_month (pos y) m) d = rw (ey, em, ed) at hd in
    let hm2 : IsInRange 1 12 m = rw em at hm in
    let test : is_day y m d ≡ true = civil_test m d (days_in_month (pos y) m) hm2 top in
    rw (test, er, ey, em, ed) refl

-- ---- the digits of a second_fraction

pub more_digits : (weight : ℕ) (s : Utf8) → begins_with_digit s ≡ true → fraction_millis weight s ≡ weight * (slice_index s 0 - 48) + fraction_millis (weight / 10) (drop 1 s)
more_digits weight [] e = cc e
more_digits weight (c ∷ s) e = rw e refl

pub more_behind : (s : Utf8) → begins_with_digit s ≡ true → behind_digits (drop 1 s) ≡ behind_digits s
more_behind [] e = cc e
more_behind (c ∷ s) e = rw e refl

pub no_digits : (weight : ℕ) (s : Utf8) → begins_with_digit s ≡ false → fraction_millis weight s ≡ 0
no_digits weight [] e = refl
no_digits weight (c ∷ s) e = rw e refl

pub none_behind : (s : Utf8) → begins_with_digit s ≡ false → behind_digits s ≡ s
none_behind [] e = refl
none_behind (c ∷ s) e = rw e refl

pub first_digit : (s : Utf8) → begins_with_digit s ≡ true → Some (part (fraction_millis 100 s) (behind_digits s)) ≡ digits_after s
first_digit [] e = cc e
first_digit (c ∷ s) e = rw e refl

digit_range : (c : ℕ) → is_digit c ≡ true → (48 ≤ c) × (c ≤ 57)
digit_range c e = grind (arith, nat_tests)

pub digit_bound : (s : List ℕ) → begins_with_digit s ≡ true → (0 < length s) × (48 ≤ slice_index s 0) × (slice_index s 0 ≤ 57)
digit_bound [] e = cc e
digit_bound (c ∷ s) e = let r = digit_range c e in (omega arith, r.0, r.1)

pub clocked : (day : ℤ) (seconds ms : ℕ) (minutes : ℤ) (s s1 : List ℕ) (r : ℤ) → Some (part ms s1) ≡ second_fraction s → Some minutes ≡ time_offset s1 → r ≡ millis_at day seconds ms minutes
    → Some r ≡ after_time day seconds s
clocked day seconds ms minutes s s1 r f z e = rw (← f, ← z, e) refl

dated_at : (day : ℤ) (seconds : ℕ) (s1 s3 : List ℕ) → 0 < length s1 → is_separator (slice_index s1 0) ≡ true → Some (part seconds s3) ≡ time_of_day (take (length s1 - 1) (drop 1 s1))
    → character is_separator s1 (λ s2. with_part (time_of_day s2) (after_time day)) ≡ after_time day seconds s3
dated_at day seconds [] s3 some t k = absurd (omega arith)
dated_at day seconds (c ∷ rest) s3 some t k =
    let whole : take (length (c ∷ rest) - 1) (drop 1 (c ∷ rest)) ≡ rest = take_all _ rest (omega arith) in
    let k2 : Some (part seconds s3) ≡ time_of_day rest = subst (λ x. Some (part seconds s3) ≡ time_of_day x) whole k in
    rw (t, ← k2) refl

pub dated : (day : ℤ) (seconds : ℕ) (s s1 s3 : List ℕ) (r : Option ℤ) → Some (part day s1) ≡ full_date s → 0 < length s1 → is_separator (slice_index s1 0) ≡ true
    → Some (part seconds s3) ≡ time_of_day (take (length s1 - 1) (drop 1 s1)) → r ≡ after_time day seconds s3 → r ≡ date_of_text s
dated day seconds s s1 s3 r v some t k e = rw (← v) (e ∙ sym (dated_at day seconds s1 s3 some t k))
