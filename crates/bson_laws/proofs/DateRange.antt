-- A date text stands for a number of milliseconds that fits 64 bits.
use Rattle.std.proofs.Common.{◌≡◌, ℕ, ◌+◌, ◌-◌, ◌*◌, ◌/◌, ◌<◌, ◌≤◌, List, [], ◌∷◌, Bool, true, false, cond, Option, Some, None, IfSome, refl, subst, arith, ℤ, pos, FitsSigned, w64, ◌==◌, ◌||◌, ◌&&◌, nat_le, nat_lt}
use Rattle.std.proofs.lemmas.Bool.Decides.{nat_tests}
use Rattle.std.specs.Int.{IsInRange}
use Rattle.jiff_core.specs.Calendar.{IsCivilDate, IsEpochDay, IsWithin, IsYear, days_in_month, days_from_civil}
use Rattle.jiff_core.proofs.CalendarLemmas.{days_from_civil-day_count, day_count_bounds}
use Rattle.jiff_core.proofs.SignedLemmas.{signed_arith}
use Rattle.bson_dates.specs.DateText.{Utf8, Part, part, with_part, character, is_digit, two_digits, two_digits_below, is_day, day_of, full_date, time_of_day, fraction_millis, behind_digits, digits_after, second_fraction, ended, hours_and_minutes, signed, time_offset, millis_at, at_offset, after_time, date_of_text}

-- ---- steps of the reader

-- the number has the property
abbrev Has : {X : Type 0} → (X → Type 0) → Part X → Type 0
Has P (part n rest) = P n

-- what a step gives has the property, whatever is in front
behind : {X Y : Type 0} (P : X → Type 0) (Q : Y → Type 0) (o : Option (Part X)) (next : X → Utf8 → Option Y) → IfSome o (Has P) → ((n : X) (s : Utf8) → P n → IfSome (next n s) Q)
    → IfSome (with_part o next) Q
behind P Q None next h k = tt
behind P Q (Some (part n rest)) next h k = k n rest h

-- where the test fails there is nothing
tested : {Y : Type 0} (Q : Y → Type 0) (b : Bool) (o : Option Y) → (b ≡ true → IfSome o Q) → IfSome (cond b o None) Q
tested Q true o k = k refl
tested Q false o k = tt

either : {Y : Type 0} (Q : Y → Type 0) (b : Bool) (o p : Option Y) → IfSome o Q → IfSome p Q → IfSome (cond b o p) Q
either Q true o p h k = h
either Q false o p h k = k

passed : {Y : Type 0} (Q : Y → Type 0) (test : ℕ → Bool) (s : Utf8) (next : Utf8 → Option Y) → ((rest : Utf8) → IfSome (next rest) Q) → IfSome (character test s next) Q
passed Q test [] next k = tt
passed Q test (c ∷ rest) next k = tested Q (test c) (next rest) (λ e. k rest)

at_end : {X : Type 0} (Q : X → Type 0) (x : X) (s : Utf8) → Q x → IfSome (ended x s) Q
at_end Q x [] h = h
at_end Q x (c ∷ s) h = tt

-- ---- two digits

pair_range : (a b : ℕ) → (is_digit a && is_digit b) ≡ true → 10 * (a - 48) + (b - 48) ≤ 99
pair_range a b e = grind (arith, nat_tests)

two_range : (s : Utf8) → IfSome (two_digits s) (Has (λ n. n ≤ 99))
two_range [] = tt
two_range (a ∷ []) = tt
two_range (a ∷ b ∷ rest) = tested (Has (λ n. n ≤ 99)) (is_digit a && is_digit b) (Some (part (10 * (a - 48) + (b - 48)) rest)) (pair_range a b)

below : (v n : ℕ) → nat_lt v n ≡ true → v < n
below v n e = grind (arith, nat_tests)

below_range : (n : ℕ) (s : Utf8) → IfSome (two_digits_below n s) (Has (λ v. v < n))
below_range n s =
    behind (λ v. v ≤ 99) (Has (λ v. v < n)) (two_digits s) _ (two_range s) (λ v rest h. tested (Has (λ v. v < n)) (nat_lt v n) (Some (part v rest)) (below v n))

-- ---- the day

civil_parts : (m d top : ℕ) → (nat_le 1 m && nat_le m 12 && nat_le 1 d && nat_le d top) ≡ true → IsInRange 1 12 m × IsInRange 1 top d
civil_parts m d top e = grind (arith, nat_tests)

year_range : (y : ℕ) → y ≤ 9999 → IsYear (pos y)
year_range y h = omega (arith, signed_arith)

civil : (y m d : ℕ) → y ≤ 9999 → is_day y m d ≡ true → IsCivilDate (pos y) m d
civil y m d h e = let p = civil_parts m d (days_in_month (pos y) m) e in (year_range y h, p.0, p.1)

day_range : (y : ℤ) (m d : ℕ) → IsCivilDate y m d → IsEpochDay (days_from_civil y m d)
day_range y m d h = omega (arith, signed_arith, days_from_civil-day_count, day_count_bounds y m d h)

day_of_range : (y m d : ℕ) (s : Utf8) → y ≤ 9999 → IfSome (day_of y m d s) (Has IsEpochDay)
day_of_range y m d s h = tested (Has IsEpochDay) (is_day y m d) _ (λ e. day_range (pos y) m d (civil y m d h e))

full_date_range : (s : Utf8) → IfSome (full_date s) (Has IsEpochDay)
full_date_range s =
    let Two : ℕ → Type 0 = λ n. n ≤ 99 in
    let Day = Has IsEpochDay in
    behind Two Day (two_digits s) _ (two_range s) (λ century s1 c. behind Two Day (two_digits s1) _ (two_range s1) (λ year s2 y. passed Day _ s2 _ (λ s3.
    behind Two Day (two_digits s3) _ (two_range s3) (λ month s4 m. passed Day _ s4 _ (λ s5. behind Two Day (two_digits s5) _ (two_range s5) (λ day s6 d.
    day_of_range (100 * century + year) month day s6 (omega arith)))))))

-- ---- the time of day

time_of_day_range : (s : Utf8) → IfSome (time_of_day s) (Has (λ n. n < 86_400))
time_of_day_range s =
    let Time : Part ℕ → Type 0 = Has (λ n. n < 86_400) in
    behind (λ n. n < 24) Time (two_digits_below 24 s) _ (below_range 24 s) (λ hours s1 h. passed Time _ s1 _ (λ s2.
    behind (λ n. n < 60) Time (two_digits_below 60 s2) _ (below_range 60 s2) (λ minutes s3 m. passed Time _ s3 _ (λ s4.
    behind (λ n. n < 60) Time (two_digits_below 60 s4) _ (below_range 60 s4) (λ seconds s5 k. omega (arith, h, m, k))))))

-- ---- the fraction

digit_range : (c : ℕ) → is_digit c ≡ true → c - 48 ≤ 9
digit_range c e = grind (arith, nat_tests)

digit_millis : (weight d rest : ℕ) → d ≤ 9 → rest ≤ 10 * (weight / 10) - 1 → weight * d + rest ≤ 10 * weight - 1
digit_millis weight d rest h r = grind arith

-- all digits together are worth less than ten of the first
fraction_range : (weight : ℕ) (s : Utf8) → fraction_millis weight s ≤ 10 * weight - 1
fraction_range weight [] = omega arith
fraction_range weight (c ∷ s) = by (is_digit c) refl (fraction_range (weight / 10) s)
  where
    by : (b : Bool) → is_digit c ≡ b → fraction_millis (weight / 10) s ≤ 10 * (weight / 10) - 1 → cond b (weight * (c - 48) + fraction_millis (weight / 10) s) 0 ≤ 10 * weight - 1
    by true e h = digit_millis weight (c - 48) (fraction_millis (weight / 10) s) (digit_range c e) h
    by false e h = omega arith

digits_after_range : (s : Utf8) → IfSome (digits_after s) (Has (λ n. n < 1000))
digits_after_range [] = tt
digits_after_range (c ∷ s) = tested (Has (λ n. n < 1000)) (is_digit c) (Some (part (fraction_millis 100 (c ∷ s)) (behind_digits (c ∷ s)))) (λ e. omega (arith, fraction_range 100 (c ∷ s)))

second_fraction_range : (s : Utf8) → IfSome (second_fraction s) (Has (λ n. n < 1000))
second_fraction_range [] = omega arith
second_fraction_range (c ∷ s) = either (Has (λ n. n < 1000)) (c == 46) (digits_after s) (Some (part 0 (c ∷ s))) (digits_after_range s) (omega arith)

-- ---- the offset

hours_and_minutes_range : (s : Utf8) → IfSome (hours_and_minutes s) (λ n. n < 1440)
hours_and_minutes_range s =
    behind (λ n. n < 24) (λ n. n < 1440) (two_digits_below 24 s) _ (below_range 24 s) (λ hours s1 h. passed (λ n. n < 1440) _ s1 _ (λ s2.
    behind (λ n. n < 60) (λ n. n < 1440) (two_digits_below 60 s2) _ (below_range 60 s2) (λ minutes s3 m. at_end (λ n. n < 1440) (60 * hours + minutes) s3 (omega (arith, h, m)))))

signed_range : (b : Bool) (o : Option ℕ) → IfSome o (λ n. n < 1440) → IfSome (signed b o) (IsWithin 1440)
signed_range b None h = tt
signed_range true (Some n) h = omega (arith, signed_arith)
signed_range false (Some n) h = omega (arith, signed_arith)

zero_range : IsWithin 1440 (pos 0)
zero_range = omega (arith, signed_arith)

time_offset_range : (s : Utf8) → IfSome (time_offset s) (IsWithin 1440)
time_offset_range [] = tt
time_offset_range (c ∷ s) =
    let minutes = hours_and_minutes_range s in
    either (IsWithin 1440) ((c == 90) || (c == 122)) _ _ (at_end (IsWithin 1440) (pos 0) s zero_range)
    (either (IsWithin 1440) (c == 43) _ _ (signed_range false (hours_and_minutes s) minutes) (tested (IsWithin 1440) (c == 45) _ (λ e. signed_range true (hours_and_minutes s) minutes)))

-- ---- the whole

millis_range : (day : ℤ) (seconds milliseconds : ℕ) (minutes : ℤ) → IsEpochDay day → seconds < 86_400 → milliseconds < 1000 → IsWithin 1440 minutes
    → FitsSigned w64 (millis_at day seconds milliseconds minutes)
millis_range day seconds milliseconds minutes d s m o = omega (arith, signed_arith)

at_offset_range : (day : ℤ) (seconds milliseconds : ℕ) (o : Option ℤ) → IsEpochDay day → seconds < 86_400 → milliseconds < 1000 → IfSome o (IsWithin 1440)
    → IfSome (at_offset day seconds milliseconds o) (FitsSigned w64)
at_offset_range day seconds milliseconds None d s m o = tt
at_offset_range day seconds milliseconds (Some minutes) d s m o = millis_range day seconds milliseconds minutes d s m o

after_time_range : (day : ℤ) (seconds : ℕ) (s : Utf8) → IsEpochDay day → seconds < 86_400 → IfSome (after_time day seconds s) (FitsSigned w64)
after_time_range day seconds s d k =
    behind (λ n. n < 1000) (FitsSigned w64) (second_fraction s) _ (second_fraction_range s) (λ milliseconds s1 m.
    at_offset_range day seconds milliseconds (time_offset s1) d k m (time_offset_range s1))

date_range : (s : Utf8) → IfSome (date_of_text s) (FitsSigned w64)
date_range s =
    behind IsEpochDay (FitsSigned w64) (full_date s) _ (full_date_range s) (λ day s1 d. passed (FitsSigned w64) _ s1 _ (λ s2.
    behind (λ n. n < 86_400) (FitsSigned w64) (time_of_day s2) _ (time_of_day_range s2) (λ seconds s3 k. after_time_range day seconds s3 d k)))

pub date_fits : (s : List ℕ) (n : ℤ) → date_of_text s ≡ Some n → FitsSigned w64 n
date_fits s n e = subst (λ o. IfSome o (FitsSigned w64)) e (date_range s)
