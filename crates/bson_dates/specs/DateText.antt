-- Date texts, and the milliseconds since the start of 1970 in UTC that they stand for. Source: RFC 3339, sections 5.6 and 5.7, in the proleptic Gregorian
-- calendar, without a second 60 and with no separator but `T` and `t`; of a fraction's digits those after the third are dropped. A part reads the front of a
-- text, and passes its number and the rest of the text on. Texts are their UTF-8 bytes.
use Rattle.std.specs.Prelude.{ℕ, ◌+◌, ◌-◌, ◌*◌, ◌/◌, ◌==◌, ◌&&◌, ◌||◌, nat_lt, nat_le, Bool, true, false, if◌then◌else◌, List, [], ◌∷◌, Option, Some, None, ℤ, pos, neg_ℤ, ◌+ℤ◌, ◌-ℤ◌, ◌*ℤ◌}
use Rattle.jiff_core.specs.Calendar.{days_in_month, days_from_civil}

-- a text
abbrev pub Utf8 : Type 0
Utf8 = List ℕ

-- a number, and the text behind it
pub data Part (X : Type 0) : Type 0 where
  part : X → Utf8 → Part X

-- what follows a part; none where there is no such part
abbrev pub with_part : {X Y : Type 0} → Option (Part X) → (X → Utf8 → Option Y) → Option Y
with_part None next = None
with_part (Some (part n rest)) next = next n rest

-- one character that passes the test
abbrev pub character : {Y : Type 0} → (ℕ → Bool) → Utf8 → (Utf8 → Option Y) → Option Y
character test [] next = None
character test (c ∷ rest) next = if test c then next rest else None

abbrev pub is_digit : ℕ → Bool
is_digit c = nat_le 48 c && nat_le c 57

abbrev pub is_hyphen : ℕ → Bool
is_hyphen c = c == 45

abbrev pub is_colon : ℕ → Bool
is_colon c = c == 58

-- `T` or `t`
abbrev pub is_separator : ℕ → Bool
is_separator c = (c == 84) || (c == 116)

abbrev pub two_digits : Utf8 → Option (Part ℕ)
two_digits [] = None
two_digits (a ∷ []) = None
two_digits (a ∷ b ∷ rest) = if is_digit a && is_digit b then Some (part (10 * (a - 48) + (b - 48)) rest) else None

-- two digits of a number below n
abbrev pub two_digits_below : ℕ → Utf8 → Option (Part ℕ)
two_digits_below n s = with_part (two_digits s) (λ v rest. if nat_lt v n then Some (part v rest) else None)

-- the calendar has this day
abbrev pub is_day : ℕ → ℕ → ℕ → Bool
is_day year month day = nat_le 1 month && nat_le month 12 && nat_le 1 day && nat_le day (days_in_month (pos year) month)

-- a day of the calendar, as days since the start of 1970
abbrev pub day_of : ℕ → ℕ → ℕ → Utf8 → Option (Part ℤ)
day_of year month day rest = if is_day year month day then Some (part (days_from_civil (pos year) month day) rest) else None

-- full-date: `YYYY-MM-DD`, as days since the start of 1970
abbrev pub full_date : Utf8 → Option (Part ℤ)
full_date s =
    with_part (two_digits s) (λ century s1. with_part (two_digits s1) (λ year s2. character is_hyphen s2 (λ s3. with_part (two_digits s3) (λ month s4. character is_hyphen s4 (λ s5.
    with_part (two_digits s5) (λ day s6. day_of (100 * century + year) month day s6))))))

-- time-hour ":" time-minute ":" time-second: `hh:mm:ss`, as seconds
abbrev pub time_of_day : Utf8 → Option (Part ℕ)
time_of_day s =
    with_part (two_digits_below 24 s) (λ hours s1. character is_colon s1 (λ s2. with_part (two_digits_below 60 s2) (λ minutes s3. character is_colon s3 (λ s4.
    with_part (two_digits_below 60 s4) (λ seconds s5. Some (part (3600 * hours + 60 * minutes + seconds) s5))))))

-- the digits in front, of which the first is worth so many milliseconds, and each further one a tenth of the one before, rounded down: those after the third
-- are worth nothing
abbrev pub fraction_millis : (weight : ℕ) → Utf8 → ℕ
fraction_millis weight [] = 0
fraction_millis weight (c ∷ s) = if is_digit c then weight * (c - 48) + fraction_millis (weight / 10) s else 0

-- the text behind the digits in front
abbrev pub behind_digits : Utf8 → Utf8
behind_digits [] = []
behind_digits (c ∷ s) = if is_digit c then behind_digits s else c ∷ s

-- one or more digits behind a point, as milliseconds
abbrev pub digits_after : Utf8 → Option (Part ℕ)
digits_after [] = None
digits_after (c ∷ s) = if is_digit c then Some (part (fraction_millis 100 (c ∷ s)) (behind_digits (c ∷ s))) else None

-- [time-secfrac]: a point and digits as milliseconds, or no point
abbrev pub second_fraction : Utf8 → Option (Part ℕ)
second_fraction [] = Some (part 0 [])
second_fraction (c ∷ s) = if c == 46 then digits_after s else Some (part 0 (c ∷ s))

-- x, where the text ends here
abbrev pub ended : {X : Type 0} → X → Utf8 → Option X
ended x [] = Some x
ended x (c ∷ s) = None

-- time-numoffset without its sign: `hh:mm` at the end, as minutes
abbrev pub hours_and_minutes : Utf8 → Option ℕ
hours_and_minutes s = with_part (two_digits_below 24 s) (λ hours s1. character is_colon s1 (λ s2. with_part (two_digits_below 60 s2) (λ minutes s3. ended (60 * hours + minutes) s3)))

-- the number with its sign
abbrev pub signed : (is_negative : Bool) → Option ℕ → Option ℤ
signed is_negative None = None
signed is_negative (Some n) = Some (if is_negative then neg_ℤ (pos n) else pos n)

-- time-offset: `Z` or `z`, or a sign and the offset from it, in minutes
abbrev pub time_offset : Utf8 → Option ℤ
time_offset [] = None
time_offset (c ∷ s) =
    if (c == 90) || (c == 122) then ended (pos 0) s
    else if c == 43 then signed false (hours_and_minutes s)
    else if c == 45 then signed true (hours_and_minutes s)
    else None

-- the local time less the offset, in milliseconds
abbrev pub millis_at : ℤ → ℕ → ℕ → ℤ → ℤ
millis_at day seconds milliseconds minutes = (day *ℤ pos 86_400 +ℤ pos seconds -ℤ minutes *ℤ pos 60) *ℤ pos 1000 +ℤ pos milliseconds

abbrev pub at_offset : ℤ → ℕ → ℕ → Option ℤ → Option ℤ
at_offset day seconds milliseconds None = None
at_offset day seconds milliseconds (Some minutes) = Some (millis_at day seconds milliseconds minutes)

-- the fraction and the offset, behind a day and the seconds of its time
abbrev pub after_time : ℤ → ℕ → Utf8 → Option ℤ
after_time day seconds s = with_part (second_fraction s) (λ milliseconds s1. at_offset day seconds milliseconds (time_offset s1))

-- date-time: the milliseconds that a date text stands for; none where it is no date text
abbrev pub date_of_text : Utf8 → Option ℤ
date_of_text s = with_part (full_date s) (λ day s1. character is_separator s1 (λ s2. with_part (time_of_day s2) (after_time day)))
