-- The text of a date. Source: RFC 3339, section 5.6, with `T`, `Z` and as many of three digits of the fraction as are needed.
use Rattle.std.specs.Prelude.{◌≡◌, ℕ, ◌/◌, ◌%◌, ◌≤◌, ◌==◌, true, if◌then◌else◌, [], ◌++◌, ℤ, pos, codes}
use Rattle.std.specs.Int.{int_div_euclid, int_rem_euclid}
use Rattle.std.specs.Fmt.{decimal}
use Rattle.std.specs.declared.result.Result.{Result}
use Rattle.std.specs.declared.result.Result.TheVariants.{Ok, Err}
use Rattle.jiff_core.specs.Calendar.{days_from_civil}
use Rattle.bson_dates.specs.DateText.{Utf8, is_day}
use Rattle.bson_dates.specs.declared.printing.DateError.{DateError}
use Rattle.bson_dates.specs.declared.printing.DateError.TheVariants.{YearOutOfRange, NoMemory}

-- a number below 100 in two decimal digits
unfoldable pub two_digits_text : ℕ → Utf8
two_digits_text n = decimal (n / 10) ++ decimal (n % 10)

-- a point and as many of three digits as are needed; nothing where there are no milliseconds
unfoldable pub fraction_text : ℕ → Utf8
fraction_text milliseconds =
    if milliseconds == 0 then []
    else if milliseconds % 100 == 0 then codes "." ++ decimal (milliseconds / 100)
    else if milliseconds % 10 == 0 then codes "." ++ decimal (milliseconds / 100) ++ decimal (milliseconds / 10 % 10)
    else codes "." ++ decimal (milliseconds / 100) ++ decimal (milliseconds / 10 % 10) ++ decimal (milliseconds % 10)

-- the day on which a time lies, as days since the start of 1970
abbrev pub day_number : ℤ → ℤ
day_number millis = int_div_euclid millis (pos 86_400_000)

-- the time lies on this day of the calendar, whose year can be printed
pub record IsOn (millis : ℤ) (year month day : ℕ) : Type 0 where
  pub in_range : year ≤ 9999
  pub on_calendar : is_day year month day ≡ true
  pub on_day : days_from_civil (pos year) month day ≡ day_number millis

-- and so many milliseconds into it
pub record IsAt (millis : ℤ) (year month day millis_of_day : ℕ) : Type 0 where
  pub on : IsOn millis year month day
  pub in_day : pos millis_of_day ≡ int_rem_euclid millis (pos 86_400_000)

-- the time's year is one of 0 to 9999
abbrev pub HasYear : ℤ → Type 0
HasYear millis = (year month day : ℕ) × IsOn millis year month day

-- `YYYY-MM-DDThh:mm:ss`, the fraction and `Z`
abbrev pub text_of_parts : ℕ → ℕ → ℕ → ℕ → Utf8
text_of_parts year month day millis_of_day =
    two_digits_text (year / 100) ++ two_digits_text (year % 100) ++ codes "-" ++ two_digits_text month ++ codes "-" ++ two_digits_text day ++ codes "T" ++ two_digits_text (millis_of_day / 3_600_000)
    ++ codes ":" ++ two_digits_text (millis_of_day / 60_000 % 60) ++ codes ":" ++ two_digits_text (millis_of_day / 1000 % 60) ++ fraction_text (millis_of_day % 1000) ++ codes "Z"

-- the text is that of the time
pub record IsDateText (millis : ℤ) (text : Utf8) : Type 0 where
  pub year : ℕ
  pub month : ℕ
  pub day : ℕ
  pub millis_of_day : ℕ
  pub is_at : IsAt millis year month day millis_of_day
  pub is_text : text ≡ text_of_parts year month day millis_of_day

-- the text of a time is given; it has none exactly where its year is out of range; `NoMemory` says nothing
abbrev pub Prints : {X : Type 0} → (X → Utf8) → Result X DateError → ℤ → Type 0
Prints see (Ok text) millis = IsDateText millis (see text)
Prints see (Err YearOutOfRange) millis = HasYear millis → ⊥
Prints see (Err NoMemory) millis = Unit {0}
