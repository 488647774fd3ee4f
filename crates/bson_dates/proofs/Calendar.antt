-- A day of the calendar as a date of jiff.
use Rattle.std.proofs.Common.{◌≡◌, ℕ, ◌≤◌, ◌<ℤ◌, sym, subst, ◌∙◌, arith, true, true≢false, ◌&&◌, nat_le, ℤ, pos, Result, Err, IsOk, ◌↔◌, FitsSigned, w64, to_z, of_z}
use Rattle.std.proofs.lemmas.Int.{ints, to_z-of_z}
use Rattle.std.proofs.lemmas.Bool.Decides.{nat_tests}
use Rattle.std.specs.Int.{IsInRange}
use Rattle.jiff_core.specs.Calendar.{IsYear, IsEpochDay, days_in_month}
use Rattle.jiff_core.specs.Date.{epoch_day}
use Rattle.jiff_core.specs.declared.civil.date.Date.{Date}
use Rattle.jiff_core.proofs.DateLemmas.{epoch_day_injective, epoch_day_range}
use Rattle.bson_dates.specs.DateText.{is_day}
use Rattle.bson_dates.specs.DatePrinted.{HasYear, day_number}

pub civil_parts : (m d top : ℕ) → (nat_le 1 m && nat_le m 12 && nat_le 1 d && nat_le d top) ≡ true → IsInRange 1 12 m × IsInRange 1 top d
civil_parts m d top e = grind (arith, nat_tests)

year_range : (y : ℕ) → y ≤ 9999 → IsYear (pos y)
year_range y le = omega (arith, ints)

date_made : (y m d : ℕ) → y ≤ 9999 → is_day y m d ≡ true → Date
date_made y m d le e =
    let p = civil_parts m d (days_in_month (pos y) m) e in
    record { year = pos y; month = m; day = d; year_in = year_range y le; month_in = p.0; day_in = p.1 }

negative_none : (z : ℤ) (y : ℕ) → z ≡ pos y → z <ℤ pos 0 → ⊥
negative_none z y e lt = omega (arith, ints)

pub no_year_before : (date : Date) (millis : ℤ) → epoch_day date ≡ day_number millis → date.year <ℤ pos 0 → HasYear millis → ⊥
unfolding date_made
no_year_before date millis e before h =
    let other = date_made h.0 h.1 h.2 h.3.in_range h.3.on_calendar in
    negative_none date.year h.0 (epoch_day_injective date other (e ∙ sym h.3.on_day)).0 before

pub no_year_outside : {T E : Type 0} (r : Result T E) (f : E) (millis day : ℤ) → r ≡ Err f → FitsSigned w64 day → day ≡ day_number millis
    → (IsOk r ↔ IsEpochDay (to_z w64 (of_z w64 day))) → HasYear millis → ⊥
unfolding date_made
no_year_outside {T = T} r f millis day is fits d s h =
    let other = date_made h.0 h.1 h.2 h.3.in_range h.3.on_calendar in
    let here : IsEpochDay day = subst IsEpochDay (h.3.on_day ∙ sym d) (epoch_day_range other) in
    let ok : IsOk r = s.1 (subst IsEpochDay (sym (to_z-of_z w64 day fits)) here) in
    let wrong : IsOk {T = T} (Err f) = rw is at ok in
    true≢false (sym wrong)
