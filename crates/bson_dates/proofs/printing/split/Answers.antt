use Rattle.std.proofs.Common.{◌≡◌, ◌<ℤ◌, pos, rules, FitsSigned, w64}
use Rattle.std.proofs.lemmas.Int.{to_z-of_z}
use Rattle.jiff_core.specs.Date.{epoch_day}
use Rattle.bson_dates.specs.DatePrinted.{day_number}
use Rattle.bson_dates.proofs.Calendar.{no_year_before, no_year_outside}
use Rattle.bson_dates.proofs.printing.split.Goals as goal

pub returns-then-date-lt0 : goal.returns-then-date-lt0
returns-then-date-lt0 c =
    let e : epoch_day c.in-Ok.date ≡ day_number c.args.millis = search rules in
    let before : c.in-Ok.date.year <ℤ pos 0 = search (rules, c.if-date-lt0.true) in
    no_year_before c.in-Ok.date c.args.millis e before

pub returns-in-Err : goal.returns-in-Err
returns-in-Err c =
    let fm : FitsSigned w64 c.args.millis = c.ranges.millis in
    let fd : FitsSigned w64 c.div_euclid-day.result = search rules in
    let d : c.div_euclid-day.result ≡ day_number c.args.millis = simp to_z-of_z at c.div_euclid-day.ensures in
    no_year_outside c.from_unix_epoch_day.result _ c.args.millis c.div_euclid-day.result c.in-Err.is fd d c.from_unix_epoch_day.ensures.succeeds
