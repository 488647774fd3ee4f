use Rattle.std.proofs.Common.{◌≡◌, arith, rules, FitsSigned, w32, pos}
use Rattle.std.proofs.lemmas.Int.{ints, to_z-of_z}
use Rattle.bson_dates.proofs.DateTexts.{day_ok}
use Rattle.bson_dates.proofs.reading.day_of.Goals as goal

pub returns-in-Ok-clause-value : goal.returns-in-Ok-clause-value
returns-in-Ok-clause-value c =
    let v = c.in-Ok.ensures.value in
    let w = c.to_unix_epoch_day.ensures.value in
    let fits : FitsSigned w32 c.to_unix_epoch_day.result = search rules in
    let y : c.in-Ok.date.year ≡ pos c.args.year = omega (arith, ints, v) in
    let m : c.in-Ok.date.month ≡ c.args.month = omega (arith, ints, v) in
    let d : c.in-Ok.date.day ≡ c.args.day = omega (arith, ints, v) in
    rw to_z-of_z (day_ok _ _ _ _ _ _ _ y m d c.in-Ok.date.month_in c.in-Ok.date.day_in w)
