use Rattle.std.proofs.Common.{rules, FitsSigned, w32, w64}
use Rattle.std.proofs.lemmas.Int.{to_z-of_z}
use Rattle.bson_dates.proofs.DateTexts.{clocked}
use Rattle.bson_dates.proofs.reading.after_time.Goals as goal

pub returns-in-Some-time_offset : goal.returns-in-Some-time_offset
returns-in-Some-time_offset c =
    let fits : FitsSigned w64 c.millis_at.result = search rules in
    let day : FitsSigned w32 c.args.day = c.ranges.day in
    let minutes : FitsSigned w32 c.in-Some-time_offset.minutes = search rules in
    let v = simp to_z-of_z at c.millis_at.ensures in
    rw to_z-of_z (clocked c.args.day c.args.seconds c.in-Some.milliseconds c.in-Some-time_offset.minutes c.args.text.now c.in-Some.text.now c.millis_at.result (search rules) (search rules) v)
