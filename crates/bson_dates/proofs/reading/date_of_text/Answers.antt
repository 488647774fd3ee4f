use Rattle.std.proofs.Common.{◌≡◌, rules, FitsSigned, w32, true, slice_index}
use Rattle.std.proofs.lemmas.Int.{to_z-of_z}
use Rattle.bson_dates.specs.DateText.{is_separator}
use Rattle.bson_dates.proofs.DateTexts.{dated}
use Rattle.bson_dates.proofs.reading.date_of_text.Goals as goal

pub returns : goal.returns
returns c =
    let fits : FitsSigned w32 c.in-Some.day = search rules in
    let v = simp to_z-of_z at c.after_time.ensures in
    let t : is_separator (slice_index c.in-Some.text.now 0) ≡ true = search rules in
    record { value = dated c.in-Some.day c.in-Some-time_of_day.seconds c.args.text.now c.in-Some.text.now c.in-Some-time_of_day.text.now c.after_time.result c.in-Some.ensures.value c.in-len1-up.len_at_least t c.in-Some-time_of_day.ensures.value v }
