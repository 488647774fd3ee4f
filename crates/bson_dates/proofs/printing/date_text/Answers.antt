use Rattle.std.proofs.Common.{FitsSigned, w64, ap, ◌∙◌}
use Rattle.std.proofs.lemmas.Int.{to_z-of_z}
use Rattle.bson_dates.specs.DateText.{date_of_text}
use Rattle.bson_dates.proofs.ReadBack.{text_back}
use Rattle.bson_dates.proofs.printing.date_text.Goals as goal

pub returns-clause-read_back : goal.returns-clause-read_back
returns-clause-read_back c =
    let p = c.in-Some.parts in
    let fits : FitsSigned w64 c.args.millis = c.ranges.millis in
    let lies = simp to_z-of_z at c.in-Some.ensures in
    ap date_of_text c.in_ok-text.ensures ∙ text_back c.args.millis p.year p.month p.day p.millis_of_day lies
