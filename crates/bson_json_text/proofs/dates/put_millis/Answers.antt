use Rattle.std.proofs.Common.{rules, w64, FitsSigned}
use Rattle.std.proofs.lemmas.Int.{to_z-of_z}
use Rattle.bson_json_text.proofs.Nested.{one_closed}
use Rattle.bson_json_text.proofs.dates.put_millis.Goals as goal

pub returns : goal.returns
returns c =
    let fits : FitsSigned w64 c.args.milliseconds = search rules in
    let v = simp to_z-of_z at c.in_ok-put_integer.ensures in
    one_closed c.close.result _ _ _ _ _ _ c.in_ok-open.ensures v c.close.ensures
