use Rattle.std.proofs.Common.{rules, None, subst}
use Rattle.bson_values.specs.ErrorView.{read_fault}
use Rattle.bson_values.specs.Stop.{stop_view}
use Rattle.bson_laws.specs.ReadsLeaf.{no_extended}
use Rattle.bson_laws.specs.Shaped.{reads}
use Rattle.bson_met.specs.Gives.{RefusesAs}
use Rattle.bson_laws.specs.Containers.{next_value}
use Rattle.bson_wrapped.specs.Fields.{field_slot}
use Rattle.bson_wrapped.proofs.Placed.{second_stops}
use Rattle.bson_wrapped.proofs.fields.two_fields.Goals as goal

pub returns-in_err-second-in-Array : goal.returns-in_err-second-in-Array
returns-in_err-second-in-Array g c =
    let one = field_slot g.A.FieldValue.form c.args.first.now None in
    let other = field_slot g.B.FieldValue.form c.args.second.now None in
    let r = stop_view read_fault c.in_err-second-in-Array.field-0.0 in
    let second = subst (λ ns. RefusesAs r (next_value 1 (reads no_extended g.B.FieldValue.form) ns)) c.in_ok-first-in-Array.ensures.rest c.in_err-second-in-Array.ensures.value in
    let here = second_stops one other _ _ r c.in_ok-first-in-Array.ensures.value second in
    record { exact = search (rules, here) }
