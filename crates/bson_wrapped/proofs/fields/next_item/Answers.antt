use Rattle.std.proofs.Common.{sym, subst}
use Rattle.bson_values.specs.Marked.{Marked}
use Rattle.bson_values.specs.Refusal.{at_index}
use Rattle.bson_laws.specs.Judged.{Reading}
use Rattle.bson_laws.specs.ReadsLeaf.{no_extended}
use Rattle.bson_laws.specs.Shaped.{reads}
use Rattle.bson_met.proofs.Refusals.{StopsAs, stops_inside}
use Rattle.bson_slots.proofs.NextParts.{value_expected}
use Rattle.bson_wrapped.proofs.fields.next_item.Goals as goal

pub returns-in-Err-clause-value : goal.returns-in-Err-clause-value
returns-in-Err-clause-value g c =
    let i = c.args.index in
    let read = reads no_extended g.T.FieldValue.form in
    let n = c.in_ok-value.value in
    let here = stops_inside (at_index i) c.in-Err.stop c.under_index.result (read n) c.under_index.ensures.under c.in-Err.ensures.exact in
    subst (λ (r : Reading Marked). StopsAs c.under_index.result r) (sym (value_expected i read c.args.items.now n c.in_ok-value.ensures.0)) here
