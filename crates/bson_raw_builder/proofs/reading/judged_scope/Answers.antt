use Rattle.std.proofs.Common.{ap, sym, subst, ◌∙◌}
use Rattle.bson_rawdoc.specs.Node.{Node}
use Rattle.bson_values.specs.Refusal.{at_key, under}
use Rattle.bson_laws.specs.Judged.{Reading, judged, scope_key}
use Rattle.bson_met.specs.OpenedView.{scope_node}
use Rattle.bson_met.proofs.Refusals.{StopsAs, stops_inside}
use Rattle.bson_raw_builder.proofs.reading.judged_scope.Goals as goal

pub returns-in-Ok : goal.returns-in-Ok
returns-in-Ok c = record { exact = ap (under scope_key) (ap judged (sym c.of_scope.ensures.node) ∙ c.in-Ok.ensures.judged) }

pub returns-in-Err : goal.returns-in-Err
returns-in-Err c =
    let n = scope_node c.args.scope in
    let here = subst (λ (r : Reading Node). StopsAs c.in-Err.stop r) (ap judged c.of_scope.ensures.node) c.in-Err.ensures.judged in
    record { exact = stops_inside (at_key scope_key) c.in-Err.stop c.under_key.result (judged n) c.under_key.ensures.under here }
