use Rattle.std.proofs.Common.{ap, sym, subst, ◌∙◌}
use Rattle.bson_kinds.specs.Piece.{Piece}
use Rattle.bson_values.specs.Refusal.{at_key, under}
use Rattle.bson_laws.specs.Judged.{Reading, scope_key}
use Rattle.bson_met.specs.OpenedView.{scope_node}
use Rattle.bson_met.proofs.Refusals.{StopsAs, stops_inside}
use Rattle.bson_trees.specs.Raw.{raw_document_at}
use Rattle.bson_trees.proofs.raw.borrow_scope.Goals as goal

pub returns-in-Ok : goal.returns-in-Ok
returns-in-Ok c = record { exact = ap (under scope_key) (ap raw_document_at (sym c.of_scope.ensures.node) ∙ c.in-Ok.ensures.exact) }

pub returns-in-Err : goal.returns-in-Err
returns-in-Err c =
    let n = scope_node c.args.scope in
    let here = subst (λ (r : Reading Piece). StopsAs c.in-Err.stop r) (ap raw_document_at c.of_scope.ensures.node) c.in-Err.ensures.exact in
    record { exact = stops_inside (at_key scope_key) c.in-Err.stop c.under_key.result (raw_document_at n) c.under_key.ensures.under here }
