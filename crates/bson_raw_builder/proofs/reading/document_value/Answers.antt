use Rattle.std.proofs.Common.{Some, None, ap, sym, subst, ◌∙◌}
use Rattle.bson_base.specs.BsonView.{pairs_of}
use Rattle.bson_kinds.specs.Outcome.{◌>>=◌}
use Rattle.bson_base.specs.Tree.{document}
use Rattle.bson_values.specs.Cause.{not_borrowed}
use Rattle.bson_values.specs.Marked.{Marked}
use Rattle.bson_datum.specs.MarkedView.{marked}
use Rattle.bson_laws.specs.Assembled.{assembled_tree}
use Rattle.bson_laws.specs.Judged.{Reading}
use Rattle.bson_laws.specs.TreeRaw.{as_reading, built_value}
use Rattle.bson_met.specs.ContainerView.{document_whole, document_elements}
use Rattle.bson_met.specs.Gives.{Reaches}
use Rattle.bson_met.proofs.Refusals.{StopsAs, refused_stops}
use Rattle.bson_raw_builder.proofs.RawTrees.{opened_built, held_built}
use Rattle.bson_raw_builder.proofs.reading.document_value.Goals as goal

pub returns-then-is_opened : goal.returns-then-is_opened
returns-then-is_opened c =
    let d = c.args.document in
    let whole = opened_built (document_whole d) (document_elements d) (sym c.if-is_opened.ensures.opened) ∙ ap (λ r. r >>= λ ps. as_reading (assembled_tree (document ps))) c.in_ok-opened.ensures.exact in
    record { exact = subst (λ (r : Reading Marked). Reaches marked c.looked_value.result r) (ap (λ r. r >>= built_value) (sym whole)) c.looked_value.ensures.exact }

pub returns-in-Some : goal.returns-in-Some
returns-in-Some c =
    let d = c.args.document in
    let whole = held_built (document_whole d) (document_elements d) (Some (document (pairs_of c.in-Some.tree.now))) (sym c.if-is_opened.ensures.opened) c.in-Some.ensures.tree in
    record { exact = subst (λ (r : Reading Marked). Reaches marked c.looked_value-in-Some.result r) (ap (λ r. r >>= built_value) (sym whole)) c.looked_value-in-Some.ensures.exact }

pub returns-in-None : goal.returns-in-None
returns-in-None c =
    let d = c.args.document in
    let stop = c.refused.result in
    let whole = held_built (document_whole d) (document_elements d) None (sym c.if-is_opened.ensures.opened) c.in-None.ensures.tree in
    record { exact = subst (λ (r : Reading Marked). StopsAs stop r) (ap (λ r. r >>= built_value) (sym whole)) (refused_stops Marked not_borrowed stop c.refused.ensures.here) }
