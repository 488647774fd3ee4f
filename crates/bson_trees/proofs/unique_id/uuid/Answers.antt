use Rattle.std.proofs.Common.{Ok, ap, sym, subst, ◌∙◌, rules}
use Rattle.bson_kinds.specs.Outcome.{result_map}
use Rattle.bson_kinds.specs.Piece.{made}
use Rattle.bson_values.specs.Marked.{Marked}
use Rattle.bson_laws.specs.Datum.{uuid_datum}
use Rattle.bson_laws.specs.Judged.{Reading, judged}
use Rattle.bson_laws.specs.ReadsExtended.{uuid_at}
use Rattle.bson_met.proofs.Refusals.{StopsAs, stops_map}
use Rattle.bson_wrapped.proofs.Made.{mapped}
use Rattle.bson_trees.specs.Leaves.{uuid_from}
use Rattle.bson_trees.proofs.unique_id.uuid.Goals as goal

pub returns-in_err-id : goal.returns-in_err-id
returns-in_err-id c =
    let n = c.args.value.now in
    let stop = c.in_err-id.field-0.0 in
    let here = subst (λ (r : Reading Marked). StopsAs stop r) (sym (mapped (uuid_datum made) (judged n) (uuid_at))) (stops_map stop (uuid_datum made) (uuid_from n) c.in_err-id.ensures.exact) in
    record { exact = search (rules, here) }

pub returns : goal.returns
returns c =
    let n = c.args.value.now in
    record { exact = mapped (uuid_datum made) (judged n) (uuid_at) ∙ ap (result_map (uuid_datum made)) c.in_ok-id.ensures.exact ∙ ap Ok (sym c.in_ok-uuid.ensures.datum) }
