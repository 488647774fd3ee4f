use Rattle.std.proofs.Common.{ap, sym, subst, ◌∙◌, rules}
use Rattle.bson_kinds.specs.Outcome.{◌>>=◌}
use Rattle.bson_kinds.specs.Text.{Bytes}
use Rattle.bson_base.specs.Tree.{Tree, kind}
use Rattle.bson_kinds.proofs.Outcomes.{map_ok}
use Rattle.bson_kinds.specs.Piece.{made}
use Rattle.bson_values.specs.Cause.{wrong_kind}
use Rattle.bson_values.specs.ErrorView.{read_fault}
use Rattle.bson_datum.specs.MarkedView.{marked}
use Rattle.bson_values.specs.Stop.{stop_view}
use Rattle.bson_laws.specs.Datum.{datum}
use Rattle.bson_laws.specs.Judged.{Reading}
use Rattle.bson_laws.specs.ReadsExtended.{uuid_in}
use Rattle.bson_laws.specs.Trees.{read_tree}
use Rattle.bson_met.specs.Gives.{IsRefusedOrNoMemory}
use Rattle.bson_met.specs.PieceView.{str_piece}
use Rattle.bson_met.proofs.Refusals.{StopsAs, refused_stops}
use Rattle.bson_trees.specs.Trees.{wrapped_tree}
use Rattle.bson_trees.proofs.ReadKinds.{other_not_raw}
use Rattle.bson_trees.proofs.TreeData.{kind_is, bind_stops}
use Rattle.bson_trees.proofs.WrappedKinds.{wrapped_other, other_uuid}
use Rattle.bson_trees.proofs.unique_id.not_binary.Goals as goal

pub returns-in_err-value : goal.returns-in_err-value
returns-in_err-value c =
    let s = c.args.step.now in
    let whole = wrapped_tree c.args.wrapper (str_piece s.key).bytes s.value c.args.rest in
    let here = bind_stops c.in_err-value.field-0.0 (datum made) whole uuid_in c.in_err-value.ensures.exact in
    record { exact = search (rules, here) }

pub returns : goal.returns
returns c =
    let s = c.args.step.now in
    let key = (str_piece s.key).bytes in
    let w = c.args.wrapper in
    let d = c.in_ok-value.value in
    let stop = c.wrong_kind.result in
    let whole = wrapped_tree w key s.value c.args.rest in
    let m = map_ok (datum made) whole (marked d) c.in_ok-value.ensures.exact in
    let neither = wrapped_other w c.requires.other key s.value c.args.rest (read_tree s.value) m.0 m.1 in
    let other = other_uuid m.0 neither in
    record {
      exact = subst (λ (r : Reading Bytes). StopsAs stop r) (sym (ap (λ (r : Reading Tree). r >>= uuid_in) m.1 ∙ other))
          (refused_stops Bytes (wrong_kind (kind m.0)) stop
          (subst (λ k. IsRefusedOrNoMemory (wrong_kind k) (stop_view read_fault stop)) (kind_is d m.0 (other_not_raw m.0 neither) m.2) c.wrong_kind.ensures.here));
    }
