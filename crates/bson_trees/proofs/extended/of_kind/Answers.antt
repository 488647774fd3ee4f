use Rattle.std.proofs.Common.{sym, subst, rules}
use Rattle.bson_kinds.proofs.Outcomes.{map_ok}
use Rattle.bson_kinds.specs.Piece.{made}
use Rattle.bson_values.specs.Marked.{Marked}
use Rattle.bson_datum.specs.MarkedView.{marked}
use Rattle.bson_laws.specs.Datum.{datum}
use Rattle.bson_laws.specs.Judged.{Reading}
use Rattle.bson_laws.specs.Trees.{read_tree}
use Rattle.bson_met.specs.Gives.{Reaches}
use Rattle.bson_trees.proofs.ExtendedLeaves.{kind_read, kind_stops}
use Rattle.bson_trees.proofs.ReadKinds.{read_not_raw}
use Rattle.bson_trees.proofs.extended.of_kind.Goals as goal

pub returns-in_err-value : goal.returns-in_err-value
returns-in_err-value c = let here = kind_stops c.args.kind c.args.value.now c.in_err-value.field-0.0 c.in_err-value.ensures.exact in record { exact = search (rules, here) }

pub returns : goal.returns
returns c =
    let n = c.args.value.now in
    let m = map_ok (datum made) (read_tree n) (marked c.in_ok-value.value) c.in_ok-value.ensures.exact in
    record { exact = subst (λ (r : Reading Marked). Reaches marked c.with_kind.result r) (sym (kind_read c.args.kind n m.0 m.1)) (c.with_kind.ensures.exact m.0 (read_not_raw n m.0 m.1) m.2) }
