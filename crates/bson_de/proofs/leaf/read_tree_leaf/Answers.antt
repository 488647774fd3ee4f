use Rattle.std.proofs.Common.{rules, ap, sym, subst, ◌∙◌}
use Rattle.bson_kinds.specs.Outcome.{◌>>=◌}
use Rattle.bson_values.specs.Cause.{not_borrowed}
use Rattle.bson_values.specs.Marked.{Marked}
use Rattle.bson_datum.specs.MarkedView.{marked}
use Rattle.bson_laws.specs.Judged.{Reading, refused, judged}
use Rattle.bson_laws.proofs.TreeLeaves.{leaf_alike, other_alike}
use Rattle.bson_met.specs.Gives.{Reaches}
use Rattle.bson_met.proofs.Refusals.{StopsAs, stops_bind, refused_stops}
use Rattle.bson_de.proofs.LeafRows.{borrowing_leaf, raw_leaf}
use Rattle.bson_de.proofs.leaf.read_tree_leaf.Goals as goal

pub returns-in_ok-judge-in-Str : goal.returns-in_ok-judge-in-Str
returns-in_ok-judge-in-Str c =
    let whole = borrowing_leaf c.args.leaf c.args.value.now c.in-Str.is ∙ ap (λ r. r >>= λ _. refused not_borrowed) c.in_ok-judge-in-Str.ensures.judged in
    record { exact = subst (λ (r : Reading Marked). StopsAs c.refused.result r) (sym whole) (refused_stops Marked not_borrowed c.refused.result c.refused.ensures.here) }

pub returns-in_err-judge-in-Str : goal.returns-in_err-judge-in-Str
returns-in_err-judge-in-Str c =
    let n = c.args.value.now in
    let stop = c.in_err-judge-in-Str.field-0.0 in
    let here = subst (λ (r : Reading Marked). StopsAs stop r) (sym (borrowing_leaf c.args.leaf n c.in-Str.is)) (stops_bind stop (judged n) (λ _. refused not_borrowed) c.in_err-judge-in-Str.ensures.judged) in
    record { exact = search (rules, here) }

pub read_raw_tree-requires : goal.read_raw_tree-requires
read_raw_tree-requires c = record { raw = raw_leaf c.args.leaf c.in-RawDocument.is }

pub returns-in_default : goal.returns-in_default
returns-in_default c =
    let l = c.args.leaf in
    let d = c.in_default in
    record {
      exact = subst (λ (r : Reading Marked). Reaches marked c.read_any_leaf.result r)
          (sym (leaf_alike l c.args.value.now (other_alike l d.not-Str d.not-Bytes d.not-RawDocument d.not-RawArray d.not-RawBson))) c.read_any_leaf.ensures.exact;
    }
