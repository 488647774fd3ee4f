use Rattle.std.proofs.Common.{sym, ◌∙◌, subst, Some}
use Rattle.bson_rawdoc.specs.DocumentTree.{tree_at}
use Rattle.bson_rawdoc.specs.ValueView.{raw_value}
use Rattle.bson_infer_run.specs.Covered.{Has}
use Rattle.bson_infer_run.proofs.Covering.{has_plain}
use Rattle.bson_infer_run.proofs.covered.size_of_leaf.Goals as goal

pub returns : goal.returns
returns c =
    let s = c.summary.inside in
    let r = tree_at 0 (raw_value c.args.value) in
    subst (λ f. Has 0 f (Some c.in_ok-found.size) r) c.summary.view_is
    (has_plain s.or_null s.kind c.in-Leaf.leaf c.in_ok-found.found c.in_ok-found.size r c.in-Leaf.is (sym c.is_within.ensures ∙ c.if-not-is_within.false) c.in_ok-found.ensures)
