use Rattle.std.proofs.Common.{ap, rules}
use Rattle.bson_kinds.specs.Outcome.{result_map}
use Rattle.bson_values.specs.Marked.{Marked}
use Rattle.bson_laws.specs.Judged.{Reading}
use Rattle.bson_met.specs.PieceView.{str_piece}
use Rattle.bson_met.proofs.Refusals.{stops_map}
use Rattle.bson_trees.specs.Trees.{tree_under}
use Rattle.bson_trees.proofs.unique_id.pass_tree.Goals as goal

pub returns-in_err-read_under : goal.returns-in_err-read_under
returns-in_err-read_under c =
    let s = c.args.step.now in
    let here = stops_map c.in_err-read_under.field-0.0 (λ (_ : Marked). tt {0}) (tree_under (str_piece s.key).bytes s.value) c.in_err-read_under.ensures.exact in record { exact = search (rules, here) }

pub returns : goal.returns
returns c = record { exact = ap (λ (r : Reading Marked). result_map (λ _. tt) r) c.in_ok-read_under.ensures.exact }
