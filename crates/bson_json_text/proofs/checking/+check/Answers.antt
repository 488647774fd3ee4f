use Rattle.std.proofs.Common.{◌<◌, sym, subst, rules}
use Rattle.bson_base.specs.BsonView.{tree_of, trees_of}
use Rattle.bson_base.proofs.Nodes.{nodes, trees_nodes, tree_nodes}
use Rattle.bson_json_text.proofs.Checks.{item_passed, items_held}
use Rattle.bson_json_text.proofs.checking.+check.Goals as goal

pub check_values-check_item-requires : goal.check_values-check_item-requires
check_values-check_item-requires t c =
    let smaller : nodes (tree_of c.index-values-index.result) < trees_nodes (trees_of c.args.values.now) =
    subst (λ v. nodes (tree_of v) < trees_nodes (trees_of c.args.values.now)) (sym c.index-values-index.is) (tree_nodes c.args.values.now c.loop-index.index c.index-values-index.result c.loop-index-test.true) in
    search rules

pub check_values-loop-index-preserved : goal.check_values-loop-index-preserved
check_values-loop-index-preserved t c =
    let xs = c.args.values.now in
    let i = c.loop-index.index in
    let x = c.index-values-index.result in (
      item_passed xs i x _ c.loop-index-test.true c.index-values-index.is c.loop-index.invariant.0 c.in_ok-check_item.ensures.fault,
      items_held xs i x c.loop-index-test.true c.index-values-index.is c.loop-index.invariant.1 c.in_ok-check_item.ensures.held,
    )
