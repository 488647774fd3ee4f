use Rattle.std.proofs.Common.{rules, ◌<◌, sym, subst}
use Rattle.bson_base.specs.BsonView.{tree_of, trees_of}
use Rattle.bson_base.proofs.Nodes.{nodes, trees_nodes, tree_nodes}
use Rattle.bson_moved.proofs.clean.+clean.Goals as goal

pub are_clean-is_clean-requires : goal.are_clean-is_clean-requires
are_clean-is_clean-requires t c =
    let smaller : nodes (tree_of c.value-item.result) < trees_nodes (trees_of c.args.values.now) =
    subst (λ v. nodes (tree_of v) < trees_nodes (trees_of c.args.values.now)) (sym c.value-item.is) (tree_nodes c.args.values.now c.loop-value.value-index c.value-item.result c.loop-value-test.true) in
    search rules
