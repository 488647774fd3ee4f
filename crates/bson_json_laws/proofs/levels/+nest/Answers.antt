use Rattle.std.proofs.Common.{◌<◌, sym, subst, rules}
use Rattle.bson_base.specs.BsonView.{tree_of, trees_of}
use Rattle.bson_base.proofs.Nodes.{nodes, trees_nodes, tree_nodes}
use Rattle.bson_json_laws.proofs.levels.+nest.Goals as goal

pub are_values_within-is_within-requires : goal.are_values_within-is_within-requires
are_values_within-is_within-requires t c =
    let smaller : nodes (tree_of c.value-item.result) < trees_nodes (trees_of c.args.values.now) =
    subst (λ v. nodes (tree_of v) < trees_nodes (trees_of c.args.values.now)) (sym c.value-item.is) (tree_nodes c.args.values.now c.loop-value.value-index c.value-item.result c.loop-value-test.true) in
    search rules
