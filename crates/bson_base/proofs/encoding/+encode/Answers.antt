use Rattle.std.proofs.Common.{rules, ◌<◌, sym, subst}
use Rattle.bson_base.specs.BsonView.{tree_of, trees_of}
use Rattle.bson_base.proofs.Nodes.{nodes, trees_nodes, tree_nodes}
use Rattle.bson_base.proofs.encoding.+encode.Goals as goal

pub put_array-put_value-requires : goal.put_array-put_value-requires
put_array-put_value-requires t c =
    let smaller : nodes (tree_of c.index-values-index.result) < trees_nodes (trees_of c.args.values.now) =
    subst (λ v. nodes (tree_of v) < trees_nodes (trees_of c.args.values.now)) (sym c.index-values-index.is) (tree_nodes c.args.values.now c.loop-index.index c.index-values-index.result c.loop-index-test.true) in
    search rules
