-- How many values are in a value, and that those inside another are fewer.
use Rattle.std.proofs.Common.{ℕ, zero, suc, ◌+◌, ◌<◌, List, [], ◌∷◌, length, get_or, arith}
use Rattle.bson_key_map.specs.declared.pair.Pair.{Pair}
use Rattle.bson_base.specs.Tree.{Tree, document, array, javascript_code_with_scope, Pairs, no_pairs, pair, Trees, no_trees, tree}
use Rattle.bson_base.specs.BsonView.{tree_of, trees_of, listed_pairs}
use Rattle.bson_base.specs.declared.bson.Bson.{Bson}

abbrev mutual
  pub nodes : Tree → ℕ
  nodes (document ps) = pairs_nodes ps + 1
  nodes (array ts) = trees_nodes ts + 1
  nodes (javascript_code_with_scope code scope) = pairs_nodes scope + 1
  nodes t = 1

  pub pairs_nodes : Pairs → ℕ
  pairs_nodes no_pairs = 1
  pairs_nodes (pair key t ps) = nodes t + pairs_nodes ps + 1

  pub trees_nodes : Trees → ℕ
  trees_nodes no_trees = 1
  trees_nodes (tree t ts) = nodes t + trees_nodes ts + 1

pub pair_nodes : (ps : List (Pair Bson)) (i : ℕ) (d : Pair Bson) → i < length ps → nodes (tree_of (get_or ps i d).value) < pairs_nodes (listed_pairs ps)
pair_nodes [] i d h = absurd (omega arith)
pair_nodes (p ∷ ps) zero d h = omega arith
pair_nodes (p ∷ ps) (suc i) d h = omega (arith, pair_nodes ps i d (omega arith))

pub tree_nodes : (vs : List Bson) (i : ℕ) (d : Bson) → i < length vs → nodes (tree_of (get_or vs i d)) < trees_nodes (trees_of vs)
tree_nodes [] i d h = absurd (omega arith)
tree_nodes (v ∷ vs) zero d h = omega arith
tree_nodes (v ∷ vs) (suc i) d h = omega (arith, tree_nodes vs i d (omega arith))
