-- Trees as values: the texts of a tree's value are those of the tree.
use Rattle.std.proofs.Common.{◌≡◌, zero, suc, refl, ap}
use Rattle.std.specs.Prelude.{codes}
use Rattle.bson_base.specs.Tree as tree
use Rattle.bson_base.specs.Tree.{Tree, Pairs, no_pairs, pair, Trees, no_trees, kind}
use Rattle.bson_kinds.specs.Piece.{made}
use Rattle.bson_values.specs.Value as value
use Rattle.bson_values.specs.Value.{item, entry}
use Rattle.bson_values.specs.Marked.{contents, item_contents, entry_contents}
use Rattle.bson_laws.specs.Datum.{two, datum, itself, pair_data, tree_data, sorted_tree}

mutual
  pub datum_contents : (t : Tree) → contents (datum made t) ≡ datum itself t
  datum_contents (tree.document ps) = ap value.map (pair_contents ps)
  datum_contents (tree.array ts) = ap value.sequence (tree_contents ts)
  datum_contents (tree.binary zero b) = refl
  datum_contents (tree.binary (suc n) b) = refl
  datum_contents (tree.javascript_code_with_scope code scope) = ap (λ es. value.structure (codes "$codeWithScope") (two itself (codes "$code") (value.str code) (codes "$scope") (value.map es))) (pair_contents scope)
  datum_contents t = refl

  pair_contents : (ps : Pairs) → entry_contents (pair_data made ps) ≡ pair_data itself ps
  pair_contents no_pairs = refl
  pair_contents (pair key t ps) = λ i. entry (value.str key) (datum_contents t i) (pair_contents ps i)

  tree_contents : (ts : Trees) → item_contents (tree_data made ts) ≡ tree_data itself ts
  tree_contents no_trees = refl
  tree_contents (tree.tree t ts) = λ i. item (datum_contents t i) (tree_contents ts i)

pub sorted_kind : (t : Tree) → kind (sorted_tree t) ≡ kind t
sorted_kind (tree.document ps) = refl
sorted_kind (tree.array ts) = refl
sorted_kind (tree.regular_expression p q) = refl
sorted_kind (tree.javascript_code_with_scope code scope) = refl
sorted_kind t = refl
