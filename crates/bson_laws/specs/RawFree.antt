-- The trees in which nothing is given by its bytes. Source: this library's own types.
use Rattle.bson_base.specs.Tree.{Tree, document, array, javascript_code_with_scope, raw, Pairs, no_pairs, pair, Trees, no_trees, tree}

abbrev mutual
  -- nothing in the tree is given by its bytes
  pub IsRawFree : Tree → Type 0
  IsRawFree (document ps) = ArePairsRawFree ps
  IsRawFree (array ts) = AreTreesRawFree ts
  IsRawFree (javascript_code_with_scope code scope) = ArePairsRawFree scope
  IsRawFree (raw k bytes) = ⊥
  IsRawFree t = Unit {0}

  pub ArePairsRawFree : Pairs → Type 0
  ArePairsRawFree no_pairs = Unit {0}
  ArePairsRawFree (pair key t ps) = IsRawFree t × ArePairsRawFree ps

  pub AreTreesRawFree : Trees → Type 0
  AreTreesRawFree no_trees = Unit {0}
  AreTreesRawFree (tree t ts) = IsRawFree t × AreTreesRawFree ts
