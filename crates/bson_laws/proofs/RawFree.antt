-- In clean trees nothing is given by its bytes.
use Rattle.bson_base.specs.Sound.{IsClean, ArePairsClean, AreTreesClean}
use Rattle.bson_base.specs.Tree.{Tree, document, array, javascript_code_with_scope, raw, Pairs, no_pairs, pair, Trees, no_trees, tree}
use Rattle.bson_laws.specs.RawFree.{IsRawFree, ArePairsRawFree, AreTreesRawFree}

mutual
  pub clean_raw_free : (t : Tree) → IsClean t → IsRawFree t
  clean_raw_free (document ps) c = pairs_raw_free ps c
  clean_raw_free (array ts) c = trees_raw_free ts c
  clean_raw_free (javascript_code_with_scope code scope) c = pairs_raw_free scope c.1
  clean_raw_free (raw k b) c = absurd c
  clean_raw_free t c = tt

  pub pairs_raw_free : (ps : Pairs) → ArePairsClean ps → ArePairsRawFree ps
  pairs_raw_free no_pairs c = tt
  pairs_raw_free (pair key t ps) c = (clean_raw_free t c.2, pairs_raw_free ps c.3)

  trees_raw_free : (ts : Trees) → AreTreesClean ts → AreTreesRawFree ts
  trees_raw_free no_trees c = tt
  trees_raw_free (tree t ts) c = (clean_raw_free t c.0, trees_raw_free ts c.1)
