-- What the relaxed text of a value is read as. Source: MongoDB's extended JSON, version 2.
use Rattle.bson_base.specs.Tree.{Tree, document, array, javascript_code_with_scope, int64, Pairs, no_pairs, pair, Trees, no_trees, tree}
use Rattle.bson_json_laws.specs.Read.{integer_tree}

abbrev mutual
  -- an Int64 becomes an Int32 where it fits one; all else stays
  pub relaxed : Tree → Tree
  relaxed (document ps) = document (relaxed_pairs ps)
  relaxed (array ts) = array (relaxed_trees ts)
  relaxed (javascript_code_with_scope code scope) = javascript_code_with_scope code (relaxed_pairs scope)
  relaxed (int64 n) = integer_tree n
  relaxed t = t

  pub relaxed_pairs : Pairs → Pairs
  relaxed_pairs no_pairs = no_pairs
  relaxed_pairs (pair key t ps) = pair key (relaxed t) (relaxed_pairs ps)

  pub relaxed_trees : Trees → Trees
  relaxed_trees no_trees = no_trees
  relaxed_trees (tree t ts) = tree (relaxed t) (relaxed_trees ts)
