-- The trees in which no document is looked at as another value. Source: MongoDB's extended JSON, version 2.
use Rattle.std.specs.Prelude.{◌≡◌, false}
use Rattle.bson_kinds.specs.Text.{begins_with_dollar}
use Rattle.bson_base.specs.Tree.{Tree, document, array, javascript_code_with_scope, Pairs, no_pairs, pair, Trees, no_trees, tree}

abbrev mutual
  -- no key of a document or a scope begins with `$`
  pub HasFreeKeys : Tree → Type 0
  HasFreeKeys (document ps) = AreKeysFree ps
  HasFreeKeys (array ts) = HaveFreeKeys ts
  HasFreeKeys (javascript_code_with_scope text scope) = AreKeysFree scope
  HasFreeKeys t = Unit {0}

  pub AreKeysFree : Pairs → Type 0
  AreKeysFree no_pairs = Unit {0}
  AreKeysFree (pair key t ps) = (begins_with_dollar key ≡ false) × HasFreeKeys t × AreKeysFree ps

  pub HaveFreeKeys : Trees → Type 0
  HaveFreeKeys no_trees = Unit {0}
  HaveFreeKeys (tree t ts) = HasFreeKeys t × HaveFreeKeys ts
