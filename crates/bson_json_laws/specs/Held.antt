-- What holds of every value in memory. Source: this library's own types.
use Rattle.std.specs.Prelude.{FitsSigned}
use Rattle.std.specs.Int.{w32, w64}
use Rattle.bson_base.specs.Folded.{IsInKind}
use Rattle.bson_base.specs.Sound.{Lacks}
use Rattle.bson_base.specs.Tree.{Tree, document, array, javascript_code_with_scope, int32, int64, Pairs, no_pairs, pair, Trees, no_trees, tree}

abbrev mutual
  -- no key comes twice in a document, numbers and bytes are in the ranges of their kinds, and the options of a regular expression are in order
  pub IsHeld : Tree → Type 0
  IsHeld (document ps) = ArePairsHeld ps
  IsHeld (array ts) = AreTreesHeld ts
  IsHeld (javascript_code_with_scope code scope) = ArePairsHeld scope
  IsHeld (int32 n) = FitsSigned w32 n
  IsHeld (int64 n) = FitsSigned w64 n
  IsHeld t = IsInKind t

  pub ArePairsHeld : Pairs → Type 0
  ArePairsHeld no_pairs = Unit {0}
  ArePairsHeld (pair key t ps) = Lacks key ps × IsHeld t × ArePairsHeld ps

  pub AreTreesHeld : Trees → Type 0
  AreTreesHeld no_trees = Unit {0}
  AreTreesHeld (tree t ts) = IsHeld t × AreTreesHeld ts
