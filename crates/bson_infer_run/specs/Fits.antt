-- The values that may be in a sound document, so many levels deep. Source: the limits of this library.
use Rattle.std.specs.Prelude.{ℕ, ◌≤◌, length}
use Rattle.bson_base.specs.Sound.{IsClean, ArePairsClean, AreTreesClean, max_bytes}
use Rattle.bson_base.specs.Tree.{Tree, Pairs, Trees, depth, pairs_depth, trees_depth, enc, elements, array_elements}

pub record Fits (levels : ℕ) (t : Tree) : Type 0 where
  pub clean : IsClean t
  pub nests : depth t ≤ levels
  pub small : length (enc t) ≤ max_bytes

-- the same for the pairs of a document
pub record PairsFit (levels : ℕ) (ps : Pairs) : Type 0 where
  pub clean : ArePairsClean ps
  pub nests : pairs_depth ps ≤ levels
  pub small : length (elements ps) ≤ max_bytes

-- and for the values of an array, from this index on
pub record TreesFit (levels i : ℕ) (ts : Trees) : Type 0 where
  pub clean : AreTreesClean ts
  pub nests : trees_depth ts ≤ levels
  pub small : length (array_elements i ts) ≤ max_bytes
