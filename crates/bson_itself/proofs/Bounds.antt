-- A tree that is itself at a leaf is found again in its bytes, and is within the levels.
use Rattle.std.proofs.Common.{ℕ, zero, suc, ◌≤◌, arith}
use Rattle.bson_base.specs.Tree as tree
use Rattle.bson_base.specs.Tree.{Tree, double, string, document, array, binary, undefined, object_id, boolean, date_time, null, regular_expression, db_pointer, javascript_code, symbol, javascript_code_with_scope, int32, timestamp, int64, decimal128, max_key, min_key, raw, Pairs, no_pairs, pair, Trees, no_trees, depth, pairs_depth, trees_depth}
use Rattle.bson_laws.proofs.Coded.{IsCoded, ArePairsCoded, AreTreesCoded}
use Rattle.bson_itself.specs.Itself.{AtBson, IsItself, ArePairsThemselves, AreTreesThemselves}
use Rattle.bson_itself.specs.declared.untyped.UntypedLeaf.{UntypedLeaf}
use Rattle.bson_itself.specs.declared.untyped.UntypedLeaf.TheVariants.{Any, Bson}

-- what is taken at `bson` alone is taken there
at_bson : (leaf : UntypedLeaf) (taken : Type 0) → AtBson leaf taken → taken
at_bson Any taken h = absurd h
at_bson Bson taken h = h

mutual
  pub itself_coded : (leaf : UntypedLeaf) (t : Tree) (levels : ℕ) → IsItself leaf t levels → IsCoded t
  itself_coded leaf (double b) levels h = h.count
  itself_coded leaf (string t) levels h = h
  itself_coded leaf (document ps) zero h = absurd h
  itself_coded leaf (document ps) (suc m) h = pairs_coded leaf ps m h
  itself_coded leaf (array ts) zero h = absurd h
  itself_coded leaf (array ts) (suc m) h = trees_coded leaf ts m h
  itself_coded leaf (binary n b) levels h = tt
  itself_coded leaf undefined levels h = tt
  itself_coded leaf (object_id id) levels h = (at_bson leaf _ h).count
  itself_coded leaf (boolean b) levels h = tt
  itself_coded leaf (date_time n) levels h = at_bson leaf _ h
  itself_coded leaf null levels h = tt
  itself_coded leaf (regular_expression p q) levels h = let e = at_bson leaf _ h in ((e.0.text, e.0.no_zero), (e.1.text, e.1.no_zero))
  itself_coded leaf (db_pointer namespace id) levels h = let e = at_bson leaf _ h in (e.0, e.1.count)
  itself_coded leaf (javascript_code t) levels h = at_bson leaf _ h
  itself_coded leaf (symbol t) levels h = at_bson leaf _ h
  itself_coded leaf (javascript_code_with_scope code scope) zero h = absurd (at_bson leaf _ h).1
  itself_coded leaf (javascript_code_with_scope code scope) (suc m) h = let e = at_bson leaf _ h in (e.0, pairs_coded leaf scope m e.1)
  itself_coded leaf (int32 n) levels h = h
  itself_coded leaf (timestamp time increment) levels h = at_bson leaf _ h
  itself_coded leaf (int64 n) levels h = h
  itself_coded leaf (decimal128 b) levels h = (at_bson leaf _ h).count
  itself_coded leaf max_key levels h = tt
  itself_coded leaf min_key levels h = tt
  itself_coded leaf (raw k b) levels h = absurd h

  pairs_coded : (leaf : UntypedLeaf) (ps : Pairs) (levels : ℕ) → ArePairsThemselves leaf ps levels → ArePairsCoded ps
  pairs_coded leaf no_pairs levels h = tt
  pairs_coded leaf (pair key t ps) levels h = ((h.0, h.1), itself_coded leaf t levels h.4, pairs_coded leaf ps levels h.5)

  trees_coded : (leaf : UntypedLeaf) (ts : Trees) (levels : ℕ) → AreTreesThemselves leaf ts levels → AreTreesCoded ts
  trees_coded leaf no_trees levels h = tt
  trees_coded leaf (tree.tree t ts) levels h = (itself_coded leaf t levels h.0, trees_coded leaf ts levels h.1)

mutual
  pub itself_within : (leaf : UntypedLeaf) (t : Tree) (levels : ℕ) → IsItself leaf t levels → depth t ≤ levels
  itself_within leaf (document ps) zero h = absurd h
  itself_within leaf (document ps) (suc m) h = omega (arith, pairs_within leaf ps m h)
  itself_within leaf (array ts) zero h = absurd h
  itself_within leaf (array ts) (suc m) h = omega (arith, trees_within leaf ts m h)
  itself_within leaf (javascript_code_with_scope code scope) zero h = absurd (at_bson leaf _ h).1
  itself_within leaf (javascript_code_with_scope code scope) (suc m) h = omega (arith, pairs_within leaf scope m (at_bson leaf _ h).1)
  itself_within leaf (raw k b) levels h = absurd h
  itself_within leaf t levels h = omega arith

  pairs_within : (leaf : UntypedLeaf) (ps : Pairs) (levels : ℕ) → ArePairsThemselves leaf ps levels → pairs_depth ps ≤ levels
  pairs_within leaf no_pairs levels h = omega arith
  pairs_within leaf (pair key t ps) levels h = omega (arith, itself_within leaf t levels h.4, pairs_within leaf ps levels h.5)

  trees_within : (leaf : UntypedLeaf) (ts : Trees) (levels : ℕ) → AreTreesThemselves leaf ts levels → trees_depth ts ≤ levels
  trees_within leaf no_trees levels h = omega arith
  trees_within leaf (tree.tree t ts) levels h = omega (arith, itself_within leaf t levels h.0, trees_within leaf ts levels h.1)
