-- A tree that is itself at `bson` is one that reading gives, its parts are in their ranges, and the format has bytes for it.
use Rattle.std.proofs.Common.{ℕ, zero, suc}
use Rattle.bson_base.specs.Tree as tree
use Rattle.bson_base.specs.Tree.{Tree, double, string, document, array, binary, object_id, date_time, regular_expression, db_pointer, javascript_code, symbol, javascript_code_with_scope, int32, timestamp, int64, decimal128, raw, Pairs, no_pairs, pair, Trees, no_trees}
use Rattle.bson_laws.specs.Encodable.{IsEncodable, ArePairsEncodable, AreTreesEncodable}
use Rattle.bson_laws.specs.InRange.{IsInRange, ArePairsInRange, AreTreesInRange}
use Rattle.bson_laws.proofs.GivenTrees.{IsGivenTree, ArePairsGiven, AreTreesGiven}
use Rattle.bson_itself.specs.Itself.{IsItself, ArePairsThemselves, AreTreesThemselves}
use Rattle.bson_itself.specs.declared.untyped.UntypedLeaf.TheVariants.{Bson}

mutual
  pub itself_given : (t : Tree) (levels : ℕ) → IsItself Bson t levels → IsGivenTree t
  itself_given (double b) levels h = h.count
  itself_given (string t) levels h = h
  itself_given (document ps) zero h = absurd h
  itself_given (document ps) (suc m) h = pairs_given ps m h
  itself_given (array ts) zero h = absurd h
  itself_given (array ts) (suc m) h = trees_given ts m h
  itself_given (binary zero b) levels h = tt
  itself_given (binary (suc n) b) levels h = (h.1.is_byte, h.1.are_bytes)
  itself_given (object_id id) levels h = (h.count, h.are_bytes)
  itself_given (date_time n) levels h = h
  itself_given (regular_expression p q) levels h = (h.0.text, h.1.text, h.2)
  itself_given (db_pointer namespace id) levels h = (h.0, h.1.count, h.1.are_bytes)
  itself_given (javascript_code t) levels h = h
  itself_given (symbol t) levels h = h
  itself_given (javascript_code_with_scope code scope) zero h = absurd h.1
  itself_given (javascript_code_with_scope code scope) (suc m) h = (h.0, pairs_given scope m h.1)
  itself_given (int32 n) levels h = h
  itself_given (timestamp time increment) levels h = h
  itself_given (int64 n) levels h = h
  itself_given (decimal128 b) levels h = h.count
  itself_given (raw k b) levels h = absurd h
  itself_given t levels h = tt

  pairs_given : (ps : Pairs) (levels : ℕ) → ArePairsThemselves Bson ps levels → ArePairsGiven ps
  pairs_given no_pairs levels h = tt
  pairs_given (pair key t ps) levels h = ((h.0, h.1), h.2, h.3, itself_given t levels h.4, pairs_given ps levels h.5)

  trees_given : (ts : Trees) (levels : ℕ) → AreTreesThemselves Bson ts levels → AreTreesGiven ts
  trees_given no_trees levels h = tt
  trees_given (tree.tree t ts) levels h = (itself_given t levels h.0, trees_given ts levels h.1)

mutual
  pub itself_in_range : (t : Tree) (levels : ℕ) → IsItself Bson t levels → IsInRange t
  itself_in_range (document ps) zero h = absurd h
  itself_in_range (document ps) (suc m) h = pairs_in_range ps m h
  itself_in_range (array ts) zero h = absurd h
  itself_in_range (array ts) (suc m) h = trees_in_range ts m h
  itself_in_range (binary n b) levels h = (h.1.is_byte, h.1.are_bytes)
  itself_in_range (regular_expression p q) levels h = (h.0.text, h.1.text)
  itself_in_range (javascript_code_with_scope code scope) zero h = absurd h.1
  itself_in_range (javascript_code_with_scope code scope) (suc m) h = (h.0, pairs_in_range scope m h.1)
  itself_in_range t levels h = h

  pairs_in_range : (ps : Pairs) (levels : ℕ) → ArePairsThemselves Bson ps levels → ArePairsInRange ps
  pairs_in_range no_pairs levels h = tt
  pairs_in_range (pair key t ps) levels h = (h.0, itself_in_range t levels h.4, pairs_in_range ps levels h.5)

  trees_in_range : (ts : Trees) (levels : ℕ) → AreTreesThemselves Bson ts levels → AreTreesInRange ts
  trees_in_range no_trees levels h = tt
  trees_in_range (tree.tree t ts) levels h = (itself_in_range t levels h.0, trees_in_range ts levels h.1)

mutual
  pub itself_encodable : (t : Tree) (levels : ℕ) → IsItself Bson t levels → IsEncodable t
  itself_encodable (document ps) zero h = absurd h
  itself_encodable (document ps) (suc m) h = pairs_encodable ps m h
  itself_encodable (array ts) zero h = absurd h
  itself_encodable (array ts) (suc m) h = trees_encodable ts m h
  itself_encodable (binary n b) levels h = h.1.fits
  itself_encodable (regular_expression p q) levels h = (h.0.no_zero, h.1.no_zero)
  itself_encodable (javascript_code_with_scope code scope) zero h = absurd h.1
  itself_encodable (javascript_code_with_scope code scope) (suc m) h = pairs_encodable scope m h.1
  itself_encodable (raw k b) levels h = absurd h
  itself_encodable t levels h = tt

  pairs_encodable : (ps : Pairs) (levels : ℕ) → ArePairsThemselves Bson ps levels → ArePairsEncodable ps
  pairs_encodable no_pairs levels h = tt
  pairs_encodable (pair key t ps) levels h = (h.1, itself_encodable t levels h.4, pairs_encodable ps levels h.5)

  trees_encodable : (ts : Trees) (levels : ℕ) → AreTreesThemselves Bson ts levels → AreTreesEncodable ts
  trees_encodable no_trees levels h = tt
  trees_encodable (tree.tree t ts) levels h = (itself_encodable t levels h.0, trees_encodable ts levels h.1)
