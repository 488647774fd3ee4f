-- A clean tree is in range, and the format has bytes for it.
use Rattle.bson_base.specs.Sound.{IsClean, ArePairsClean, AreTreesClean}
use Rattle.bson_base.specs.Tree.{Tree, document, array, binary, regular_expression, javascript_code_with_scope, raw, Pairs, no_pairs, pair, Trees, no_trees, tree}
use Rattle.bson_laws.specs.Encodable.{IsEncodable, ArePairsEncodable, AreTreesEncodable}
use Rattle.bson_laws.specs.InRange.{IsInRange, ArePairsInRange, AreTreesInRange}

mutual
  pub clean_in_range : (t : Tree) → IsClean t → IsInRange t
  clean_in_range (document ps) c = pairs_in_range ps c
  clean_in_range (array ts) c = trees_in_range ts c
  clean_in_range (binary subtype b) c = (c.is_byte, c.are_bytes)
  clean_in_range (regular_expression p q) c = (c.0.text, c.1.text)
  clean_in_range (javascript_code_with_scope code scope) c = (c.0, pairs_in_range scope c.1)
  clean_in_range t c = c

  pairs_in_range : (ps : Pairs) → ArePairsClean ps → ArePairsInRange ps
  pairs_in_range no_pairs c = tt
  pairs_in_range (pair key t ps) c = (c.0.text, clean_in_range t c.2, pairs_in_range ps c.3)

  trees_in_range : (ts : Trees) → AreTreesClean ts → AreTreesInRange ts
  trees_in_range no_trees c = tt
  trees_in_range (tree t ts) c = (clean_in_range t c.0, trees_in_range ts c.1)

mutual
  pub clean_encodable : (t : Tree) → IsClean t → IsEncodable t
  clean_encodable (document ps) c = pairs_encodable ps c
  clean_encodable (array ts) c = trees_encodable ts c
  clean_encodable (binary subtype b) c = c.fits
  clean_encodable (regular_expression p q) c = (c.0.no_zero, c.1.no_zero)
  clean_encodable (javascript_code_with_scope code scope) c = pairs_encodable scope c.1
  clean_encodable (raw k b) c = absurd c
  clean_encodable t c = tt

  pairs_encodable : (ps : Pairs) → ArePairsClean ps → ArePairsEncodable ps
  pairs_encodable no_pairs c = tt
  pairs_encodable (pair key t ps) c = (c.0.free.no_zero, clean_encodable t c.2, pairs_encodable ps c.3)

  trees_encodable : (ts : Trees) → AreTreesClean ts → AreTreesEncodable ts
  trees_encodable no_trees c = tt
  trees_encodable (tree t ts) c = (clean_encodable t c.0, trees_encodable ts c.1)
