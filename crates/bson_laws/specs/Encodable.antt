-- The trees that the format has bytes for. Source: bsonspec.org, version 1.1, `cstring`, and the limits of this library.
use Rattle.std.specs.Prelude.{◌≡◌, ◌≤◌, length, false}
use Rattle.bson_base.specs.Sound.{max_binary}
use Rattle.bson_kinds.specs.Text.{has_zero}
use Rattle.bson_base.specs.Tree.{Tree, document, array, binary, regular_expression, javascript_code_with_scope, raw, Pairs, no_pairs, pair, Trees, no_trees, tree}

abbrev mutual
  -- no key and no part of a regular expression holds a zero character, no binary has more bytes than one of its subtype may, and nothing is given by its bytes
  pub IsEncodable : Tree → Type 0
  IsEncodable (document ps) = ArePairsEncodable ps
  IsEncodable (array ts) = AreTreesEncodable ts
  IsEncodable (binary subtype b) = length b ≤ max_binary subtype
  IsEncodable (regular_expression pattern options) = (has_zero pattern ≡ false) × (has_zero options ≡ false)
  IsEncodable (javascript_code_with_scope code scope) = ArePairsEncodable scope
  IsEncodable (raw k b) = ⊥
  IsEncodable t = Unit {0}

  pub ArePairsEncodable : Pairs → Type 0
  ArePairsEncodable no_pairs = Unit {0}
  ArePairsEncodable (pair key t ps) = (has_zero key ≡ false) × IsEncodable t × ArePairsEncodable ps

  pub AreTreesEncodable : Trees → Type 0
  AreTreesEncodable no_trees = Unit {0}
  AreTreesEncodable (tree t ts) = IsEncodable t × AreTreesEncodable ts
