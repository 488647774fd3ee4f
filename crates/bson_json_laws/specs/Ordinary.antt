-- The values whose text tells all of their bytes, where they are clean. Source: IEEE 754-2008, sections 3.4 and 3.5.2, and bsonspec.org, version 1.1, regular expressions.
use Rattle.std.specs.Prelude.{◌≡◌, [], ◌∷◌}
use Rattle.std.specs.Float.{nan}
use Rattle.bson_decimals.specs.Law.{IsCanonical}
use Rattle.bson_kinds.specs.Text.{Bytes}
use Rattle.bson_base.specs.Sorted.{sorted}
use Rattle.bson_base.specs.Tree.{Tree, double, document, array, regular_expression, javascript_code_with_scope, decimal128, Pairs, no_pairs, pair, Trees, no_trees, tree}
use Rattle.bson_json_laws.specs.Doubles.{float_in}

-- the bytes of the one NaN that has a text
abbrev pub nan_bytes : Bytes
nan_bytes = 0 ∷ 0 ∷ 0 ∷ 0 ∷ 0 ∷ 0 ∷ 0xf8 ∷ 0x7f ∷ []

abbrev mutual
  -- each NaN has these bytes, each decimal is canonical, and the options of each regular expression are in order
  pub IsOrdinary : Tree → Type 0
  IsOrdinary (double bytes) = float_in bytes ≡ nan → bytes ≡ nan_bytes
  IsOrdinary (decimal128 bytes) = IsCanonical bytes
  IsOrdinary (regular_expression pattern options) = sorted options ≡ options
  IsOrdinary (document ps) = ArePairsOrdinary ps
  IsOrdinary (array ts) = AreTreesOrdinary ts
  IsOrdinary (javascript_code_with_scope code scope) = ArePairsOrdinary scope
  IsOrdinary t = Unit {0}

  pub ArePairsOrdinary : Pairs → Type 0
  ArePairsOrdinary no_pairs = Unit {0}
  ArePairsOrdinary (pair key t ps) = IsOrdinary t × ArePairsOrdinary ps

  pub AreTreesOrdinary : Trees → Type 0
  AreTreesOrdinary no_trees = Unit {0}
  AreTreesOrdinary (tree t ts) = IsOrdinary t × AreTreesOrdinary ts
