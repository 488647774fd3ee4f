-- The trees whose parts are in the ranges of their kinds. Source: bsonspec.org, version 1.1.
use Rattle.std.specs.Prelude.{◌≡◌, ◌<◌, ◌^◌, true, FitsSigned}
use Rattle.std.specs.Int.{w32, w64}
use Rattle.std.specs.Str.{is_utf8}
use Rattle.bson_base.specs.Sound.{HasBytes}
use Rattle.bson_kinds.specs.Text.{AreBytes}
use Rattle.bson_base.specs.Tree.{Tree, double, string, document, array, binary, object_id, date_time, regular_expression, db_pointer, javascript_code, symbol, javascript_code_with_scope, int32, timestamp, int64, decimal128, raw, Pairs, no_pairs, pair, Trees, no_trees, tree}

abbrev mutual
  -- each text and key is UTF-8, each number and byte is in the range of its kind, and what has a fixed number of bytes has as many; nothing is given by its bytes
  pub IsInRange : Tree → Type 0
  IsInRange (double bits) = HasBytes 8 bits
  IsInRange (string t) = is_utf8 t ≡ true
  IsInRange (document ps) = ArePairsInRange ps
  IsInRange (array ts) = AreTreesInRange ts
  IsInRange (binary subtype b) = (subtype < 256) × AreBytes b
  IsInRange (object_id id) = HasBytes 12 id
  IsInRange (date_time n) = FitsSigned w64 n
  IsInRange (regular_expression pattern options) = (is_utf8 pattern ≡ true) × (is_utf8 options ≡ true)
  IsInRange (db_pointer namespace id) = (is_utf8 namespace ≡ true) × HasBytes 12 id
  IsInRange (javascript_code t) = is_utf8 t ≡ true
  IsInRange (symbol t) = is_utf8 t ≡ true
  IsInRange (javascript_code_with_scope code scope) = (is_utf8 code ≡ true) × ArePairsInRange scope
  IsInRange (int32 n) = FitsSigned w32 n
  IsInRange (timestamp time increment) = (time < 2 ^ 32) × (increment < 2 ^ 32)
  IsInRange (int64 n) = FitsSigned w64 n
  IsInRange (decimal128 b) = HasBytes 16 b
  IsInRange (raw k b) = ⊥
  IsInRange t = Unit {0}

  pub ArePairsInRange : Pairs → Type 0
  ArePairsInRange no_pairs = Unit {0}
  ArePairsInRange (pair key t ps) = (is_utf8 key ≡ true) × IsInRange t × ArePairsInRange ps

  pub AreTreesInRange : Trees → Type 0
  AreTreesInRange no_trees = Unit {0}
  AreTreesInRange (tree t ts) = IsInRange t × AreTreesInRange ts
