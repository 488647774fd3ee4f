-- The trees that are found again in their bytes: each part has the size of its kind, and each key is a name.
use Rattle.std.proofs.Common.{◌≡◌, ℕ, ◌^◌, ◌<◌, ◌++◌, length, true, false}
use Rattle.std.specs.Fmt.{decimal}
use Rattle.std.specs.Int.{w32, w64}
use Rattle.std.specs.Prelude.{FitsSigned}
use Rattle.std.specs.Str.{is_utf8}
use Rattle.bson_base.specs.Sound.{IsClean, ArePairsClean, AreTreesClean}
use Rattle.bson_kinds.specs.Text.{Bytes, Utf8, has_zero}
use Rattle.bson_base.specs.Tree.{Tree, string, javascript_code, symbol, double, document, array, object_id, date_time, regular_expression, db_pointer, javascript_code_with_scope, int32, timestamp, int64, decimal128, raw, Pairs, no_pairs, pair, Trees, no_trees, tree, closed_text, after_total}
use Rattle.bson_kinds.specs.declared.element_type.ElementType.{ElementType}
use Rattle.bson_kinds.specs.declared.element_type.ElementType.TheVariants.{EmbeddedDocument, Array, JavaScriptCodeWithScope}
use Rattle.bson_base.proofs.Indexes.{decimal_plain}
use Rattle.bson_laws.proofs.Framed.{IsFramed}

-- a text without a zero
abbrev pub IsName : Utf8 → Type 0
IsName key = (is_utf8 key ≡ true) × (has_zero key ≡ false)

pub decimal_name : (i : ℕ) → IsName (decimal i)
decimal_name i = let h = decimal_plain i in (h.text, h.free.no_zero)

-- the bytes of a document or an array that are framed as such, or those of a code with a scope that is so
abbrev pub IsRawCoded : ElementType → Bytes → Type 0
IsRawCoded EmbeddedDocument b = IsFramed b
IsRawCoded Array b = IsFramed b
IsRawCoded JavaScriptCodeWithScope b = (code : Utf8) × (scope : Bytes) × (is_utf8 code ≡ true) × IsFramed scope × (b ≡ after_total (closed_text code ++ scope))
IsRawCoded k b = ⊥

abbrev mutual
  pub IsCoded : Tree → Type 0
  IsCoded (double bytes) = length bytes ≡ 8
  IsCoded (string t) = is_utf8 t ≡ true
  IsCoded (document ps) = ArePairsCoded ps
  IsCoded (array ts) = AreTreesCoded ts
  IsCoded (object_id id) = length id ≡ 12
  IsCoded (date_time n) = FitsSigned w64 n
  IsCoded (regular_expression p q) = IsName p × IsName q
  IsCoded (db_pointer namespace id) = (is_utf8 namespace ≡ true) × (length id ≡ 12)
  IsCoded (javascript_code t) = is_utf8 t ≡ true
  IsCoded (symbol t) = is_utf8 t ≡ true
  IsCoded (javascript_code_with_scope code scope) = (is_utf8 code ≡ true) × ArePairsCoded scope
  IsCoded (int32 n) = FitsSigned w32 n
  IsCoded (timestamp time increment) = (time < 2 ^ 32) × (increment < 2 ^ 32)
  IsCoded (int64 n) = FitsSigned w64 n
  IsCoded (decimal128 bytes) = length bytes ≡ 16
  IsCoded (raw k bytes) = IsRawCoded k bytes
  IsCoded t = Unit {0}

  pub ArePairsCoded : Pairs → Type 0
  ArePairsCoded no_pairs = Unit {0}
  ArePairsCoded (pair key t ps) = IsName key × IsCoded t × ArePairsCoded ps

  pub AreTreesCoded : Trees → Type 0
  AreTreesCoded no_trees = Unit {0}
  AreTreesCoded (tree t ts) = IsCoded t × AreTreesCoded ts

-- clean trees are
mutual
  pub clean_coded : (t : Tree) → IsClean t → IsCoded t
  clean_coded (double bytes) c = c.count
  clean_coded (string t) c = c
  clean_coded (document ps) c = pairs_coded ps c
  clean_coded (array ts) c = trees_coded ts c
  clean_coded (object_id id) c = c.count
  clean_coded (date_time n) c = c
  clean_coded (regular_expression p q) c = ((c.0.text, c.0.no_zero), (c.1.text, c.1.no_zero))
  clean_coded (db_pointer namespace id) c = (c.0, c.1.count)
  clean_coded (javascript_code t) c = c
  clean_coded (symbol t) c = c
  clean_coded (javascript_code_with_scope code scope) c = (c.0, pairs_coded scope c.1)
  clean_coded (int32 n) c = c
  clean_coded (timestamp time increment) c = c
  clean_coded (int64 n) c = c
  clean_coded (decimal128 bytes) c = c.count
  clean_coded (raw k bytes) c = absurd c
  clean_coded t c = tt

  pairs_coded : (ps : Pairs) → ArePairsClean ps → ArePairsCoded ps
  pairs_coded no_pairs c = tt
  pairs_coded (pair key t ps) c = ((c.0.text, c.0.free.no_zero), clean_coded t c.2, pairs_coded ps c.3)

  trees_coded : (ts : Trees) → AreTreesClean ts → AreTreesCoded ts
  trees_coded no_trees c = tt
  trees_coded (tree t ts) c = (clean_coded t c.0, trees_coded ts c.1)
