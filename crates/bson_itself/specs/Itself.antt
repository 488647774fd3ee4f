-- The trees that are written at `any`, or at `bson`, as they were read. Source: serde's data model, MongoDB's extended JSON, version 2, and bsonspec.org, version 1.1, `element`,
-- `binary` and `string`.
use Rattle.std.specs.Prelude.{◌≡◌, ℕ, zero, suc, ◌<◌, ◌^◌, true, false, None, FitsSigned}
use Rattle.std.specs.Int.{w32, w64}
use Rattle.std.specs.Str.{is_utf8}
use Rattle.bson_base.specs.Sorted.{sorted}
use Rattle.bson_base.specs.Sound.{Lacks, HasBytes, IsBinary, IsZeroFree}
use Rattle.bson_kinds.specs.Text.{Utf8, has_zero}
use Rattle.bson_base.specs.Tree.{Tree, double, string, document, array, binary, undefined, object_id, boolean, date_time, null, regular_expression, db_pointer, javascript_code, symbol, javascript_code_with_scope, int32, timestamp, int64, decimal128, max_key, min_key, raw, Pairs, no_pairs, pair, Trees, no_trees, tree}
use Rattle.bson_values.specs.Wrapper.{of_key}
use Rattle.bson_itself.specs.declared.untyped.UntypedLeaf.{UntypedLeaf}
use Rattle.bson_itself.specs.declared.untyped.UntypedLeaf.TheVariants.{Any, Bson}

-- a document, an array or a scope takes one of the levels that are left
abbrev pub OneLevel : (ℕ → Type 0) → (levels : ℕ) → Type 0
OneLevel inside zero = ⊥
OneLevel inside (suc levels) = inside levels

-- an extended value, which `any` lacks
abbrev pub AtBson : UntypedLeaf → Type 0 → Type 0
AtBson Any taken = ⊥
AtBson Bson taken = taken

-- a key that is read as that key: at `bson` it is no wrapper key
abbrev pub IsTakenKey : UntypedLeaf → Utf8 → Type 0
IsTakenKey Any key = Unit {0}
IsTakenKey Bson key = of_key key ≡ None

-- the subtype of a binary that is read as one: at `any` it is 0, that of a byte string
abbrev pub IsTakenSubtype : UntypedLeaf → ℕ → Type 0
IsTakenSubtype Any subtype = subtype ≡ 0
IsTakenSubtype Bson subtype = Unit {0}

abbrev mutual
  -- A tree that is read at the leaf as a value that is written as this tree, with so many levels left: its texts are UTF-8, the keys of each document are different, and at `any` it has
  -- no extended value, at `bson` no wrapper key and no options out of order. (The keys of arrays are no part of a tree.) But for keys that begin with `$`, which are allowed here, it is
  -- clean (`IsClean`), and it is within the levels; nothing in it is given by its bytes.
  pub IsItself : UntypedLeaf → Tree → (levels : ℕ) → Type 0
  IsItself leaf (double b) levels = HasBytes 8 b
  IsItself leaf (string t) levels = is_utf8 t ≡ true
  IsItself leaf (document ps) levels = OneLevel (ArePairsThemselves leaf ps) levels
  IsItself leaf (array ts) levels = OneLevel (AreTreesThemselves leaf ts) levels
  IsItself leaf (binary subtype b) levels = IsTakenSubtype leaf subtype × IsBinary subtype b
  IsItself leaf undefined levels = AtBson leaf (Unit {0})
  IsItself leaf (object_id id) levels = AtBson leaf (HasBytes 12 id)
  IsItself leaf (boolean b) levels = Unit {0}
  IsItself leaf (date_time n) levels = AtBson leaf (FitsSigned w64 n)
  IsItself leaf null levels = Unit {0}
  IsItself leaf (regular_expression pattern options) levels = AtBson leaf (IsZeroFree pattern × IsZeroFree options × (sorted options ≡ options))
  IsItself leaf (db_pointer namespace id) levels = AtBson leaf ((is_utf8 namespace ≡ true) × HasBytes 12 id)
  IsItself leaf (javascript_code t) levels = AtBson leaf (is_utf8 t ≡ true)
  IsItself leaf (symbol t) levels = AtBson leaf (is_utf8 t ≡ true)
  IsItself leaf (javascript_code_with_scope code scope) levels = AtBson leaf ((is_utf8 code ≡ true) × OneLevel (ArePairsThemselves leaf scope) levels)
  IsItself leaf (int32 n) levels = FitsSigned w32 n
  IsItself leaf (timestamp time increment) levels = AtBson leaf ((time < 2 ^ 32) × (increment < 2 ^ 32))
  IsItself leaf (int64 n) levels = FitsSigned w64 n
  IsItself leaf (decimal128 b) levels = AtBson leaf (HasBytes 16 b)
  IsItself leaf max_key levels = AtBson leaf (Unit {0})
  IsItself leaf min_key levels = AtBson leaf (Unit {0})
  IsItself leaf (raw k b) levels = ⊥

  pub ArePairsThemselves : UntypedLeaf → Pairs → (levels : ℕ) → Type 0
  ArePairsThemselves leaf no_pairs levels = Unit {0}
  ArePairsThemselves leaf (pair key t ps) levels = (is_utf8 key ≡ true) × (has_zero key ≡ false) × IsTakenKey leaf key × Lacks key ps × IsItself leaf t levels × ArePairsThemselves leaf ps levels

  pub AreTreesThemselves : UntypedLeaf → Trees → (levels : ℕ) → Type 0
  AreTreesThemselves leaf no_trees levels = Unit {0}
  AreTreesThemselves leaf (tree t ts) levels = IsItself leaf t levels × AreTreesThemselves leaf ts levels
