-- The documents that every reader and writer takes. Source: bsonspec.org, version 1.1, and the limits of this library.
use Rattle.std.specs.Prelude.{◌≡◌, ℕ, ◌^◌, ◌<◌, ◌≤◌, length, true, false, FitsSigned, if◌then◌else◌, nat_eq}
use Rattle.std.specs.Int.{w32, w64}
use Rattle.std.specs.Str.{bytes_eq, is_utf8}
use Rattle.bson_kinds.specs.Text.{Bytes, Utf8, AreBytes, has_zero, IsPlainName}
use Rattle.bson_base.specs.Tree.{Tree, double, string, document, array, binary, undefined, object_id, boolean, date_time, null, regular_expression, db_pointer, javascript_code, symbol, javascript_code_with_scope, int32, timestamp, int64, decimal128, max_key, min_key, raw, Pairs, no_pairs, pair, Trees, no_trees, tree, enc, depth}

-- the most levels of documents and arrays
abbrev pub max_levels : ℕ
max_levels = 200

-- the most bytes of a document
abbrev pub max_bytes : ℕ
max_bytes = 2147483647

-- the most bytes of a binary: 16 MiB, of which the old subtype 2 needs four for its second length
abbrev pub max_binary : ℕ → ℕ
max_binary subtype = if nat_eq subtype 2 then 16777212 else 16777216

-- so many bytes
pub record HasBytes (n : ℕ) (bytes : Bytes) : Type 0 where
  pub are_bytes : AreBytes bytes
  pub count : length bytes ≡ n

-- the parts of a binary: a subtype, and no more bytes than it may have
pub record IsBinary (subtype : ℕ) (bytes : Bytes) : Type 0 where
  pub is_byte : subtype < 256
  pub are_bytes : AreBytes bytes
  pub fits : length bytes ≤ max_binary subtype

-- a part of a regular expression: a text without a zero character
pub record IsZeroFree (part : Utf8) : Type 0 where
  pub text : is_utf8 part ≡ true
  pub no_zero : has_zero part ≡ false

-- no pair has the key
abbrev pub Lacks : Utf8 → Pairs → Type 0
Lacks key no_pairs = Unit {0}
Lacks key (pair k t ps) = (bytes_eq key k ≡ false) × Lacks key ps

abbrev mutual
  -- each text is UTF-8, each number and byte lies in the range of its kind, and each key is a plain name that occurs once in its
  -- document or scope; nothing is given by its bytes
  pub IsClean : Tree → Type 0
  IsClean (double bytes) = HasBytes 8 bytes
  IsClean (string t) = is_utf8 t ≡ true
  IsClean (document ps) = ArePairsClean ps
  IsClean (array ts) = AreTreesClean ts
  IsClean (binary subtype bytes) = IsBinary subtype bytes
  IsClean undefined = Unit {0}
  IsClean (object_id id) = HasBytes 12 id
  IsClean (boolean b) = Unit {0}
  IsClean (date_time n) = FitsSigned w64 n
  IsClean null = Unit {0}
  IsClean (regular_expression pattern options) = IsZeroFree pattern × IsZeroFree options
  IsClean (db_pointer namespace id) = (is_utf8 namespace ≡ true) × HasBytes 12 id
  IsClean (javascript_code t) = is_utf8 t ≡ true
  IsClean (symbol t) = is_utf8 t ≡ true
  IsClean (javascript_code_with_scope code scope) = (is_utf8 code ≡ true) × ArePairsClean scope
  IsClean (int32 n) = FitsSigned w32 n
  IsClean (timestamp time increment) = (time < 2 ^ 32) × (increment < 2 ^ 32)
  IsClean (int64 n) = FitsSigned w64 n
  IsClean (decimal128 bytes) = HasBytes 16 bytes
  IsClean max_key = Unit {0}
  IsClean min_key = Unit {0}
  IsClean (raw k bytes) = ⊥

  pub ArePairsClean : Pairs → Type 0
  ArePairsClean no_pairs = Unit {0}
  ArePairsClean (pair key t ps) = IsPlainName key × Lacks key ps × IsClean t × ArePairsClean ps

  pub AreTreesClean : Trees → Type 0
  AreTreesClean no_trees = Unit {0}
  AreTreesClean (tree t ts) = IsClean t × AreTreesClean ts

abbrev pub IsDocument : Tree → Type 0
IsDocument (document ps) = Unit {0}
IsDocument t = ⊥

-- A sound tree: a document within the limits, whose parts are clean.
pub record IsSound (t : Tree) : Type 0 where
  pub document : IsDocument t
  pub clean : IsClean t
  pub nests : depth t ≤ max_levels
  pub fits : length (enc t) ≤ max_bytes
