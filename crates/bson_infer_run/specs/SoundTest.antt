-- Whether a document is sound, as a test. Source: bsonspec.org, version 1.1, and the limits of this library.
use Rattle.std.specs.Prelude.{ℕ, ◌^◌, length, Bool, true, false, ◌&&◌, not, nat_lt, nat_le, nat_eq, ℤ, pos, negsuc, [], ◌∷◌}
use Rattle.std.specs.Str.{bytes_eq, is_utf8}
use Rattle.bson_base.specs.Sound.{max_binary, max_levels, max_bytes}
use Rattle.bson_kinds.specs.Text.{Bytes, Utf8, has_zero, begins_with_dollar}
use Rattle.bson_base.specs.Tree.{Tree, double, string, document, array, binary, undefined, object_id, boolean, date_time, null, regular_expression, db_pointer, javascript_code, symbol, javascript_code_with_scope, int32, timestamp, int64, decimal128, max_key, min_key, raw, Pairs, no_pairs, pair, Trees, no_trees, tree, enc, depth}

abbrev pub are_bytes : Bytes → Bool
are_bytes [] = true
are_bytes (b ∷ bs) = nat_lt b 256 && are_bytes bs

abbrev pub has_bytes : ℕ → Bytes → Bool
has_bytes n bytes = are_bytes bytes && nat_eq (length bytes) n

abbrev pub is_binary : ℕ → Bytes → Bool
is_binary subtype bytes = nat_lt subtype 256 && (are_bytes bytes && nat_le (length bytes) (max_binary subtype))

abbrev pub is_zero_free : Utf8 → Bool
is_zero_free part = is_utf8 part && not (has_zero part)

abbrev pub is_plain_name : Utf8 → Bool
is_plain_name name = is_utf8 name && (not (has_zero name) && not (begins_with_dollar name))

-- a signed number is in the range of which this is the half
abbrev pub is_within : (half : ℕ) → ℤ → Bool
is_within half (pos n) = nat_lt n half
is_within half (negsuc n) = nat_lt n half

abbrev pub lacks : Utf8 → Pairs → Bool
lacks key no_pairs = true
lacks key (pair k t ps) = not (bytes_eq key k) && lacks key ps

abbrev mutual
  pub is_clean : Tree → Bool
  is_clean (double bytes) = has_bytes 8 bytes
  is_clean (string t) = is_utf8 t
  is_clean (document ps) = are_pairs_clean ps
  is_clean (array ts) = are_trees_clean ts
  is_clean (binary subtype bytes) = is_binary subtype bytes
  is_clean undefined = true
  is_clean (object_id id) = has_bytes 12 id
  is_clean (boolean b) = true
  is_clean (date_time n) = is_within (2 ^ 63) n
  is_clean null = true
  is_clean (regular_expression pattern options) = is_zero_free pattern && is_zero_free options
  is_clean (db_pointer namespace id) = is_utf8 namespace && has_bytes 12 id
  is_clean (javascript_code t) = is_utf8 t
  is_clean (symbol t) = is_utf8 t
  is_clean (javascript_code_with_scope code scope) = is_utf8 code && are_pairs_clean scope
  is_clean (int32 n) = is_within (2 ^ 31) n
  is_clean (timestamp time increment) = nat_lt time (2 ^ 32) && nat_lt increment (2 ^ 32)
  is_clean (int64 n) = is_within (2 ^ 63) n
  is_clean (decimal128 bytes) = has_bytes 16 bytes
  is_clean max_key = true
  is_clean min_key = true
  is_clean (raw kind bytes) = false

  pub are_pairs_clean : Pairs → Bool
  are_pairs_clean no_pairs = true
  are_pairs_clean (pair key t ps) = is_plain_name key && (lacks key ps && (is_clean t && are_pairs_clean ps))

  pub are_trees_clean : Trees → Bool
  are_trees_clean no_trees = true
  are_trees_clean (tree t ts) = is_clean t && are_trees_clean ts

-- a document within the limits, whose parts are clean
abbrev pub is_sound : Pairs → Bool
is_sound ps = are_pairs_clean ps && (nat_le (depth (document ps)) max_levels && nat_le (length (enc (document ps))) max_bytes)
