-- The hashes of keys. Nothing rests on them but that keys with different hashes are different. Source: std's `FoldHasher` and `DefaultHasher`.
use Rattle.std.specs.Prelude.{ℕ}
use Rattle.std.specs.Hash.DefaultHasher as siphash
use Rattle.std.specs.Hash.FoldHasher as folding
use Rattle.bson_kinds.specs.Text.{Utf8}

-- the hash of a key, std's `FoldHasher` of its bytes
unfoldable pub hash_of : Utf8 → ℕ
hash_of key = folding.finish (folding.write folding.initial key)

-- the second hash of a key, std's `DefaultHasher` of its bytes
unfoldable pub second_hash_of : Utf8 → ℕ
second_hash_of key = siphash.finish (siphash.write siphash.initial key)
