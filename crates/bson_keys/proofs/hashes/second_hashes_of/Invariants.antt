use Rattle.std.proofs.Common.{◌≡◌, map, take}
use Rattle.std.specs.Map.Iter.{deref}
use Rattle.bson_keys.specs.Hashes.{second_hash_of}
use Rattle.bson_keys.proofs.hashes.second_hashes_of.Given as goal

abbrev pub invariant-loop-key : goal.invariant-loop-key
invariant-loop-key l = l.hashes.items ≡ map second_hash_of (map deref (take l.key-index l.keys))
