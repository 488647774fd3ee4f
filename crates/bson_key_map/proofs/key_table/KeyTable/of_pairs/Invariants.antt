use Rattle.std.proofs.Common.{◌≡◌, take}
use Rattle.bson_key_map.specs.Keys.{key_texts}
use Rattle.bson_key_map.proofs.key_table.KeyTable.of_pairs.Given as goal

abbrev pub invariant-loop-pair : goal.invariant-loop-pair
invariant-loop-pair g l = l.table ≡ take l.pair-index (key_texts l.pairs)
