use Rattle.bson_key_map.proofs.Places.{IsPassed}
use Rattle.bson_key_map.specs.Keys.{key_texts}
use Rattle.bson_key_map.proofs.key_map.index_among.Given as goal

abbrev pub invariant-loop-index : goal.invariant-loop-index
invariant-loop-index g l = IsPassed l.key (key_texts l.pairs) l.index
