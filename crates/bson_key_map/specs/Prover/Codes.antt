-- How the logic stores a pair, from how it stores its value.
use Rattle.std.specs.Coded.{Coded, code_by, coded×}
use mathlib.Core.Path.{refl}
use Rattle.std.specs.contracts.alloc.Global as heap
use Rattle.std.specs.contracts.string.String as string
use Rattle.std.specs.contracts.impls.GlobalAllocator.TheImpl.{ghosts}
use Rattle.bson_key_map.specs.Keys.{Key}
use Rattle.bson_key_map.specs.declared.pair.Pair.{Pair}

abbrev pub key_coded : Coded Key
key_coded = (string.the_row heap.the_row ghosts).coded

abbrev pub pair_coded : {V : Type 0} → Coded V → Coded (Pair V)
pair_coded {V} c = code_by (Key × V) (coded× key_coded c) (λ p. (p.key, p.value)) (λ t. record { key = t.0; value = t.1 }) (λ _. refl)
