-- The bytes of the doubles that have words.
use Rattle.std.proofs.Common.{◌≡◌, [], ◌∷◌, true, false, refl}
use Rattle.std.specs.Float.{nan, inf}
use lib.Ieee.{to_bits}
use Rattle.bson_json_laws.specs.Doubles.{double_bytes}

pub nan_bytes : double_bytes nan ≡ 0 ∷ 0 ∷ 0 ∷ 0 ∷ 0 ∷ 0 ∷ 0xf8 ∷ 0x7f ∷ []
unfolding double_bytes to_bits
nan_bytes = refl

pub infinity_bytes : double_bytes (inf false) ≡ 0 ∷ 0 ∷ 0 ∷ 0 ∷ 0 ∷ 0 ∷ 0xf0 ∷ 0x7f ∷ []
unfolding double_bytes to_bits
infinity_bytes = refl

pub minus_infinity_bytes : double_bytes (inf true) ≡ 0 ∷ 0 ∷ 0 ∷ 0 ∷ 0 ∷ 0 ∷ 0xf0 ∷ 0xff ∷ []
unfolding double_bytes to_bits
minus_infinity_bytes = refl
