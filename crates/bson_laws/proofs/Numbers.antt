-- Numbers that are encoded are read again.
use Rattle.std.proofs.Common.{◌≡◌, ℕ, ◌^◌, ◌<◌, ◌++◌, ap, ◌∙◌, append_assoc, arith, pos, negsuc, ℤ}
use Rattle.std.specs.Prelude.{FitsSigned}
use Rattle.std.specs.Int.{w32, w64, cast_signed, cast_unsigned}
use Rattle.std.proofs.lemmas.Int.{to_z-of_z}
use Rattle.std.proofs.lemmas.Nat.{from_le_bytes-to_le_bytes_4, from_le_bytes-to_le_bytes_8}
use Rattle.bson_kinds.specs.Text.{Bytes}
use Rattle.bson_base.specs.Tree.{le32, le64}
use Rattle.bson_rawdoc.specs.Numbers.{uint32_in, int32_in, int64_in}

unsigned32 : (z : ℤ) → FitsSigned w32 z → cast_unsigned w32 z < 2 ^ 32
unsigned32 (pos n) h = omega (arith, h)
unsigned32 (negsuc n) h = omega (arith, h)

pub int32_again : (z : ℤ) → FitsSigned w32 z → int32_in (le32 (cast_unsigned w32 z)) ≡ z
unfolding int32_in le32
int32_again z h = ap (cast_signed w32) (from_le_bytes-to_le_bytes_4 (cast_unsigned w32 z) (unsigned32 z h)) ∙ to_z-of_z w32 z h

unsigned64 : (z : ℤ) → FitsSigned w64 z → cast_unsigned w64 z < 2 ^ 64
unsigned64 (pos n) h = omega (arith, h)
unsigned64 (negsuc n) h = omega (arith, h)

pub int64_again : (z : ℤ) → FitsSigned w64 z → int64_in (le64 (cast_unsigned w64 z)) ≡ z
unfolding int64_in le64
int64_again z h = ap (cast_signed w64) (from_le_bytes-to_le_bytes_8 (cast_unsigned w64 z) (unsigned64 z h)) ∙ to_z-of_z w64 z h

pub uint32_again : (n : ℕ) (rest : Bytes) → n < 2 ^ 32 → uint32_in (le32 n ++ rest) ≡ n
unfolding uint32_in le32
uint32_again n rest h = from_le_bytes-to_le_bytes_4 n h

-- a length in front of other bytes
pub length_again : (n : ℕ) (rest : Bytes) → n < 2 ^ 31 → int32_in (le32 n ++ rest) ≡ pos n
unfolding int32_in le32
length_again n rest h = ap (cast_signed w32) (from_le_bytes-to_le_bytes_4 n (omega (arith, h))) ∙ to_z-of_z w32 (pos n) (omega (arith, h))

-- the length in front of a value, where other bytes follow
pub announced_length : (n : ℕ) (counted rest : Bytes) → n < 2 ^ 31 → int32_in ((le32 n ++ counted) ++ rest) ≡ pos n
announced_length n counted rest h = ap int32_in (append_assoc (le32 n) counted rest) ∙ length_again n (counted ++ rest) h
