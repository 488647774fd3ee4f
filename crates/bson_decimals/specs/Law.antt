-- The numbers whose text is read back as the same bytes. Source: IEEE 754-2008, section 3.5.2: the canonical ones.
use Rattle.std.specs.Prelude.{◌≡◌, ◌<◌, ◌≤◌, ◌^◌, ◌⊎◌, ◌*◌, ◌/◌, ◌%◌, ◌&&◌, ◌||◌, ◌==◌, nat_lt, ℕ, Bool, Some}
use Rattle.bson_kinds.specs.Text.{Bytes}
use Rattle.bson_decimals.specs.Decimals.{decimal_text}
use Rattle.bson_decimals.specs.Reading.{bytes_of, infinity_bytes, nan_bytes, decimal_of_text}

-- a coefficient of up to 34 digits and an exponent in its range, with a sign
pub record IsFinite (bytes : Bytes) : Type 0 where
  pub negative : Bool
  pub coefficient : ℕ
  pub exponent : ℕ
  pub digits : coefficient < 10 ^ 34
  pub range : exponent ≤ 12287
  pub is : bytes ≡ bytes_of negative (coefficient, exponent)

-- that, infinity, or the NaN whose other bits are zero
abbrev pub IsCanonical : Bytes → Type 0
IsCanonical bytes = IsFinite bytes ⊎ ((negative : Bool) × (bytes ≡ infinity_bytes negative)) ⊎ (bytes ≡ nan_bytes)

-- the text of the bytes is read as the bytes
abbrev pub ReadsBack : Bytes → Type 0
ReadsBack bytes = decimal_of_text (decimal_text bytes) ≡ Some bytes

-- the test of it, of the 128 bits
abbrev pub is_finite : ℕ → Bool
is_finite n = nat_lt (n / 2 ^ 122 % 32) 24 && nat_lt (n % 2 ^ 113) (10 ^ 34)

abbrev pub is_special : ℕ → Bool
is_special n = n % 2 ^ 127 == 120 * 2 ^ 120 || n == 124 * 2 ^ 120

unfoldable pub is_canonical_number : ℕ → Bool
is_canonical_number n = is_finite n || is_special n
