-- The text of a decimal floating point number. Source: the BSON specification's page on Decimal128, "To String Representation", over IEEE 754-2008, section 3.5.2 (binary integer decimal).
use Rattle.std.specs.Prelude.{ℕ, ◌+◌, ◌-◌, ◌/◌, ◌%◌, ◌^◌, ◌==◌, ◌&&◌, nat_lt, nat_le, Bool, if◌then◌else◌, ◌∷◌, ◌++◌, length, take, drop, replicate, codes}
use Rattle.std.specs.Fmt.{decimal, sign_text}
use Rattle.std.specs.Int.{w128, from_le_bytes}
use Rattle.bson_kinds.specs.Text.{Bytes, Utf8}

-- a coefficient of more than 34 digits is not canonical, and counts as zero
abbrev pub coefficient_of : ℕ → ℕ
coefficient_of c = if nat_lt c (10 ^ 34) then c else 0

-- the point `.` at a place between digits
abbrev pub split : Utf8 → ℕ → Utf8
split ds at = take at ds ++ (46 ∷ drop at ds)

-- `0.`, so many zeros, and the digits
abbrev pub behind : Utf8 → ℕ → Utf8
behind ds zeros = 48 ∷ 46 ∷ (replicate zeros 48 ++ ds)

-- digits of which so many are behind the point
unfoldable pub pointed : Utf8 → ℕ → Utf8
pointed ds n =
    if n == 0 then ds
    else if nat_lt n (length ds) then split ds (length ds - n)
    else behind ds (n - length ds)

-- a mark, and a number behind it
abbrev pub marked : Utf8 → ℕ → Utf8
marked mark n = mark ++ decimal n

-- `E`, a sign and an exponent; exponents are given plus 6176
unfoldable pub exponent_text : ℕ → Utf8
exponent_text e = if nat_lt e 6176 then marked (codes "E-") (6176 - e) else marked (codes "E+") (e - 6176)

-- one digit before the point, and no point where it is alone
unfoldable pub first_pointed : Utf8 → Utf8
first_pointed ds = if nat_lt 1 (length ds) then split ds 1 else ds

-- digits and an exponent. Where the exponent is at most 0, and the number written with one digit before the point would have an exponent of at least -6, without an exponent; else so written
unfoldable pub scaled_text : Utf8 → ℕ → Utf8
scaled_text ds e = if nat_le e 6176 && nat_le 6171 (e + length ds) then pointed ds (6176 - e) else first_pointed ds ++ exponent_text (e + length ds - 1)

-- a coefficient and an exponent
abbrev pub number_text : ℕ → ℕ → Utf8
number_text c e = scaled_text (decimal c) e

-- The five bits behind the sign are the combination: 11110 is infinity; 11xxx has the exponent two bits further right, and a coefficient of more than 34 digits; else the coefficient is
-- the low 113 bits, and the exponent the 14 bits above them.
unfoldable pub unsigned_text : ℕ → ℕ → Utf8
unsigned_text combination n =
    if combination == 30 then codes "Infinity"
    else if nat_le 24 combination then number_text 0 (n / 2 ^ 111 % 16384)
    else number_text (coefficient_of (n % 2 ^ 113)) (n / 2 ^ 113 % 16384)

-- the combination 11111 is NaN, whose sign and other bits are not printed
unfoldable pub signed_text : Bool → ℕ → ℕ → Utf8
signed_text negative combination n = if combination == 31 then codes "NaN" else sign_text negative ++ unsigned_text combination n

-- the text of the number that 128 bits are
abbrev pub text_of_number : ℕ → Utf8
text_of_number n = signed_text (nat_le (2 ^ 127) n) (n / 2 ^ 122 % 32) n

-- the text of the number that sixteen bytes are, the low byte first
unfoldable pub decimal_text : Bytes → Utf8
decimal_text bytes = text_of_number (from_le_bytes w128 bytes)
