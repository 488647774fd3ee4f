-- The decimal floating point number of exactly the value that a text has. Source: the BSON specification's page on Decimal128, "From String Representation". Exponents are given plus 6176.
use Rattle.std.specs.Prelude.{ℕ, ◌+◌, ◌-◌, ◌*◌, ◌/◌, ◌%◌, ◌^◌, ◌==◌, ◌&&◌, ◌||◌, nat_lt, nat_le, Bool, if◌then◌else◌, Option, Some, None, option_map, option_and_then, slice_index, [], ◌∷◌, length, map, codes}
use Rattle.std.specs.Int.{w128, to_le_bytes}
use Rattle.std.specs.Char.{digit_value, to_ascii_lowercase}
use Rattle.std.specs.Str.{bytes_eq}
use Rattle.std.specs.Float.Numeral.{Parts, scan_numeral, has_digits, tens_up, tens_down}
use Rattle.std.specs.Float.Parse.{without_sign}
use Rattle.bson_kinds.specs.Text.{Bytes, Utf8}

-- one more digit of a coefficient: it is taken while the coefficient has at most 34 digits; past those it must be a zero, and these are counted
unfoldable pub placed : ℕ → ℕ → ℕ → Option (ℕ × ℕ)
placed digit c zeros =
    if nat_lt (c * 10 + digit) (10 ^ 34) then Some (c * 10 + digit, zeros)
    else if digit == 0 then Some (c, zeros + 1)
    else None

-- more digits of a coefficient, one after another: the coefficient, and how many zeros were counted
abbrev pub taken : Utf8 → ℕ → ℕ → Option (ℕ × ℕ)
taken [] c zeros = Some (c, zeros)
taken (d ∷ ds) c zeros = option_and_then (λ r. taken ds r.0 r.1) (placed (digit_value d) c zeros)

-- c / 10 ^ zeros, where that is whole
unfoldable pub shrunk : ℕ → ℕ → Option ℕ
shrunk c zeros = if c % 10 ^ zeros == 0 then Some (c / 10 ^ zeros) else None

-- c * 10 ^ zeros, where that has at most 34 digits
unfoldable pub grown : ℕ → ℕ → Option ℕ
grown c zeros = if nat_lt (c * 10 ^ zeros) (10 ^ 34) then Some (c * 10 ^ zeros) else None

-- c * 10 ^ up / 10 ^ down as a coefficient and an exponent from 0 to 12287, the nearest to up - down; none where a digit other than zero would be lost
unfoldable pub fitted : ℕ → ℕ → ℕ → Option (ℕ × ℕ)
fitted c up down =
    if nat_lt up down then option_map (λ m. (m, 0)) (shrunk c (down - up))
    else if nat_le (up - down) 12287 then Some (c, up - down)
    else option_map (λ m. (m, 12287)) (grown c (up - down - 12287))

-- all digits of a numeral as a coefficient, and how many zeros were counted
abbrev pub digits_of : Parts → Option (ℕ × ℕ)
digits_of p = option_and_then (λ front. taken p.fraction front.0 front.1) (taken p.whole 0 0)

-- a coefficient and so many zeros behind it, with the exponent of a numeral
abbrev pub scaled : ℕ → ℕ → Parts → Option (ℕ × ℕ)
scaled c zeros p = fitted c (6176 + tens_up p + zeros) (tens_down p)

-- the coefficient and the exponent of a numeral
abbrev pub number_in : Parts → Option (ℕ × ℕ)
number_in p = option_and_then (λ all. scaled all.0 all.1 p) (digits_of p)

-- the 128 bits with this sign, coefficient and exponent
abbrev pub number_of : Bool → ℕ → ℕ → ℕ
number_of negative c e = (if negative then 2 ^ 127 else 0) + e * 2 ^ 113 + c

-- their sixteen bytes, the low byte first
unfoldable pub bytes_of : Bool → ℕ × ℕ → Bytes
bytes_of negative p = to_le_bytes w128 (number_of negative p.0 p.1)

-- a whole text that is a numeral with at least one digit; its sign is given
unfoldable pub finite_of : Bool → Utf8 → Option Bytes
finite_of negative s = let p = scan_numeral s in if has_digits p && p.len == length s then option_map (bytes_of negative) (number_in p) else None

-- the bytes of infinity, and of the NaN whose other bits are zero
abbrev pub infinity_bytes : Bool → Bytes
infinity_bytes negative = 0 ∷ 0 ∷ 0 ∷ 0 ∷ 0 ∷ 0 ∷ 0 ∷ 0 ∷ 0 ∷ 0 ∷ 0 ∷ 0 ∷ 0 ∷ 0 ∷ 0 ∷ (if negative then 248 else 120) ∷ []

abbrev pub nan_bytes : Bytes
nan_bytes = 0 ∷ 0 ∷ 0 ∷ 0 ∷ 0 ∷ 0 ∷ 0 ∷ 0 ∷ 0 ∷ 0 ∷ 0 ∷ 0 ∷ 0 ∷ 0 ∷ 0 ∷ 124 ∷ []

-- the text is the word, in either case
unfoldable pub is_word : Utf8 → Utf8 → Bool
is_word s word = bytes_eq (map to_ascii_lowercase s) (map to_ascii_lowercase word)

-- a word or a numeral; its sign is given
unfoldable pub unsigned_of : Bool → Utf8 → Option Bytes
unsigned_of negative s =
    if is_word s (codes "nan") then Some nan_bytes
    else if is_word s (codes "inf") || is_word s (codes "infinity") then Some (infinity_bytes negative)
    else finite_of negative s

-- an optional `-` or `+`, and then a word or a numeral; none for any other text
unfoldable pub decimal_of_text : Utf8 → Option Bytes
decimal_of_text s = unsigned_of (slice_index s 0 == 45) (without_sign s)
