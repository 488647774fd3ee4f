-- What a text stands for, as a call gives it. Source: MongoDB's extended JSON, version 2, and RFC 4648, section 4.
use Rattle.std.specs.Prelude.{◌≡◌, ℕ, ◌&&◌, ◌^◌, nat_lt, Bool, if◌then◌else◌, [], ◌∷◌, length, Option, Some, None, option_and_then, ℤ, pos, negsuc, Result, Ok, Err}
use Rattle.std.specs.Char.{digit_value}
use Rattle.std.specs.List.{list_all}
use Rattle.std.specs.Result.{result_ok}
use Rattle.std.specs.Str.Parse.{without_leading_sign, signed_digits_value}
use Rattle.hex.specs.Hex as hex
use Rattle.hex.specs.Hex.{decode_sized}
use Rattle.base64.specs.Engines.{standard}
use Rattle.base64.specs.GeneralPurpose as base64
use Rattle.bson_kinds.specs.Text.{Bytes, Utf8}

-- the call gives the value that the text stands for, or its one refusal where the text stands for none
abbrev pub Parses : {X Y E : Type 0} → (X → Y) → Result X E → Option Y → Type 0
Parses see (Ok x) r = r ≡ Some (see x)
Parses see (Err e) r = r ≡ None

-- the n bytes that 2n hexadecimal digits stand for, in either case; none for any other text
unfoldable pub bytes_of_digits : ℕ → Utf8 → Option Bytes
bytes_of_digits n text = result_ok (decode_sized text n)

-- the first byte, where there is one
abbrev pub first_byte : Bytes → Option ℕ
first_byte [] = None
first_byte (b ∷ bytes) = Some b

-- the first byte of a text of hexadecimal digits, an even number of them and at least two, in either case; none for any other text
abbrev pub subtype_of_text : Utf8 → Option ℕ
subtype_of_text text = option_and_then first_byte (result_ok (hex.decode_of text))

-- one ASCII digit or more, and nothing else
abbrev pub is_numeral : Utf8 → Bool
is_numeral text = nat_lt 0 (length text) && list_all (λ c. nat_lt (digit_value c) 10) text

-- a signed number of 64 bits (two's complement)
abbrev pub is_int64 : ℤ → Bool
is_int64 (pos n) = nat_lt n (2 ^ 63)
is_int64 (negsuc n) = nat_lt n (2 ^ 63)

-- this number, where its digits are a numeral and it is one of 64 bits
abbrev pub int64_of_numeral : Utf8 → ℤ → Option ℤ
int64_of_numeral digits z = if is_numeral digits && is_int64 z then Some z else None

-- what an integer text of 64 bits stands for: an optional `+` or `-`, then one ASCII digit or more, in the range of an i64; none for any other text
unfoldable pub integer_of_text : Utf8 → Option ℤ
integer_of_text text = int64_of_numeral (without_leading_sign text) (signed_digits_value 10 text)

-- the bytes of a text that is exactly their standard base64, with padding and zero trailing bits (RFC 4648, section 4); none for any other text
unfoldable pub bytes_of_base64 : Utf8 → Option Bytes
bytes_of_base64 text = result_ok (base64.decode_of standard text)
