-- Bytes as hexadecimal digits. Source: this library's own programs.
use Rattle.std.specs.Prelude.{ℕ, ◌++◌, Bool, true, false, ◌==◌, ◌||◌, not, Option, Some}
use Rattle.std.specs.List.{filter}
use Rattle.std.specs.Result.{result_ok}
use Rattle.hex.specs.Hex.{decode_of, encode_lower}
use Rattle.bson_kinds.specs.Text.{Bytes}
use Rattle.bson_program.specs.ShapeWord.{newline}

-- a space, a tab, a carriage return or a line feed
abbrev pub is_blank : ℕ → Bool
is_blank c = (c == 32) || (c == 9) || (c == 13) || (c == 10)

-- the bytes that a text of hexadecimal digits stands for, where blanks do not count; none where it is not an even number of digits
abbrev pub bytes_of_digits : Bytes → Option Bytes
bytes_of_digits text = result_ok (decode_of (filter (λ c. not (is_blank c)) text))

-- the lower-case digits of bytes, and a line feed
abbrev pub digits_line : Bytes → Bytes
digits_line bytes = encode_lower bytes ++ newline

-- the document that a whole input holds, in its bytes or in digits; none where it is to be digits and is not
abbrev pub document_in : (hex : Bool) → Bytes → Option Bytes
document_in false bytes = Some bytes
document_in true bytes = bytes_of_digits bytes

-- a document as it is written
abbrev pub shown : (hex : Bool) → Bytes → Bytes
shown false bytes = bytes
shown true bytes = digits_line bytes
