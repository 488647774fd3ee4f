-- The texts of doubles. Source: MongoDB's extended JSON, version 2, `$numberDouble`. Which digits a finite one gets is the writer's choice: they are read as the same number.
use Rattle.std.specs.Prelude.{◌≡◌, if◌then◌else◌, Bool, true, false, Option, Some, None, option_and_then, codes, from_bits, to_bits}
use Rattle.std.specs.Float.{Float, binary64, nan, inf, fin, float_is_finite}
use Rattle.std.specs.Float.Parse.{parse_float}
use Rattle.std.specs.Int.{w64, from_le_bytes, to_le_bytes}
use Rattle.std.specs.Str.{bytes_eq}
use Rattle.ryu.specs.Plain.{IsPlainNumber}
use Rattle.bson_kinds.specs.Text.{Bytes, Utf8}

-- the number that eight bytes are
unfoldable pub float_in : Bytes → Float
float_in bytes = from_bits binary64 (from_le_bytes w64 bytes)

-- the eight bytes of a number; those of NaN are 0 0 0 0 0 0 f8 7f
unfoldable pub double_bytes : Float → Bytes
double_bytes x = to_le_bytes w64 (to_bits binary64 x)

-- `Infinity`, with its sign
abbrev pub infinity_text : Bool → Utf8
infinity_text negative = if negative then codes "-Infinity" else codes "Infinity"

-- the text is one of the number: of a finite one a numeral that is read as it
abbrev pub IsFloatText : Float → Utf8 → Type 0
IsFloatText nan s = s ≡ codes "NaN"
IsFloatText (inf negative) s = s ≡ infinity_text negative
IsFloatText (fin negative m e) s = IsPlainNumber s × (parse_float binary64 s ≡ Some (fin negative m e))

-- the bytes of a finite number
abbrev pub finite_bytes : Float → Option Bytes
finite_bytes x = if float_is_finite x then Some (double_bytes x) else None

-- the bytes of the finite double nearest to a numeral; none where the numeral is too large for one, and for any other text
unfoldable pub double_of_numeral : Utf8 → Option Bytes
double_of_numeral s = option_and_then finite_bytes (parse_float binary64 s)

-- the bytes of the double that the text of `$numberDouble` stands for; none for any other text
abbrev pub double_of_text : Utf8 → Option Bytes
double_of_text s =
    if bytes_eq s (codes "NaN") then Some (double_bytes nan)
    else if bytes_eq s (codes "Infinity") then Some (double_bytes (inf false))
    else if bytes_eq s (codes "-Infinity") then Some (double_bytes (inf true))
    else double_of_numeral s
