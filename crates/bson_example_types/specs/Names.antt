-- The names of variants and definitions are texts: a text of ASCII characters alone is UTF-8. Source: RFC 3629, section 3.
use Rattle.std.specs.Prelude.{◌≡◌, ℕ, [], ◌∷◌, Bool, true, false, refl, ◌&&◌, nat_lt}
use Rattle.std.specs.Str.{is_utf8, IsAscii}
use Rattle.std.proofs.lemmas.Bool.{ltb-true}
use Rattle.std.proofs.lemmas.Str.{IsUtf8-from_ascii, is_utf8-from_IsUtf8}
use Rattle.std.proofs.lemmas.Str.Ascii.{IsAscii-nil, IsAscii-cons}
use Rattle.bson.specs.Text.{Utf8}

abbrev pub all_ascii : Utf8 → Bool
all_ascii [] = true
all_ascii (c ∷ cs) = nat_lt c 128 && all_ascii cs

one_more : (c : ℕ) (cs : Utf8) (b : Bool) → nat_lt c 128 ≡ b → (b && all_ascii cs) ≡ true → (all_ascii cs ≡ true → IsAscii cs) → IsAscii (c ∷ cs)
one_more c cs true small all rest = IsAscii-cons c cs (ltb-true c 128 small) (rest all)
one_more c cs false small all rest = absurd cc

are_ascii : (cs : Utf8) → all_ascii cs ≡ true → IsAscii cs
are_ascii [] all = IsAscii-nil
are_ascii (c ∷ cs) all = one_more c cs (nat_lt c 128) refl all (are_ascii cs)

pub ascii_text : (cs : Utf8) → all_ascii cs ≡ true → is_utf8 cs ≡ true
ascii_text cs all = is_utf8-from_IsUtf8 cs (IsUtf8-from_ascii cs (are_ascii cs all))
