-- The decimal indexes of an array's values may be keys.
use Rattle.std.proofs.Common.{◌≡◌, ℕ, zero, suc, ◌≤◌, ◌<◌, [], ◌∷◌, Bool, true, false, cond, eqb, refl, ap, ◌∙◌, arith}
use Rattle.std.specs.Prelude.{◌/◌, ◌%◌, ◌||◌}
use Rattle.std.specs.Fmt.{decimal, digits, digits_onto, digit_glyph}
use Rattle.std.specs.Str.{IsAscii}
use Rattle.std.proofs.lemmas.Bool.Decides.{nat_tests}
use Rattle.std.proofs.lemmas.Str.{IsUtf8-from_ascii, is_utf8-from_IsUtf8}
use Rattle.std.proofs.lemmas.Str.Ascii.{IsAscii-nil, IsAscii-cons}
use Rattle.bson_kinds.specs.Text.{Utf8, has_zero, begins_with_dollar, IsPlainName}

-- the characters are decimal digits
abbrev AreDigits : Utf8 → Type 0
AreDigits [] = Unit {0}
AreDigits (c ∷ cs) = (48 ≤ c) × (c ≤ 57) × AreDigits cs

glyph_least : (d : ℕ) → d < 10 → 48 ≤ digit_glyph false d
glyph_least d h = grind (arith, nat_tests)

glyph_greatest : (d : ℕ) → d < 10 → digit_glyph false d ≤ 57
glyph_greatest d h = grind (arith, nat_tests)

either : (b : Bool) (xs ys : Utf8) → AreDigits xs → AreDigits ys → AreDigits (cond b xs ys)
either true xs ys h k = h
either false xs ys h k = k

onto_are_digits : (k n : ℕ) (after : Utf8) → AreDigits after → AreDigits (digits_onto k 10 false n after)
onto_are_digits zero n after h = h
onto_are_digits (suc k) n after h =
    let d = n % 10 in
    let small : d < 10 = omega arith in
    let front : AreDigits (digit_glyph false d ∷ after) = (glyph_least d small, glyph_greatest d small, h) in
    either (eqb (n / 10) 0) _ _ front (onto_are_digits k (n / 10) (digit_glyph false d ∷ after) front)

decimal_are_digits : (n : ℕ) → AreDigits (decimal n)
unfolding digits
decimal_are_digits n = onto_are_digits 64 n [] tt

digits_ascii : (cs : Utf8) → AreDigits cs → IsAscii cs
digits_ascii [] h = IsAscii-nil
digits_ascii (c ∷ cs) h = IsAscii-cons c cs (omega (arith, h.1)) (digits_ascii cs h.2)

no_zero_digit : (c : ℕ) → 48 ≤ c → eqb c 0 ≡ false
no_zero_digit c h = grind (arith, nat_tests)

no_dollar_digit : (c : ℕ) → 48 ≤ c → eqb c 36 ≡ false
no_dollar_digit c h = grind (arith, nat_tests)

digits_no_zero : (cs : Utf8) → AreDigits cs → has_zero cs ≡ false
digits_no_zero [] h = refl
digits_no_zero (c ∷ cs) h = ap (λ b. b || has_zero cs) (no_zero_digit c h.0) ∙ digits_no_zero cs h.2

digits_no_dollar : (cs : Utf8) → AreDigits cs → begins_with_dollar cs ≡ false
digits_no_dollar [] h = refl
digits_no_dollar (c ∷ cs) h = no_dollar_digit c h.0

-- a decimal number is a plain name
pub decimal_plain : (n : ℕ) → IsPlainName (decimal n)
decimal_plain n =
    let ds = decimal_are_digits n in
    record {
      text = is_utf8-from_IsUtf8 (decimal n) (IsUtf8-from_ascii (decimal n) (digits_ascii (decimal n) ds));
      free = record { no_zero = digits_no_zero (decimal n) ds; no_dollar = digits_no_dollar (decimal n) ds };
    }
