-- A written text is read back.
use Rattle.std.proofs.Common.{◌≡◌, ℕ, ◌<◌, List, [], ◌∷◌, length, Option, Some, None, Result, Ok, Err, refl, ap, sym, ◌∙◌, arith, ℤ, Bool, true, false, true≢false, w64, FitsSigned, inl, inr}
use Rattle.std.proofs.lemmas.Bool.{cases_lt}
use Rattle.std.proofs.lemmas.Fmt.{parse-signed_decimal}
use Rattle.std.proofs.lemmas.List.{get_or_past}
use Rattle.std.proofs.lemmas.List.Elements.{All-nil, All-cons}
use Rattle.std.specs.Fmt.{signed_decimal}
use Rattle.std.specs.Prelude.{option_and_then}
use Rattle.std.specs.Result.{result_ok}
use Rattle.std.specs.Str.Parse.{ParsesSigned, without_leading_sign, signed_digits_value}
use Rattle.hex.specs.Hex.{IsBytes}
use Rattle.hex.proofs.HexLemmas.{decode_of-encode_lower, decode_sized-encode_lower}
use Rattle.bson_base.specs.Made.{digits, number_text, base64_text}
use Rattle.bson_base.specs.Parsed.{first_byte, bytes_of_digits, subtype_of_text, is_numeral, is_int64, integer_of_text, bytes_of_base64}
use Rattle.bson_kinds.specs.Text.{Bytes, AreBytes}
use Rattle.bson_base.proofs.Base64Texts.{bytes_of_base64-written}
use Rattle.bson_base.proofs.IntegerTexts.{numeral_back, int64_fits, all_numeral, fits_int64}

each_byte : (b : Bytes) → AreBytes b → IsBytes b
each_byte b all i = elim (cases_lt i (length b)) [
  | inl within ↦ all i 0 within
  | inr past ↦ rw (get_or_past b i 0 past) (omega arith)
]

pub digits_read : (n : ℕ) (b : Bytes) → length b ≡ n → AreBytes b → bytes_of_digits n (digits b) ≡ Some b
unfolding bytes_of_digits digits
digits_read n b len bytes = ap result_ok (decode_sized-encode_lower b n len (each_byte b bytes))

pub subtype_read : (n : ℕ) → n < 256 → subtype_of_text (digits (n ∷ [])) ≡ Some n
unfolding digits
subtype_read n small =
    let one = All-cons (λ b. b < 256) n [] small (All-nil (λ b. b < 256)) in
    ap (λ r. option_and_then first_byte (result_ok r)) (decode_of-encode_lower (n ∷ []) (each_byte (n ∷ []) one))

-- what `parse` would answer
abbrev ok_or : Option ℤ → Result ℤ (Unit {0})
ok_or None = Err tt
ok_or (Some z) = Ok z

parses_by : (s : List ℕ) (a b : Bool) → is_numeral (without_leading_sign s) ≡ a → is_int64 (signed_digits_value 10 s) ≡ b → ParsesSigned w64 10 s (ok_or (integer_of_text s))
unfolding integer_of_text
parses_by s true true n f = rw (n, f) ((numeral_back _ n, int64_fits _ f), refl)
parses_by s true false n f = rw (n, f) (λ h. true≢false (sym (fits_int64 _ h.1) ∙ f))
parses_by s false b n f = rw n (λ h. true≢false (sym (all_numeral _ h.0) ∙ n))

some_of : (o : Option ℤ) (z : ℤ) → ok_or o ≡ Ok z → o ≡ Some z
some_of None z e = cc e
some_of (Some y) z e = cc

pub integer_read : (z : ℤ) → FitsSigned w64 z → integer_of_text (number_text z) ≡ Some z
unfolding number_text
integer_read z f =
    some_of (integer_of_text (signed_decimal z)) z (parse-signed_decimal w64 z (signed_decimal z) (ok_or (integer_of_text (signed_decimal z))) f f.sfits refl
    (parses_by (signed_decimal z) _ _ refl refl))

pub base64_read : (b : Bytes) → AreBytes b → bytes_of_base64 (base64_text b) ≡ Some b
unfolding base64_text
base64_read b bytes = bytes_of_base64-written b (record { all = bytes })
