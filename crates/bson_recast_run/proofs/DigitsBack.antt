-- The line of the digits of bytes stands for the bytes.
use Rattle.std.proofs.Common.{◌≡◌, ℕ, [], ◌∷◌, length, Bool, true, false, cond, Some, Result, Ok, Err, refl, ap, sym, subst, ◌∙◌, append-nil, arith, inl, inr}
use Rattle.std.specs.Prelude.{not, ◌==◌, ◌||◌}
use Rattle.std.specs.List.{AllPass, filter}
use Rattle.std.specs.Result.{result_ok}
use Rattle.std.proofs.lemmas.Bool.{cases_lt, eqb-true}
use Rattle.std.proofs.lemmas.List.{get_or_past}
use Rattle.std.proofs.lemmas.List.Elements.{All-head, All-tail, filter-append}
use Rattle.bson_kinds.specs.Text.{Bytes, AreBytes}
use Rattle.hex.specs.Hex.{IsBytes, decode_of, encode_lower, is_hex_digit}
use Rattle.hex.specs.declared.error.FromHexError.{FromHexError}
use Rattle.hex.proofs.HexLemmas.{decode_of-encode_lower, decode_of-ok}
use Rattle.bson_tree_recast.proofs.Written.{same_at}
use Rattle.bson_recast_run.specs.Digits.{is_blank, bytes_of_digits, digits_line, document_in, shown}

abbrev counts : ℕ → Bool
counts c = not (is_blank c)

-- a digit is no blank
digit_counts : (c : ℕ) (a b d e : Bool) → (c == 32) ≡ a → (c == 9) ≡ b → (c == 13) ≡ d → (c == 10) ≡ e → is_hex_digit c ≡ true → not (a || b || d || e) ≡ true
digit_counts c true b d e p q r s h = absurd (let is : c ≡ 32 = eqb-true c 32 p in let no : false ≡ true = sym (ap is_hex_digit is) ∙ h in cc)
digit_counts c false true d e p q r s h = absurd (let is : c ≡ 9 = eqb-true c 9 q in let no : false ≡ true = sym (ap is_hex_digit is) ∙ h in cc)
digit_counts c false false true e p q r s h = absurd (let is : c ≡ 13 = eqb-true c 13 r in let no : false ≡ true = sym (ap is_hex_digit is) ∙ h in cc)
digit_counts c false false false true p q r s h = absurd (let is : c ≡ 10 = eqb-true c 10 s in let no : false ≡ true = sym (ap is_hex_digit is) ∙ h in cc)
digit_counts c false false false false p q r s h = refl

keeps : (b : Bool) (c : ℕ) (text : Bytes) → b ≡ true → filter counts text ≡ text → cond b (c ∷ filter counts text) (filter counts text) ≡ c ∷ text
keeps true c text e h = ap (λ t. c ∷ t) h
keeps false c text e h = absurd cc

digits_count : (text : Bytes) → AllPass is_hex_digit text → filter counts text ≡ text
digits_count [] all = refl
digits_count (c ∷ text) all =
    keeps (counts c) c text (digit_counts c (c == 32) (c == 9) (c == 13) (c == 10) refl refl refl refl (All-head (λ x. is_hex_digit x ≡ true) c text all))
    (digits_count text (All-tail (λ x. is_hex_digit x ≡ true) c text all))

each_byte : (b : Bytes) → AreBytes b → IsBytes b
each_byte b all i = elim (cases_lt i (length b)) [
  | inl within ↦ all i 0 within
  | inr past ↦ rw (get_or_past b i 0 past) (omega arith)
]

-- digits and a line feed
pub digits_back : (b : Bytes) → AreBytes b → bytes_of_digits (digits_line b) ≡ Some b
digits_back b all =
    let back = decode_of-encode_lower b (each_byte b all) in
    let count = digits_count (encode_lower b) (decode_of-ok (encode_lower b) b back).1 in
    ap (λ t. result_ok (decode_of t)) (filter-append counts (encode_lower b) (10 ∷ []) ∙ append-nil (filter counts (encode_lower b)) ∙ count) ∙ ap result_ok back

-- ---- what an input holds

bytes_are : (b : Bytes) → IsBytes b → AreBytes b
bytes_are b are k d below = omega (arith, are k, same_at b k d below)

-- what digits stand for are bytes
decoded_are : (text bytes : Bytes) → bytes_of_digits text ≡ Some bytes → AreBytes bytes
decoded_are text bytes e = by_case (decode_of (filter counts text)) refl e where
  by_case : (r : Result Bytes FromHexError) → decode_of (filter counts text) ≡ r → result_ok r ≡ Some bytes → AreBytes bytes
  by_case (Ok b) is e = let same : b ≡ bytes = cc in subst AreBytes same (bytes_are b (decode_of-ok (filter counts text) b is).3)
  by_case (Err f) is e = absurd cc

-- the document that an input of bytes holds has bytes
pub document_are : (hex : Bool) (bytes document : Bytes) → AreBytes bytes → document_in hex bytes ≡ Some document → AreBytes document
document_are false bytes document are e = let same : bytes ≡ document = cc in subst AreBytes same are
document_are true bytes document are e = decoded_are bytes document e

-- what was written holds the document that it shows
pub shown_holds : (hex : Bool) (document : Bytes) → AreBytes document → document_in hex (shown hex document) ≡ Some document
shown_holds false document are = refl
shown_holds true document are = digits_back document are
