-- Texts of hexadecimal digits, and the first byte that they stand for.
use Rattle.std.proofs.Common.{◌≡◌, ℕ, ◌%◌, ◌<◌, ◌≤◌, List, [], ◌∷◌, length, take, slice_index, true, Option, Some, None, Result, Ok, Err, refl, ap, sym, ◌∙◌, arith, ◌⊎◌, inl, inr}
use Rattle.std.specs.List.{AllPass}
use Rattle.std.specs.Prelude.{option_and_then}
use Rattle.std.specs.Result.{result_ok}
use Rattle.std.proofs.lemmas.List.Elements.{All-tail}
use Rattle.hex.specs.Hex.{decode_of, decode_pairs, decode_sized, pair_value, is_hex_digit, ◌>>=◌}
use Rattle.hex.specs.declared.error.FromHexError.{FromHexError}
use Rattle.hex.proofs.HexLemmas.{decode_of-even, decode_of-ok, decode_pairs-digits, decode_sized-ok, decode_sized-twice}
use Rattle.bson_base.specs.Parsed.{first_byte, subtype_of_text}
use Rattle.bson_kinds.specs.Text.{Bytes}

-- the first byte of what digits stand for
abbrev first_of : Result Bytes FromHexError → Option ℕ
first_of r = option_and_then first_byte (result_ok r)

-- what is behind the first byte says only whether there is one
pair_first : (p : Result ℕ FromHexError) (d : Result Bytes FromHexError) (more : Bytes) → d ≡ Ok more
    → first_of (p >>= (λ byte. d >>= (λ bytes. Ok (byte ∷ bytes)))) ≡ first_of (p >>= (λ byte. Ok (byte ∷ [])))
pair_first (Ok byte) d more e = rw e refl
pair_first (Err f) d more e = refl

front_by : (high low : ℕ) (rest : List ℕ) → length rest % 2 ≡ 0 → AllPass is_hex_digit rest
    → subtype_of_text (high ∷ low ∷ rest) ≡ first_of (decode_sized (high ∷ low ∷ []) 1)
unfolding decode_pairs
front_by high low rest even all =
    let more = decode_pairs-digits 2 rest even all in
    let whole = decode_of-even (high ∷ low ∷ rest) (omega arith) in
    let two = decode_sized-twice (high ∷ low ∷ []) 1 refl ∙ decode_of-even (high ∷ low ∷ []) refl in
    ap first_of whole ∙ pair_first (pair_value high low 0) (decode_pairs 2 rest) more.0 more.1 ∙ sym (ap first_of two)

-- the first two digits say it, where digits in pairs are behind them
subtype_front : (text : List ℕ) → 2 ≤ length text → (length text % 2 ≡ 0) × AllPass is_hex_digit text → subtype_of_text text ≡ first_of (decode_sized (take 2 text) 1)
subtype_front [] long pairs = absurd (omega arith)
subtype_front (high ∷ []) long pairs = absurd (omega arith)
subtype_front (high ∷ low ∷ rest) long pairs =
    let P : ℕ → Type 0 = λ c. is_hex_digit c ≡ true in
    front_by high low rest (omega (arith, pairs.0)) (All-tail P low rest (All-tail P high (low ∷ rest) pairs.1))

first_some : (bytes : Bytes) → length bytes ≡ 1 → first_byte bytes ≡ Some (slice_index bytes 0)
first_some [] one = absurd (omega arith)
first_some (b ∷ bytes) one = refl

pub subtype_some : (text bytes : List ℕ) → 2 ≤ length text → (length text % 2 ≡ 0) × AllPass is_hex_digit text → Ok bytes ≡ decode_sized (take 2 text) 1
    → Some (slice_index bytes 0) ≡ subtype_of_text text
subtype_some text bytes long pairs e =
    let twice = decode_sized-ok (take 2 text) 1 bytes (sym e) in
    let parts = decode_of-ok (take 2 text) bytes (sym (decode_sized-twice (take 2 text) 1 twice) ∙ sym e) in
    sym (subtype_front text long pairs ∙ ap first_of (sym e) ∙ first_some bytes (omega (arith, twice, parts.2)))

pub subtype_refused : (text : List ℕ) (f : FromHexError) → 2 ≤ length text → (length text % 2 ≡ 0) × AllPass is_hex_digit text → Err f ≡ decode_sized (take 2 text) 1
    → None ≡ subtype_of_text text
subtype_refused text f long pairs e = sym (subtype_front text long pairs ∙ ap first_of (sym e))

-- ---- texts that stand for no subtype

pub subtype_short : (text : List ℕ) → length text < 2 → None ≡ subtype_of_text text
unfolding decode_pairs
subtype_short [] short = refl
subtype_short (c ∷ []) short = refl
subtype_short (c ∷ d ∷ text) short = absurd (omega arith)

result_cases : (r : Result Bytes FromHexError) → ((b : Bytes) × (r ≡ Ok b)) ⊎ ((e : FromHexError) × (r ≡ Err e))
result_cases (Ok b) = inl (b, refl)
result_cases (Err e) = inr (e, refl)

-- the digits are not in pairs, or something else is among them
pub no_subtype : (text : List ℕ) → ((length text % 2 ≡ 0) × AllPass is_hex_digit text → ⊥) → None ≡ subtype_of_text text
no_subtype text bad = elim (result_cases (decode_of text)) [
  | inl ok ↦
      let parts = decode_of-ok text ok.0 ok.1 in
      absurd (bad (parts.0, parts.1))
  | inr err ↦ sym (ap first_of err.1)
]
