-- What texts stand for has the sizes of its kind: bytes in their number, integers of 64 bits, and texts whose characters are in order.
use Rattle.std.proofs.Common.{◌≡◌, ℕ, ◌+◌, ◌*◌, ◌/◌, ◌<◌, ltb, List, [], ◌∷◌, length, slice_index, Bool, true, false, cond, Option, Some, None, Result, Ok, Err, inl, inr, refl, ap, sym, subst, ◌∙◌, arith, ℤ, FitsSigned, w64, ◌==◌, ◌&&◌, take, drop}
use Rattle.std.specs.List.{list_all}
use Rattle.std.specs.Result.{result_ok}
use Rattle.std.specs.Str.{is_utf8, chars}
use Rattle.std.specs.Str.Parse.{without_leading_sign, signed_digits_value}
use lib.Utf8.{scalar, scalars, next, encode, encodes, scalar_cases}
use Rattle.std.proofs.lemmas.Bool.{cases_lt, and_parts, ltb-true, eqb-true}
use Rattle.std.proofs.lemmas.Bool.Decides.{nat_tests}
use Rattle.std.proofs.lemmas.List.{get_or_default, get_or_past}
use Rattle.std.proofs.lemmas.List.Elements.{All-nil, All-cons, All-append}
use Rattle.std.proofs.lemmas.List.Sums.{AllPass-from_list_all}
use Rattle.std.proofs.lemmas.Option.{cond_some}
use Rattle.std.proofs.lemmas.Str.{IsUtf8-from_is_utf8, is_utf8-from_IsUtf8, scalars-chars}
use Rattle.hex.specs.Hex.{IsBytes, decode_sized}
use Rattle.hex.proofs.HexLemmas.{decode_sized-ok, decode_sized-twice, decode_of-ok}
use Rattle.uuid.specs.Text.{is_hex_digit, value_of, by_index, byte_of_digits, parsed_simple, digits_of, has_hyphens, parsed_hyphenated, parsed_braced, parsed_urn, parsed}
use Rattle.uuid.proofs.TextLemmas.{by_index_length, by_index_at}
use Rattle.bson_base.specs.Parsed.{bytes_of_digits, bytes_of_base64, integer_of_text, is_numeral, is_int64}
use Rattle.bson_base.specs.Sorted.{ascending, sorted}
use Rattle.bson_kinds.specs.Text.{AreBytes}
use Rattle.bson_base.proofs.Base64Texts.{base64_ok}
use Rattle.bson_base.proofs.IntegerTexts.{int64_fits}
use Rattle.bson_base.proofs.Orders.{scalars-ascending, sorted-again}
use Rattle.bson_kinds.proofs.Outcomes.{some_is}
use Rattle.bson_kinds.proofs.Apart.{no_some}

-- ---- hexadecimal digits

pub ok_there : {A E : Type 0} (r : Result A E) (x : A) → result_ok r ≡ Some x → r ≡ Ok x
ok_there (Ok y) x e = ap Ok (some_is y x e)
ok_there (Err f) x e = absurd (no_some e)

pub digits_sized : (n : ℕ) (t b : List ℕ) → bytes_of_digits n t ≡ Some b → (length b ≡ n) × AreBytes b
unfolding bytes_of_digits
digits_sized n t b e =
    let ok = ok_there (decode_sized t n) b e in
    let twice = decode_sized-ok t n b ok in
    let parts = decode_of-ok t b (sym (decode_sized-twice t n twice) ∙ ok) in
    (omega (arith, twice, parts.2), λ i d within. rw (get_or_default b i d 0 within) (parts.3 i))

-- ---- UUIDs

-- sixteen bytes, where there is anything
abbrev Gives16 : Option (List ℕ) → Type 0
Gives16 o = (b : List ℕ) → o ≡ Some b → (length b ≡ 16) × AreBytes b

either : (c : Bool) (o p : Option (List ℕ)) → Gives16 o → Gives16 p → Gives16 (cond c o p)
either true o p g h = g
either false o p g h = h

none_gives : Gives16 None
none_gives b e = absurd (no_some e)

value_small : (c : ℕ) → is_hex_digit c ≡ true → value_of c < 16
value_small c h = grind (arith, nat_tests)

-- of thirty-two digits each pair is a byte
pair_small : (s : List ℕ) (j : ℕ) → length s ≡ 32 → list_all is_hex_digit s ≡ true → j < 16 → byte_of_digits s j < 256
pair_small s j len all h =
    let digit = AllPass-from_list_all is_hex_digit s all in
    let high = value_small (slice_index s (2 * j)) (digit (2 * j) 0 (omega arith)) in
    let low = value_small (slice_index s (2 * j + 1)) (digit (2 * j + 1) 0 (omega arith)) in
    omega arith

pairs_small : (s : List ℕ) → length s ≡ 32 → list_all is_hex_digit s ≡ true → AreBytes (by_index 16 (byte_of_digits s))
pairs_small s len all k d h =
    let within : k < 16 = omega (arith, by_index_length 16 (byte_of_digits s)) in
    rw (by_index_at 16 (byte_of_digits s) k d within) (pair_small s k len all within)

simple_gives : (s : List ℕ) → Gives16 (parsed_simple s)
simple_gives s b e =
    let given = cond_some ((length s == 32) && list_all is_hex_digit s) (by_index 16 (byte_of_digits s)) b e in
    let tests = and_parts (length s == 32) (list_all is_hex_digit s) given.0 in
    (ap length (sym given.1) ∙ by_index_length 16 (byte_of_digits s), subst AreBytes given.1 (pairs_small s (eqb-true (length s) 32 tests.0) tests.1))

hyphenated_gives : (s : List ℕ) → Gives16 (parsed_hyphenated s)
hyphenated_gives s = either ((length s == 36) && has_hyphens s) _ None (simple_gives (digits_of s)) none_gives

braced_gives : (s : List ℕ) → Gives16 (parsed_braced s)
braced_gives s = either _ _ None (hyphenated_gives (take 36 (drop 1 s))) none_gives

urn_gives : (s : List ℕ) → Gives16 (parsed_urn s)
urn_gives s = either _ _ None (hyphenated_gives (drop 9 s)) none_gives

pub uuid_sized : (s b : List ℕ) → parsed s ≡ Some b → (length b ≡ 16) × AreBytes b
uuid_sized s =
    either (length s == 32) _ _ (simple_gives s) (either (length s == 36) _ _ (hyphenated_gives s) (either (length s == 38) _ _ (braced_gives s)
    (either (length s == 45) _ _ (urn_gives s) none_gives)))

-- ---- texts

none_small : AreBytes []
none_small = All-nil (λ b. b < 256)

one_more : (b : ℕ) (bs : List ℕ) → b < 256 → AreBytes bs → AreBytes (b ∷ bs)
one_more = All-cons (λ b. b < 256)

-- a byte that goes on with a character
further : (c : ℕ) (bs : List ℕ) → AreBytes bs → AreBytes (next c ∷ bs)
further c bs all = one_more (next c) bs (omega arith) all

chosen : (t : Bool) (xs ys : List ℕ) → (t ≡ true → AreBytes xs) → AreBytes ys → AreBytes (cond t xs ys)
chosen true xs ys h k = h refl
chosen false xs ys h k = k

encode_small : (c : ℕ) → c < 1114112 → AreBytes (encode c)
unfolding encode
encode_small c h =
    let last : List ℕ = next c ∷ [] in
    let two : List ℕ = next (c / 64) ∷ last in
    let three : List ℕ = next (c / 4096) ∷ two in
    let last_small = further c [] none_small in
    let two_small = further (c / 64) last last_small in
    let three_small = further (c / 4096) two two_small in
    chosen (ltb c 128) _ _ (λ e. one_more c [] (omega (arith, ltb-true c 128 e)) none_small)
    (chosen (ltb c 2048) _ _ (λ e. one_more (192 + c / 64) last (omega (arith, ltb-true c 2048 e)) last_small)
    (chosen (ltb c 65536) _ _ (λ e. one_more (224 + c / 4096) two (omega (arith, ltb-true c 65536 e)) two_small)
    (one_more (240 + c / 262144) three (omega arith) three_small)))

scalar_small : (c : ℕ) → scalar c ≡ true → c < 1114112
scalar_small c e = omega (arith, scalar_cases c e)

encodes_small : (cs : List ℕ) → scalars cs ≡ true → AreBytes (encodes cs)
encodes_small [] e = none_small
encodes_small (c ∷ cs) e =
    let parts = and_parts (scalar c) (scalars cs) e in
    All-append (λ b. b < 256) (encode c) (encodes cs) (encode_small c (scalar_small c parts.0)) (encodes_small cs parts.1)

pub text_bytes : (s : List ℕ) → is_utf8 s ≡ true → AreBytes s
text_bytes s h =
    let u = IsUtf8-from_is_utf8 s h in
    subst AreBytes u.1.1 (encodes_small u.0 u.1.0)

-- ---- base64

each_byte : (b : List ℕ) → AreBytes b → IsBytes b
each_byte b all i = elim (cases_lt i (length b)) [
  | inl within ↦ all i 0 within
  | inr past ↦ rw (get_or_past b i 0 past) (omega arith)
]

pub base64_bytes : (s b : List ℕ) → is_utf8 s ≡ true → bytes_of_base64 s ≡ Some b → AreBytes b
base64_bytes s b h e = (base64_ok s b (each_byte s (text_bytes s h)) e).1.all

-- ---- integers

pub integer_fits : (s : List ℕ) (n : ℤ) → integer_of_text s ≡ Some n → FitsSigned w64 n
unfolding integer_of_text
integer_fits s n e =
    let z = signed_digits_value 10 s in
    let given = cond_some (is_numeral (without_leading_sign s) && is_int64 z) z n e in
    subst (FitsSigned w64) given.1 (int64_fits z (and_parts _ _ given.0).1)

-- ---- texts in order

pub sorted_text : (s : List ℕ) → is_utf8 s ≡ true → is_utf8 (sorted s) ≡ true
sorted_text s h =
    let good = scalars-ascending (chars s) (scalars-chars s (IsUtf8-from_is_utf8 s h)) in
    is_utf8-from_IsUtf8 (sorted s) (ascending (chars s), (good, refl))

pub sorted_twice : (s : List ℕ) → is_utf8 s ≡ true → sorted (sorted s) ≡ sorted s
sorted_twice s h = sorted-again s (IsUtf8-from_is_utf8 s h)
