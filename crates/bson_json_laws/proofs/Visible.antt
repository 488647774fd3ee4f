-- No control character stands in a text that is printed, so no end of a line does.
use Rattle.std.proofs.Common.{◌≡◌, ℕ, suc, ◌+◌, ◌≤◌, ◌/◌, ◌%◌, List, [], ◌∷◌, ◌++◌, drop, Bool, true, false, cond, eqb, Option, Some, None, refl, sym, subst, arith, inl, inr}
use Rattle.std.specs.Prelude.{◌||◌, ◌&&◌, nat_lt, option_and_then}
use Rattle.std.specs.List.{prefix_len}
use Rattle.std.specs.Char.{is_ascii_digit, digit_char}
use Rattle.std.proofs.lemmas.Bool.{cases_Bool, or_cases, eqb-true, ltb-false}
use Rattle.std.proofs.lemmas.Bool.Decides.{nat_tests}
use Rattle.json.specs.Token.{Token, begin_object, end_object, begin_array, end_array, key, string, number, boolean, null, bad}
use Rattle.json.specs.Word.{head, after_digits, after_minus, after_sign, after_whole, after_fraction, after_exponent, after_number}
use Rattle.json.specs.Print.{escape_letter, escape_byte, escape, token_text, begins, ends, separator, print_from, print, IsNumber, IsPrintable, ArePrintable}
use Rattle.bson_kinds.specs.Text.{Utf8}

-- each byte is that of a character other than a control character, or of a part of one
abbrev pub IsVisible : Utf8 → Type 0
IsVisible [] = Unit {0}
IsVisible (x ∷ xs) = (32 ≤ x) × IsVisible xs

pub visible_append : (xs ys : Utf8) → IsVisible xs → IsVisible ys → IsVisible (xs ++ ys)
visible_append [] ys h k = k
visible_append (x ∷ xs) ys h k = (h.0, visible_append xs ys h.1 k)

-- ---- numbers: what is before the rest of a text is visible, if the rest is

digit_visible : (x : ℕ) → is_ascii_digit x ≡ true → 32 ≤ x
digit_visible x e = grind (arith, nat_tests)

one_digit : (x n : ℕ) (xs : Utf8) (b : Bool) → is_ascii_digit x ≡ b → (IsVisible (drop n xs) → IsVisible xs) → IsVisible (drop (cond b (1 + n) 0) (x ∷ xs)) → IsVisible (x ∷ xs)
one_digit x n xs false e more h = h
one_digit x n xs true e more h =
    let one : 1 + n ≡ suc n = omega arith in
    (digit_visible x e, more (subst (λ m. IsVisible (drop m (x ∷ xs))) one h))

digits_visible : (t : Utf8) → IsVisible (drop (prefix_len is_ascii_digit t) t) → IsVisible t
digits_visible [] h = tt
digits_visible (x ∷ xs) h = one_digit x (prefix_len is_ascii_digit xs) xs (is_ascii_digit x) refl (digits_visible xs) h

-- the first byte is this visible one, and the rest is visible
one_visible : (t : Utf8) (c : ℕ) → 33 ≤ c → head t ≡ c → IsVisible (drop 1 t) → IsVisible t
one_visible [] c l e h = absurd (omega arith)
one_visible (x ∷ xs) c l e h = (omega (arith, e), h)

some_is : (b : Bool) (x y : Utf8) → cond b None (Some x) ≡ Some y → x ≡ y
some_is true x y e = cc
some_is false x y e = cc

after_digits_visible : (t r : Utf8) → after_digits t ≡ Some r → IsVisible r → IsVisible t
after_digits_visible t r e h = digits_visible t (subst IsVisible (sym (some_is _ (drop (prefix_len is_ascii_digit t) t) r e)) h)

after_minus_visible : (t : Utf8) (b : Bool) → eqb (head t) 45 ≡ b → IsVisible (cond b (drop 1 t) t) → IsVisible t
after_minus_visible t true e h = one_visible t 45 (omega arith) (eqb-true (head t) 45 e) h
after_minus_visible t false e h = h

after_sign_visible : (t : Utf8) (b : Bool) → (eqb (head t) 45 || eqb (head t) 43) ≡ b → IsVisible (cond b (drop 1 t) t) → IsVisible t
after_sign_visible t true e h =
    elim (or_cases (eqb (head t) 45) (eqb (head t) 43) e) [
      | inl m ↦ one_visible t 45 (omega arith) (eqb-true (head t) 45 m) h
      | inr p ↦ one_visible t 43 (omega arith) (eqb-true (head t) 43 p) h
    ]
after_sign_visible t false e h = h

after_whole_visible : (t r : Utf8) (b : Bool) → eqb (head t) 48 ≡ b → cond b (Some (drop 1 t)) (after_digits t) ≡ Some r → IsVisible r → IsVisible t
after_whole_visible t r true e is h = one_visible t 48 (omega arith) (eqb-true (head t) 48 e) (subst IsVisible (sym (some_is false (drop 1 t) r is)) h)
after_whole_visible t r false e is h = after_digits_visible t r is h

after_fraction_visible : (t r : Utf8) (b : Bool) → eqb (head t) 46 ≡ b → cond b (after_digits (drop 1 t)) (Some t) ≡ Some r → IsVisible r → IsVisible t
after_fraction_visible t r true e is h = one_visible t 46 (omega arith) (eqb-true (head t) 46 e) (after_digits_visible (drop 1 t) r is h)
after_fraction_visible t r false e is h = subst IsVisible (sym (some_is false t r is)) h

exponent_signed : (t r : Utf8) → after_digits (after_sign t) ≡ Some r → IsVisible r → IsVisible t
exponent_signed t r is h = after_sign_visible t (eqb (head t) 45 || eqb (head t) 43) refl (after_digits_visible (after_sign t) r is h)

after_exponent_visible : (t r : Utf8) (b : Bool) → (eqb (head t) 101 || eqb (head t) 69) ≡ b → cond b (after_digits (after_sign (drop 1 t))) (Some t) ≡ Some r → IsVisible r → IsVisible t
after_exponent_visible t r true e is h =
    let tail = exponent_signed (drop 1 t) r is h in
    elim (or_cases (eqb (head t) 101) (eqb (head t) 69) e) [
      | inl m ↦ one_visible t 101 (omega arith) (eqb-true (head t) 101 m) tail
      | inr p ↦ one_visible t 69 (omega arith) (eqb-true (head t) 69 p) tail
    ]
after_exponent_visible t r false e is h = subst IsVisible (sym (some_is false t r is)) h

step_back : (f : Utf8 → Option Utf8) (o : Option Utf8) (r : Utf8) → option_and_then f o ≡ Some r → (t : Utf8) × (o ≡ Some t) × (f t ≡ Some r)
step_back f None r e = cc
step_back f (Some t) r e = (t, refl, e)

number_visible : (s : Utf8) → IsNumber s → IsVisible s
unfolding after_number
number_visible s is =
    let last = step_back after_exponent (option_and_then after_fraction (after_whole (after_minus s))) [] is in
    let mid = step_back after_fraction (after_whole (after_minus s)) last.0 last.1 in
    let a = after_exponent_visible last.0 [] (eqb (head last.0) 101 || eqb (head last.0) 69) refl last.2 tt in
    let b = after_fraction_visible mid.0 last.0 (eqb (head mid.0) 46) refl mid.2 a in
    let c = after_whole_visible (after_minus s) mid.0 (eqb (head (after_minus s)) 48) refl mid.1 b in
    after_minus_visible s (eqb (head s) 45) refl c

-- ---- strings

hex_visible : (n : ℕ) → 32 ≤ digit_char n
hex_visible n = elim (cases_Bool (nat_lt n 10)) [ inl e ↦ rw e (omega arith) | inr e ↦ rw e (omega arith) ]

letter_visible : (x : ℕ) → nat_lt 0 (escape_letter x) ≡ true → 32 ≤ escape_letter x
letter_visible x e =
    elim (cases_Bool (eqb x 34 || eqb x 92)) [
      | inl a ↦ rw a (elim (or_cases (eqb x 34) (eqb x 92) a) [ inl q ↦ omega (arith, eqb-true x 34 q) | inr q ↦ omega (arith, eqb-true x 92 q) ])
      | inr a ↦ elim (cases_Bool (eqb x 8)) [
        | inl b ↦ rw (a, b) (omega arith)
        | inr b ↦ elim (cases_Bool (eqb x 12)) [
          | inl c ↦ rw (a, b, c) (omega arith)
          | inr c ↦ elim (cases_Bool (eqb x 10)) [
            | inl d ↦ rw (a, b, c, d) (omega arith)
            | inr d ↦ elim (cases_Bool (eqb x 13)) [
              | inl f ↦ rw (a, b, c, d, f) (omega arith)
              | inr f ↦ elim (cases_Bool (eqb x 9)) [ inl g ↦ rw (a, b, c, d, f, g) (omega arith) | inr g ↦ absurd (let none = rw (a, b, c, d, f, g) at e in cc) ]
            ]
          ]
        ]
      ]
    ]

escape_byte_visible : (x : ℕ) → IsVisible (escape_byte x)
unfolding escape_byte
escape_byte_visible x =
    elim (cases_Bool (nat_lt 0 (escape_letter x))) [
      | inl e ↦ rw e (omega arith, (letter_visible x e, tt))
      | inr e ↦ elim (cases_Bool (nat_lt x 32)) [
        | inl s ↦ rw (e, s) (omega arith, (omega arith, (omega arith, (omega arith, (hex_visible (x / 16), (hex_visible (x % 16), tt))))))
        | inr s ↦ rw (e, s) (ltb-false x 32 s, tt)
      ]
    ]

escape_visible : (s : Utf8) → IsVisible (escape s)
escape_visible [] = tt
escape_visible (x ∷ xs) = visible_append (escape_byte x) (escape xs) (escape_byte_visible x) (escape_visible xs)

quoted_visible : (s : Utf8) → IsVisible (34 ∷ (escape s ++ 34 ∷ []))
quoted_visible s = (omega arith, visible_append (escape s) (34 ∷ []) (escape_visible s) (omega arith, tt))

-- ---- tokens

token_visible : (t : Token) → IsPrintable t → IsVisible (token_text t)
token_visible begin_object h = (omega arith, tt)
token_visible end_object h = (omega arith, tt)
token_visible begin_array h = (omega arith, tt)
token_visible end_array h = (omega arith, tt)
token_visible (key s) h = visible_append (34 ∷ (escape s ++ 34 ∷ [])) (58 ∷ []) (quoted_visible s) (omega arith, tt)
token_visible (string s) h = quoted_visible s
token_visible (number s) h = number_visible s h
token_visible (boolean true) h = (omega arith, (omega arith, (omega arith, (omega arith, tt))))
token_visible (boolean false) h = (omega arith, (omega arith, (omega arith, (omega arith, (omega arith, tt)))))
token_visible null h = (omega arith, (omega arith, (omega arith, (omega arith, tt))))
token_visible bad h = absurd h

comma_visible : (b : Bool) → IsVisible (cond b (44 ∷ []) [])
comma_visible true = (omega arith, tt)
comma_visible false = tt

print_from_visible : (b : Bool) (ts : List Token) → ArePrintable ts → IsVisible (print_from b ts)
unfolding print_from ArePrintable
print_from_visible b [] h = tt
print_from_visible b (t ∷ ts) h =
    visible_append (separator b t) (token_text t ++ print_from (ends t) ts) (comma_visible (b && begins t))
    (visible_append (token_text t) (print_from (ends t) ts) (token_visible t h.0) (print_from_visible (ends t) ts h.1))

-- what is printed of tokens
pub print_visible : (ts : List Token) → ArePrintable ts → IsVisible (print ts)
print_visible ts h = print_from_visible false ts h
