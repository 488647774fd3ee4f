-- Which values fit, by what is known of their parts.
use Rattle.std.proofs.Common.{◌≡◌, ℕ, ◌+◌, ◌-◌, ◌<◌, ◌≤◌, ◌^◌, ℤ, true, false, cond, Option, Some, None, ◌++◌, length, inl, inr, ap, sym, subst, ◌∙◌, arith, nat_eq}
use Rattle.std.specs.Prelude.{◌⊎◌, SomeIff, FitsSigned}
use Rattle.std.proofs.lemmas.List.{length-append}
use Rattle.std.specs.Int.{w32, w64}
use Rattle.std.specs.Str.{is_utf8}
use Rattle.bson_base.specs.Sound.{HasBytes, max_binary, max_bytes}
use Rattle.bson_kinds.specs.Text.{Bytes, Utf8, AreBytes}
use Rattle.bson_base.specs.Tree.{Tree, string, document, array, binary, date_time, db_pointer, javascript_code, symbol, javascript_code_with_scope, int32, timestamp, int64, Pairs, Trees, depth, le32, enc, elements, array_elements, behind_subtype}
use Rattle.bson_base.proofs.Lengths.{length-le32, length-text, length-binary, length-date_time, length-db_pointer, length-int32, length-timestamp, length-int64, length-document, length-array, length-javascript_code_with_scope}
use Rattle.bson_infer_run.specs.Fits.{Fits, PairsFit, TreesFit}

-- what a function answers for a value
abbrev pub Answers : Option ℕ → ℕ → Tree → Type 0
Answers r levels t = SomeIff r (Fits levels t) (length (enc t))

pub answers_at : (r : Option ℕ) (levels : ℕ) (t u : Tree) → t ≡ u → Answers r levels u → Answers r levels t
answers_at r levels t u e h = subst (Answers r levels) (sym e) h

-- ---- texts and numbers

abbrev IsText : Option ℕ → Utf8 → Type 0
IsText r t = SomeIff r (length t + 5 ≤ max_bytes) (length t + 5)

pub string_answers : (r : Option ℕ) (levels : ℕ) (t : Utf8) → is_utf8 t ≡ true → IsText r t → Answers r levels (string t)
string_answers None levels t u h = λ f. h (omega (arith, f.small, length-text t))
string_answers (Some n) levels t u h = (record { clean = u; nests = omega arith; small = omega (arith, h.0, length-text t) }, h.1 ∙ sym (length-text t))

pub code_answers : (r : Option ℕ) (levels : ℕ) (t : Utf8) → is_utf8 t ≡ true → IsText r t → Answers r levels (javascript_code t)
code_answers None levels t u h = λ f. h (omega (arith, f.small, length-text t))
code_answers (Some n) levels t u h = (record { clean = u; nests = omega arith; small = omega (arith, h.0, length-text t) }, h.1 ∙ sym (length-text t))

pub symbol_answers : (r : Option ℕ) (levels : ℕ) (t : Utf8) → is_utf8 t ≡ true → IsText r t → Answers r levels (symbol t)
symbol_answers None levels t u h = λ f. h (omega (arith, f.small, length-text t))
symbol_answers (Some n) levels t u h = (record { clean = u; nests = omega arith; small = omega (arith, h.0, length-text t) }, h.1 ∙ sym (length-text t))

pub int32_answers : (levels size : ℕ) (n : ℤ) → FitsSigned w32 n → size ≡ 4 → Answers (Some size) levels (int32 n)
int32_answers levels size n r e = (record { clean = r; nests = omega arith; small = omega (arith, length-int32 n) }, e ∙ sym (length-int32 n))

pub int64_answers : (levels size : ℕ) (n : ℤ) → FitsSigned w64 n → size ≡ 8 → Answers (Some size) levels (int64 n)
int64_answers levels size n r e = (record { clean = r; nests = omega arith; small = omega (arith, length-int64 n) }, e ∙ sym (length-int64 n))

pub date_time_answers : (levels size : ℕ) (n : ℤ) → FitsSigned w64 n → size ≡ 8 → Answers (Some size) levels (date_time n)
date_time_answers levels size n r e = (record { clean = r; nests = omega arith; small = omega (arith, length-date_time n) }, e ∙ sym (length-date_time n))

pub timestamp_answers : (levels size time increment : ℕ) → time < 2 ^ 32 → increment < 2 ^ 32 → size ≡ 8 → Answers (Some size) levels (timestamp time increment)
timestamp_answers levels size time increment r s e = (record { clean = (r, s); nests = omega arith; small = omega (arith, length-timestamp time increment) }, e ∙ sym (length-timestamp time increment))

-- ---- values with inner values

pub document_answers : (r : Option ℕ) (levels inner n : ℕ) (ps : Pairs) → (1 ≤ levels) × (inner ≡ levels - 1) → PairsFit inner ps × (n ≡ length (elements ps)) → SomeIff r (n + 5 ≤ max_bytes) (n + 5) → Answers r levels (document ps)
document_answers None levels inner n ps l p h = λ f. h (omega (arith, f.small, length-document ps, p.1))
document_answers (Some x) levels inner n ps l p h =
    (record { clean = p.0.clean; nests = omega (arith, p.0.nests, l.0, l.1); small = omega (arith, h.0, length-document ps, p.1) }, omega (arith, h.1, length-document ps, p.1))

pub array_answers : (r : Option ℕ) (levels inner n : ℕ) (ts : Trees) → (1 ≤ levels) × (inner ≡ levels - 1) → TreesFit inner 0 ts × (n ≡ length (array_elements 0 ts)) → SomeIff r (n + 5 ≤ max_bytes) (n + 5) → Answers r levels (array ts)
array_answers None levels inner n ts l p h = λ f. h (omega (arith, f.small, length-array ts, p.1))
array_answers (Some x) levels inner n ts l p h =
    (record { clean = p.0.clean; nests = omega (arith, p.0.nests, l.0, l.1); small = omega (arith, h.0, length-array ts, p.1) }, omega (arith, h.1, length-array ts, p.1))

pub scoped_refused : (levels : ℕ) (code : Utf8) (scope : Pairs) → (length code + 5 ≤ max_bytes → ⊥) → Fits levels (javascript_code_with_scope code scope) → ⊥
scoped_refused levels code scope h f = h (omega (arith, f.small, length-javascript_code_with_scope code scope))

pub scoped_answers : (r : Option ℕ) (levels c s : ℕ) (code : Utf8) (scope : Pairs) → is_utf8 code ≡ true → c ≡ length code + 5 → Fits levels (document scope) × (s ≡ length (enc (document scope))) → SomeIff r (c + s + 4 ≤ max_bytes) (c + s + 4)
    → Answers r levels (javascript_code_with_scope code scope)
scoped_answers None levels c s code scope u e p h = λ f. h (omega (arith, f.small, length-javascript_code_with_scope code scope, length-document scope, e, p.1))
scoped_answers (Some x) levels c s code scope u e p h = (
  record { clean = (u, p.0.clean); nests = p.0.nests; small = omega (arith, h.0, length-javascript_code_with_scope code scope, length-document scope, e, p.1) },
  omega (arith, h.1, length-javascript_code_with_scope code scope, length-document scope, e, p.1),
)

pub pointer_answers : (r : Option ℕ) (levels n : ℕ) (namespace : Utf8) (id : Bytes) → is_utf8 namespace ≡ true → HasBytes 12 id → n ≡ length namespace + 5 → SomeIff r (n + 12 ≤ max_bytes) (n + 12) → Answers r levels (db_pointer namespace id)
pointer_answers None levels n namespace id u b e h = λ f. h (omega (arith, f.small, length-db_pointer namespace id, e, b.count))
pointer_answers (Some x) levels n namespace id u b e h = (
  record { clean = (u, b); nests = omega arith; small = omega (arith, h.0, length-db_pointer namespace id, e, b.count) },
  omega (arith, h.1, length-db_pointer namespace id, e, b.count),
)

pub pointer_refused : (levels : ℕ) (namespace : Utf8) (id : Bytes) → (length namespace + 5 ≤ max_bytes → ⊥) → Fits levels (db_pointer namespace id) → ⊥
pointer_refused levels namespace id h f = h (omega (arith, f.small, length-db_pointer namespace id))

-- a value without inner values, at any level
pub lifted : (r : Option ℕ) (levels : ℕ) (t : Tree) → depth t ≡ 0 → Answers r 0 t → Answers r levels t
lifted None levels t d h = λ f. h (record { clean = f.clean; nests = omega (arith, d); small = f.small })
lifted (Some n) levels t d h = (record { clean = h.0.clean; nests = omega (arith, d); small = h.0.small }, h.1)

-- ---- binaries

old_binary : (n more : ℕ) (bytes : Bytes) → AreBytes bytes → n ≡ length bytes → more ≡ 4 → n ≤ 16777216 - more → Answers (Some (n + more + 5)) 0 (binary 2 bytes)
old_binary n more bytes b e m h = (
  record {
    clean = record { is_byte = omega arith; are_bytes = b; fits = omega (arith, e, m, h) };
    nests = omega arith;
    small = omega (arith, e, m, h, length-binary 2 bytes, length-append (le32 (length bytes)) bytes, length-le32 (length bytes));
  },
  omega (arith, e, m, length-binary 2 bytes, length-append (le32 (length bytes)) bytes, length-le32 (length bytes)),
)

new_binary : (subtype n more : ℕ) (bytes : Bytes) → subtype < 256 → (same : nat_eq subtype 2 ≡ false) → AreBytes bytes → n ≡ length bytes → more ≡ 0 → n ≤ 16777216 - more → Answers (Some (n + more + 5)) 0 (binary subtype bytes)
new_binary subtype n more bytes s other b e m h =
    let behind : length (behind_subtype subtype bytes) ≡ length bytes = ap (λ c. length (cond c (le32 (length bytes) ++ bytes) bytes)) other in
    let most : max_binary subtype ≡ 16777216 = ap (λ c. cond c 16777212 16777216) other in (
      record {
        clean = record { is_byte = s; are_bytes = b; fits = omega (arith, e, m, h, most) };
        nests = omega arith;
        small = omega (arith, e, m, h, length-binary subtype bytes, behind);
      },
      omega (arith, e, m, length-binary subtype bytes, behind),
    )

not_two : (n : ℕ) → (n ≡ 2 → ⊥) → nat_eq n 2 ≡ false
not_two n h = grind (arith, h)

pub binary_answers : (subtype n more : ℕ) (bytes : Bytes) → subtype < 256 → AreBytes bytes → n ≡ length bytes → ((subtype ≡ 2) × (more ≡ 4)) ⊎ ((subtype ≡ 2 → ⊥) × (more ≡ 0)) → n ≤ 16777216 - more
    → Answers (Some (n + more + 5)) 0 (binary subtype bytes)
binary_answers subtype n more bytes s b e (inl c) h = subst (λ x. Answers (Some (n + more + 5)) 0 (binary x bytes)) (sym c.0) (old_binary n more bytes b e c.1 h)
binary_answers subtype n more bytes s b e (inr c) h = new_binary subtype n more bytes s (not_two subtype c.0) b e c.1 h
