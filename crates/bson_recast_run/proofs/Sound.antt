-- A document of rows is sound, where the fields of each row are clean, hold no document, and are few bytes.
use Rattle.std.proofs.Common.{◌≡◌, ◌≤◌, ◌<◌, ◌+◌, ◌*◌, ◌^◌, ℕ, zero, suc, [], ◌∷◌, ◌++◌, length, Bool, true, false, refl, pos, codes, arith}
use Rattle.std.specs.Prelude.{◌&&◌, nat_lt}
use Rattle.std.specs.Fmt.{decimal}
use Rattle.std.specs.Str.{is_utf8, IsAscii}
use Rattle.std.proofs.lemmas.Bool.{ltb-true}
use Rattle.std.proofs.lemmas.Fmt.{IsAscii-decimal, length-decimal-le}
use Rattle.std.proofs.lemmas.List.{length-append}
use Rattle.std.proofs.lemmas.Str.{IsUtf8-from_ascii, is_utf8-from_IsUtf8}
use Rattle.std.proofs.lemmas.Str.Ascii.{IsAscii-nil, IsAscii-cons}
use Rattle.bson_base.specs.Sound.{IsSound, ArePairsClean, AreTreesClean}
use Rattle.bson_kinds.specs.Text.{Utf8, has_zero, begins_with_dollar, IsPlainName}
use Rattle.bson_base.specs.Tree.{document, array, string, boolean, int32, int64, Pairs, no_pairs, pair, enc, elements, array_elements, pairs_depth, trees_depth}
use Rattle.bson_base.proofs.Lengths.{length-int32, length-int64, length-text, length-document, length-array}
use Rattle.bson_recast_run.specs.Made.{row_name, row_fields, rows_from, rows_document, made}

-- ---- names

abbrev all_ascii : Utf8 → Bool
all_ascii [] = true
all_ascii (c ∷ cs) = nat_lt c 128 && all_ascii cs

one_more : (c : ℕ) (cs : Utf8) (b : Bool) → nat_lt c 128 ≡ b → (b && all_ascii cs) ≡ true → (all_ascii cs ≡ true → IsAscii cs) → IsAscii (c ∷ cs)
one_more c cs true is e rest = IsAscii-cons c cs (ltb-true c 128 is) (rest e)
one_more c cs false is e rest = absurd cc

are_ascii : (cs : Utf8) → all_ascii cs ≡ true → IsAscii cs
are_ascii [] e = IsAscii-nil
are_ascii (c ∷ cs) e = one_more c cs (nat_lt c 128) refl e (are_ascii cs)

ascii_text : (cs : Utf8) → IsAscii cs → is_utf8 cs ≡ true
ascii_text cs h = is_utf8-from_IsUtf8 cs (IsUtf8-from_ascii cs h)

plain : (name : Utf8) → all_ascii name ≡ true → has_zero name ≡ false → begins_with_dollar name ≡ false → IsPlainName name
plain name ascii no_zero no_dollar = record { text = ascii_text name (are_ascii name ascii); free = record { no_zero = no_zero; no_dollar = no_dollar } }

-- ---- rows

-- the fields of rows that a document may have many of
pub record AreSmall (fields : ℕ → Pairs) : Type 0 where
  pub clean : (i : ℕ) → i < 2 ^ 31 → ArePairsClean (fields i)
  pub flat : (i : ℕ) → pairs_depth (fields i) ≡ 0
  pub few : (i : ℕ) → i < 2 ^ 31 → length (elements (fields i)) ≤ 36

module _ (fields : ℕ → Pairs) (small : AreSmall fields) where
  rows_clean : (i n : ℕ) → i + n ≤ 2 ^ 31 → AreTreesClean (rows_from fields i n)
  rows_clean i zero h = tt
  rows_clean i (suc n) h = (small.clean i (omega (arith, h)), rows_clean (suc i) n (omega (arith, h)))

  rows_flat : (i n : ℕ) → trees_depth (rows_from fields i n) ≤ 1
  rows_flat i zero = omega arith
  rows_flat i (suc n) = omega (arith, small.flat i, rows_flat (suc i) n)

  rows_few : (i n : ℕ) → i + n ≤ 2 ^ 31 → length (array_elements i (rows_from fields i n)) ≤ 53 * n
  rows_few i zero h = omega arith
  rows_few i (suc n) h =
      let row = enc (document (fields i)) in
      let rest = array_elements (suc i) (rows_from fields (suc i) n) in
      omega (arith, h, length-append (decimal i ++ (0 ∷ row)) rest, length-append (decimal i) (0 ∷ row), length-document (fields i), small.few i (omega (arith, h)), length-decimal-le 10 i (omega arith) (omega (arith, h)) (omega (arith, h)), rows_few (suc i) n (omega (arith, h)))

  rows_size : (n : ℕ) → length (enc (rows_document fields n)) ≡ length (array_elements 0 (rows_from fields 0 n)) + 16
  rows_size n =
      let rows = rows_from fields 0 n in
      omega (arith, length-document (pair (codes "rows") (array rows) no_pairs), length-append (enc (array rows)) [], length-array rows)

  pub rows_sound : (n : ℕ) → n ≤ 2 ^ 24 → IsSound (rows_document fields n)
  rows_sound n h = record {
    document = tt;
    clean = (plain (codes "rows") refl refl refl, tt, rows_clean 0 n (omega (arith, h)), tt);
    nests = omega (arith, rows_flat 0 n);
    fits = omega (arith, h, rows_size n, rows_few 0 n (omega (arith, h)));
  }

-- ---- the fields of the rows that are made

name_is_text : (i : ℕ) → i < 2 ^ 31 → is_utf8 (row_name (decimal i)) ≡ true
name_is_text i h =
    ascii_text (row_name (decimal i))
    (IsAscii-cons 114 (111 ∷ 119 ∷ decimal i) (omega arith) (IsAscii-cons 111 (119 ∷ decimal i) (omega arith) (IsAscii-cons 119 (decimal i) (omega arith) (IsAscii-decimal i (omega (arith, h))))))

digits_few : (i : ℕ) → i < 2 ^ 31 → length (decimal i) ≤ 10
digits_few i h = length-decimal-le 10 i (omega arith) (omega (arith, h)) (omega (arith, h))

pub row_length : (i : ℕ) → length (elements (row_fields i)) ≡ length (decimal i) + 26
row_length i =
    let t = row_name (decimal i) in
    let last = elements (pair (codes "ok") (boolean true) no_pairs) in
    let behind = elements (pair (codes "name") (string t) (pair (codes "ok") (boolean true) no_pairs)) in
    omega (arith, length-append (enc (int32 (pos i))) behind, length-int32 (pos i), length-append (enc (string t)) last, length-text t)

made_small : AreSmall row_fields
made_small = record {
  clean = λ i h. (plain (codes "n") refl refl refl, (refl, (refl, tt)), record { sfits = h }, (plain (codes "name") refl refl refl, (refl, tt), name_is_text i h, (plain (codes "ok") refl refl refl, tt, tt, tt)));
  flat = λ i. refl;
  few = λ i h. omega (arith, row_length i, digits_few i h);
}

pub made_sound : (n : ℕ) → n ≤ 2 ^ 24 → IsSound (made n)
made_sound = rows_sound row_fields made_small

-- ---- the fields that are kept of them: the number in eight bytes, and the name

abbrev pub kept_fields : ℕ → Pairs
kept_fields i = pair (codes "n") (int64 (pos i)) (pair (codes "name") (string (row_name (decimal i))) no_pairs)

kept_few : (i : ℕ) → i < 2 ^ 31 → length (elements (kept_fields i)) ≤ 36
kept_few i h =
    let t = row_name (decimal i) in
    let last = elements (pair (codes "name") (string t) no_pairs) in
    omega (arith, length-append (enc (int64 (pos i))) last, length-int64 (pos i), length-append (enc (string t)) [], length-text t, digits_few i h)

kept_small : AreSmall kept_fields
kept_small = record {
  clean = λ i h. (plain (codes "n") refl refl refl, (refl, tt), record { sfits = omega (arith, h) }, (plain (codes "name") refl refl refl, tt, name_is_text i h, tt));
  flat = λ i. refl;
  few = kept_few;
}

pub kept_sound : (n : ℕ) → n ≤ 2 ^ 24 → IsSound (rows_document kept_fields n)
kept_sound = rows_sound kept_fields kept_small
