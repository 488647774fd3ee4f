-- A text whose characters are put in order holds a zero only where it did before.
use Rattle.std.proofs.Common.{◌≡◌, ℕ, List, [], ◌∷◌, ◌++◌, Bool, true, false, refl, ap, ◌∙◌}
use Rattle.std.specs.Prelude.{encode_utf8, encode_utf8_all, if◌then◌else◌, nat_lt, eqb, ◌||◌}
use Rattle.std.specs.Str.{chars}
use Rattle.std.proofs.lemmas.Str.{encodes-chars, IsUtf8-from_is_utf8}
use Rattle.bson_base.specs.Sorted.{insert, ascending, sorted}
use Rattle.bson_base.specs.Sound.{IsZeroFree}
use Rattle.bson_kinds.specs.Text.{Bytes, Utf8, has_zero}
use Rattle.bson_laws.proofs.ParsedSizes.{sorted_text}
use Rattle.bson_kinds.proofs.Apart.{true_no}

pub neither : (a b : Bool) → (a || b) ≡ false → (a ≡ false) × (b ≡ false)
neither true b e = absurd (true_no e)
neither false b e = (refl, e)

pub none_of : (a b : Bool) → a ≡ false → b ≡ false → (a || b) ≡ false
none_of true b p q = absurd cc
none_of false b p q = q

-- no zero is in two texts one behind another exactly where none is in either
pub free_both : (xs ys : Bytes) → has_zero xs ≡ false → has_zero ys ≡ false → has_zero (xs ++ ys) ≡ false
free_both [] ys p q = q
free_both (x ∷ xs) ys p q = let n = neither (eqb x 0) (has_zero xs) p in none_of (eqb x 0) (has_zero (xs ++ ys)) n.0 (free_both xs ys n.1 q)

free_parts : (xs ys : Bytes) → has_zero (xs ++ ys) ≡ false → (has_zero xs ≡ false) × (has_zero ys ≡ false)
free_parts [] ys h = (refl, h)
free_parts (x ∷ xs) ys h =
    let n = neither (eqb x 0) (has_zero (xs ++ ys)) h in
    let r = free_parts xs ys n.1 in
    (none_of (eqb x 0) (has_zero xs) n.0 r.0, r.1)

free_insert : (c : ℕ) (cs : List ℕ) → has_zero (encode_utf8 c) ≡ false → has_zero (encode_utf8_all cs) ≡ false → has_zero (encode_utf8_all (insert c cs)) ≡ false
free_insert c [] p q = free_both (encode_utf8 c) [] p q
free_insert c (d ∷ ds) p q =
    let r = free_parts (encode_utf8 d) (encode_utf8_all ds) q in
    by (nat_lt d c) r.0 (free_insert c ds p r.1)
  where
    by : (t : Bool) → has_zero (encode_utf8 d) ≡ false → has_zero (encode_utf8_all (insert c ds)) ≡ false → has_zero (encode_utf8_all (if t then d ∷ insert c ds else c ∷ d ∷ ds)) ≡ false
    by true first ih = free_both (encode_utf8 d) (encode_utf8_all (insert c ds)) first ih
    by false first ih = free_both (encode_utf8 c) (encode_utf8_all (d ∷ ds)) p q

free_ascending : (cs : List ℕ) → has_zero (encode_utf8_all cs) ≡ false → has_zero (encode_utf8_all (ascending cs)) ≡ false
free_ascending [] h = h
free_ascending (c ∷ cs) h = let r = free_parts (encode_utf8 c) (encode_utf8_all cs) h in free_insert c (ascending cs) r.0 (free_ascending cs r.1)

-- a text in order holds a zero only where it did before
pub free_sorted : (text : Utf8) → IsZeroFree text → IsZeroFree (sorted text)
free_sorted text h =
    record {
      text = sorted_text text h.text;
      no_zero = free_ascending (chars text) (ap has_zero (encodes-chars text (IsUtf8-from_is_utf8 text h.text)) ∙ h.no_zero);
    }
