-- A regular expression, by its pattern and its options.
use Rattle.std.proofs.Common.{◌≡◌, ℕ, ◌+◌, List, [], ◌∷◌, ◌++◌, length, Bool, true, false, Ok, Err, refl, ap, sym, ◌∙◌, arith}
use Rattle.std.specs.Prelude.{encode_utf8, encode_utf8_all, if◌then◌else◌, nat_lt}
use Rattle.std.specs.Str.{chars, IsUtf8}
use Rattle.std.proofs.lemmas.List.{length-append}
use Rattle.std.proofs.lemmas.Str.{encodes-chars}
use Rattle.bson_base.specs.Sorted.{insert, ascending, sorted}
use Rattle.bson_kinds.specs.Text.{Utf8, has_zero}
use Rattle.bson_base.specs.Tree.{regular_expression, enc}
use Rattle.bson_values.specs.Refusal.{invalid_cstring, here}
use Rattle.bson_laws.specs.Written.{zero_free, spell_whole}
use Rattle.bson_kinds.specs.Outcome.{◌>>=◌}
use Rattle.bson_io.specs.Output.{Output, Appended}
use Rattle.bson_ser_stream.proofs.Repeated.{appended_both}

length-insert : (c : ℕ) (cs : List ℕ) → length (encode_utf8_all (insert c cs)) ≡ length (encode_utf8 c) + length (encode_utf8_all cs)
length-insert c [] = omega (arith, length-append (encode_utf8 c) [])
length-insert c (d ∷ ds) = by (nat_lt d c) (length-insert c ds)
  where
    by : (t : Bool) → length (encode_utf8_all (insert c ds)) ≡ length (encode_utf8 c) + length (encode_utf8_all ds)
        → length (encode_utf8_all (if t then d ∷ insert c ds else c ∷ d ∷ ds)) ≡ length (encode_utf8 c) + length (encode_utf8_all (d ∷ ds))
    by true ih = omega (arith, ih, length-append (encode_utf8 d) (encode_utf8_all (insert c ds)), length-append (encode_utf8 d) (encode_utf8_all ds))
    by false ih = length-append (encode_utf8 c) (encode_utf8_all (d ∷ ds))

length-ascending : (cs : List ℕ) → length (encode_utf8_all (ascending cs)) ≡ length (encode_utf8_all cs)
length-ascending [] = refl
length-ascending (c ∷ cs) = omega (arith, length-insert c (ascending cs), length-ascending cs, length-append (encode_utf8 c) (encode_utf8_all cs))

-- a text in order is as long as before
pub length-sorted : (text : Utf8) → IsUtf8 text → length (sorted text) ≡ length text
length-sorted text good = length-ascending (chars text) ∙ ap length (encodes-chars text good)

free : (part : Utf8) → false ≡ has_zero part → zero_free part ≡ Ok part
free part e = ap (λ t. if t then Err (here (invalid_cstring part)) else Ok part) (sym e)

pub spells_expression : (pattern options : Utf8) → false ≡ has_zero pattern → false ≡ has_zero options → spell_whole (regular_expression pattern options) ≡ Ok (regular_expression pattern (sorted options))
spells_expression pattern options p o =
    ap (λ r. r >>= λ x. zero_free options >>= λ y. Ok (regular_expression x (sorted y))) (free pattern p) ∙ ap (λ r. r >>= λ y. Ok (regular_expression pattern (sorted y))) (free options o)

-- the pattern, a zero, the options and a zero, appended one after another
pub wrote_expression : (old patterned parted optioned new : Output) (pattern piece options : Utf8) (s0 s1 s2 s3 s4 : ℕ) → piece ≡ pattern → Appended old patterned piece s0 s1 → Appended patterned parted (0 ∷ []) s1 s2
    → Appended parted optioned options s2 s3 → Appended optioned new (0 ∷ []) s3 s4 → Appended old new (enc (regular_expression pattern options)) s0 s4
wrote_expression old patterned parted optioned new pattern piece options s0 s1 s2 s3 s4 same a b c d =
    let behind = appended_both parted optioned new options (0 ∷ []) (options ++ 0 ∷ []) s2 s3 s4 refl c d in
    let parts = appended_both patterned parted new (0 ∷ []) (options ++ 0 ∷ []) (0 ∷ (options ++ 0 ∷ [])) s1 s2 s4 refl b behind in
    appended_both old patterned new piece (0 ∷ (options ++ 0 ∷ [])) (pattern ++ (0 ∷ (options ++ 0 ∷ []))) s0 s1 s4 (ap (λ p. p ++ (0 ∷ (options ++ 0 ∷ []))) (sym same)) a parts
