-- The parts of a binary, one after another.
use Rattle.std.proofs.Common.{◌≡◌, ◌≢◌, ℕ, ◌+◌, ◌<◌, ◌≤◌, [], ◌∷◌, ◌++◌, length, Bool, true, false, eqb, ltb, cond, Ok, Err, refl, ap, sym, ◌∙◌, append_assoc, arith}
use Rattle.std.specs.Int.{w32, to_le_bytes, cast_unsigned, cast_signed}
use Rattle.std.proofs.lemmas.Bool.Decides.{nat_tests}
use Rattle.std.proofs.lemmas.List.{length-append}
use Rattle.bson_kinds.specs.Text.{Bytes}
use Rattle.bson_base.specs.Sound.{max_binary, max_bytes}
use Rattle.bson_base.specs.Tree.{Tree, le32, binary, behind_subtype, enc}
use Rattle.bson_base.proofs.Lengths.{length-le32, length-binary}
use Rattle.bson_values.specs.Cause.{binary_too_long}
use Rattle.bson_values.specs.Refusal.{Refusal, WriteFault, unwritable, here}
use Rattle.bson_io.specs.Output.{Output, Appended}
use Rattle.bson_laws.specs.Written.{Writing, spell_binary}
use Rattle.bson_ser_stream.specs.Binary.{behind_length, second_length, binary_front}
use Rattle.bson_ser_stream.proofs.Ended.{length_bytes}
use Rattle.bson_ser_stream.proofs.Repeated.{appended_both}

-- what the old subtype 2 has more than every other
is_old : (subtype : ℕ) → subtype ≡ 2 → eqb subtype 2 ≡ true
is_old subtype is = grind (arith, nat_tests)

is_other : (subtype : ℕ) → subtype ≢ 2 → eqb subtype 2 ≡ false
is_other subtype other = grind (arith, nat_tests)

pub front_old : (subtype n : ℕ) → subtype ≡ 2 → binary_front subtype n ≡ le32 (behind_length subtype n) ++ (subtype ∷ le32 n)
front_old subtype n is = ap (λ t. le32 (behind_length subtype n) ++ (subtype ∷ cond t (le32 n) [])) (is_old subtype is)

pub front_other : (subtype n : ℕ) → subtype ≢ 2 → binary_front subtype n ≡ le32 (behind_length subtype n) ++ (subtype ∷ [])
front_other subtype n other = ap (λ t. le32 (behind_length subtype n) ++ (subtype ∷ cond t (le32 n) [])) (is_other subtype other)

-- how many bytes a front has, which tells nothing of how many bytes follow it
length-front_is : (subtype n : ℕ) → length (binary_front subtype n) ≡ cond (eqb subtype 2) 9 5
length-front_is subtype n = by (eqb subtype 2)
  where
    by : (t : Bool) → length (le32 (cond t (n + 4) n) ++ (subtype ∷ cond t (le32 n) [])) ≡ cond t 9 5
    by true = omega (arith, length-append (le32 (n + 4)) (subtype ∷ le32 n), length-le32 (n + 4), length-le32 n)
    by false = omega (arith, length-append (le32 n) (subtype ∷ []), length-le32 n)

pub length-front_same : (subtype n : ℕ) → length (binary_front subtype n) ≡ length (binary_front subtype 0)
length-front_same subtype n = length-front_is subtype n ∙ sym (length-front_is subtype 0)

pub length-front_old : (subtype n : ℕ) → subtype ≡ 2 → length (binary_front subtype n) ≡ 9
length-front_old subtype n is = omega (arith, ap length (front_old subtype n is), length-append (le32 (behind_length subtype n)) (subtype ∷ le32 n), length-le32 (behind_length subtype n), length-le32 n)

pub length-front_other : (subtype n : ℕ) → subtype ≢ 2 → length (binary_front subtype n) ≡ 5
length-front_other subtype n other = omega (arith, ap length (front_other subtype n other), length-append (le32 (behind_length subtype n)) (subtype ∷ []), length-le32 (behind_length subtype n))

pub length-front : (subtype n : ℕ) → 5 ≤ length (binary_front subtype n)
length-front subtype n = omega (arith, length-append (le32 (behind_length subtype n)) (subtype ∷ second_length subtype n), length-le32 (behind_length subtype n))

-- the length, the subtype and the second length, appended one after another
module _ (old begun typed : Output) (subtype n behind : ℕ) (lead : Bytes) (s0 s1 s2 : ℕ) (counts : behind ≡ behind_length subtype n) (small : behind_length subtype n ≤ 16777216)
    (is : lead ≡ to_le_bytes w32 (cast_unsigned w32 (cast_signed w32 behind))) (a : Appended old begun lead s0 s1) (b : Appended begun typed (subtype ∷ []) s1 s2) where
  led : lead ≡ le32 (behind_length subtype n)
  led = is ∙ length_bytes behind (omega (arith, counts)) ∙ ap le32 counts

  pub wrote_front_other : subtype ≢ 2 → Appended old typed (binary_front subtype n) s0 s2
  wrote_front_other other = appended_both old begun typed lead (subtype ∷ []) (binary_front subtype n) s0 s1 s2 (front_other subtype n other ∙ ap (λ l. l ++ (subtype ∷ [])) (sym led)) a b

  pub wrote_front_old : (new : Output) (second : Bytes) (s3 : ℕ) → subtype ≡ 2 → n ≤ 16777216 → second ≡ to_le_bytes w32 (cast_unsigned w32 (cast_signed w32 n)) → Appended typed new second s2 s3 → Appended old new (binary_front subtype n) s0 s3
  wrote_front_old new second s3 old_is fits same c =
      let whole : binary_front subtype n ≡ (lead ++ (subtype ∷ [])) ++ second =
      front_old subtype n old_is ∙ (λ i. sym led i ++ (subtype ∷ sym (same ∙ length_bytes n (omega arith)) i)) ∙ sym (append_assoc lead (subtype ∷ []) second) in
      appended_both old typed new (lead ++ (subtype ∷ [])) second (binary_front subtype n) s0 s2 s3 whole (appended_both old begun typed lead (subtype ∷ []) (lead ++ (subtype ∷ [])) s0 s1 s2 refl a b) c

-- the front and the bytes are the binary
pub front_and_bytes : (subtype : ℕ) (bs : Bytes) → binary_front subtype (length bs) ++ bs ≡ enc (binary subtype bs)
front_and_bytes subtype bs = by (eqb subtype 2)
  where
    by : (t : Bool) → (le32 (cond t (length bs + 4) (length bs)) ++ (subtype ∷ cond t (le32 (length bs)) [])) ++ bs ≡ le32 (length (cond t (le32 (length bs) ++ bs) bs)) ++ (subtype ∷ cond t (le32 (length bs) ++ bs) bs)
    by true =
        let long : length bs + 4 ≡ length (le32 (length bs) ++ bs) = omega (arith, length-append (le32 (length bs)) bs, length-le32 (length bs)) in
        append_assoc (le32 (length bs + 4)) (subtype ∷ le32 (length bs)) bs ∙ ap (λ m. le32 m ++ (subtype ∷ (le32 (length bs) ++ bs))) long
    by false = append_assoc (le32 (length bs)) (subtype ∷ []) bs

pub length-behind : (subtype : ℕ) (bs : Bytes) → length (behind_subtype subtype bs) ≡ behind_length subtype (length bs)
length-behind subtype bs = by (eqb subtype 2)
  where
    by : (t : Bool) → length (cond t (le32 (length bs) ++ bs) bs) ≡ cond t (length bs + 4) (length bs)
    by true = omega (arith, length-append (le32 (length bs)) bs, length-le32 (length bs))
    by false = refl

-- bytes are judged by how many are behind the subtype
judged : (subtype n : ℕ) → ltb (max_binary subtype) n ≡ ltb 16777216 (behind_length subtype n)
judged subtype n = by (eqb subtype 2)
  where
    by : (t : Bool) → ltb (cond t 16777212 16777216) n ≡ ltb 16777216 (cond t (n + 4) n)
    by true = grind (arith, nat_tests)
    by false = refl

pub spells : (subtype : ℕ) (bs : Bytes) → behind_length subtype (length bs) ≤ 16777216 → spell_binary subtype bs ≡ Ok (binary subtype bs)
spells subtype bs small =
    let fits : ltb 16777216 (behind_length subtype (length bs)) ≡ false = grind (arith, nat_tests) in
    ap (λ t. cond t (Err (here (unwritable (binary_too_long (length (behind_subtype subtype bs)))))) (Ok (binary subtype bs))) (judged subtype (length bs) ∙ fits)

pub spells_too_long : (subtype : ℕ) (bs : Bytes) (n : ℕ) → n ≡ behind_length subtype (length bs) → 16777216 < n → spell_binary subtype bs ≡ Err (here (unwritable (binary_too_long n)))
spells_too_long subtype bs n is large =
    let over : ltb 16777216 (behind_length subtype (length bs)) ≡ true = grind (arith, nat_tests) in
    ap (λ t. cond t (Err (here (unwritable (binary_too_long (length (behind_subtype subtype bs)))))) (Ok (binary subtype bs))) (judged subtype (length bs) ∙ over)
    ∙ ap (λ m. Err (here (unwritable (binary_too_long m)))) (length-behind subtype bs ∙ sym is)

-- a binary that is written fits into a document
pub binary_fits : (subtype : ℕ) (bs : Bytes) → behind_length subtype (length bs) ≤ 16777216 → length (enc (binary subtype bs)) ≤ max_bytes
binary_fits subtype bs small = omega (arith, length-binary subtype bs, length-behind subtype bs)

pub length-written : (subtype : ℕ) (bs : Bytes) → length (enc (binary subtype bs)) ≡ length (binary_front subtype (length bs)) + length bs
length-written subtype bs = ap length (sym (front_and_bytes subtype bs)) ∙ length-append (binary_front subtype (length bs)) bs

abbrev answer : Writing Tree → Writing Tree
answer r = r

ok_binary : (small : Bool) (r : Refusal WriteFault) (subtype : ℕ) (bs : Bytes) (t : Tree) → answer (cond small (Err r) (Ok (binary subtype bs))) ≡ Ok t → t ≡ binary subtype bs
ok_binary true r subtype bs t e = absurd cc
ok_binary false r subtype bs t e = cc

-- how many bytes a binary of subtype 0 has, where the definition gives one
pub length-generic : (bs : Bytes) (t : Tree) → spell_binary 0 bs ≡ Ok t → length (enc t) ≡ length bs + 5
length-generic bs t e = ap (λ x. length (enc x)) (ok_binary (ltb (max_binary 0) (length bs)) _ 0 bs t e) ∙ length-binary 0 bs
