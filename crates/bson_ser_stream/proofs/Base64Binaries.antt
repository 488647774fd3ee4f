-- A binary whose bytes are given as base64.
use Rattle.std.proofs.Common.{◌≡◌, ℕ, ◌+◌, ◌<◌, ◌≤◌, Bool, true, false, cond, ltb, length, Option, Some, None, Result, Ok, Err, refl, ap, ◌∙◌, arith}
use Rattle.std.specs.Prelude.{IsOk, option_map}
use Rattle.std.specs.Result.{IsErrAnd}
use Rattle.base64.specs.GeneralPurpose.{IsBytes}
use Rattle.bson_base.specs.Parsed.{bytes_of_base64}
use Rattle.bson_base.specs.Sound.{max_binary}
use Rattle.bson_kinds.specs.Text.{Bytes, Utf8}
use Rattle.bson_base.specs.Tree.{Tree, binary, enc}
use Rattle.bson_kinds.specs.declared.element_type.ElementType.{ElementType}
use Rattle.bson_base.proofs.Base64Texts.{base64_ok, length-text}
use Rattle.bson_values.specs.Refusal.{Refusal, WriteFault}
use Rattle.bson_io.specs.Output.{Output, Appended}
use Rattle.bson_laws.specs.Written.{Writing, spell_unwrapped, written_size}
use Rattle.bson_ser_stream.specs.Binary.{binary_front}
use Rattle.bson_ser_stream.specs.Decoding.{Decodes, IsFault}
use Rattle.bson_writing.specs.Halting.{IsOutOfMemory}
use Rattle.bson_ser_stream.specs.Halting.{Grows, Puts}
use Rattle.bson_ser_stream.specs.declared.base64_text.Base64Fault.{Base64Fault}
use Rattle.bson_ser_stream.specs.declared.base64_text.Base64Fault.TheVariants.{NotBase64, NoMemory}
use Rattle.bson_writing.specs.declared.halt.Halt.{Halt}
use Rattle.bson_ser_stream.proofs.Binaries.{length-front_same, length-written}
use Rattle.bson_ser_stream.proofs.Puts.{out_of_memory, puts_refusal}

-- what is written of the bytes of a text
abbrev pub spell_decoded : (subtype : ℕ) → Option Bytes → Writing Tree
spell_decoded subtype o = spell_unwrapped (option_map (λ bs. binary subtype bs) o)

-- a text has no fewer characters than bytes that it stands for
pub decoded_shorter : (text : Utf8) (bs : Bytes) → IsBytes text → bytes_of_base64 text ≡ Some bs → length bs ≤ length text
decoded_shorter text bs small is =
    let whole = ap length (base64_ok text bs small is).0 ∙ length-text bs in
    omega (arith, whole)

judged_size : (long : Bool) (r : Refusal WriteFault) (t : Tree) → IsOk (cond long (Err r) (Ok t)) → written_size (cond long (Err r) (Ok t)) ≡ length (enc t)
judged_size true r t ok = absurd cc
judged_size false r t ok = refl

-- where the definition gives something, it is a binary of the bytes that the text stands for
pub decoded_expected : (subtype : ℕ) (o : Option Bytes) → IsOk (spell_decoded subtype o) → (bs : Bytes) × (o ≡ Some bs) × (written_size (spell_decoded subtype o) ≡ length (binary_front subtype 0) + length bs)
decoded_expected subtype None ok = absurd cc
decoded_expected subtype (Some bs) ok =
    (bs, refl, judged_size (ltb (max_binary subtype) (length bs)) _ (binary subtype bs) ok ∙ length-written subtype bs ∙ ap (λ n. n + length bs) (length-front_same subtype (length bs)))

module _ (its : ElementType) (subtype : ℕ) (o : Option Bytes) (old begun new : Output) (s0 s1 s2 : ℕ) where
  -- the front has no room
  pub decoded_short : (r : Result ElementType Halt) → Grows old new s0 s2 → IsErrAnd r IsOutOfMemory → old.spare < length (binary_front subtype 0) → Puts its (written_size (spell_decoded subtype o)) (spell_decoded subtype o) old new s0 s2 r
  decoded_short r grows out short = out_of_memory its _ (spell_decoded subtype o) old new s0 s2 grows r out (λ ok. let expected = decoded_expected subtype o ok in omega (arith, short, expected.2))

  -- the text is refused, or its bytes have no room behind the front
  pub decoded_fault : (T : Type 0) (fault : Base64Fault) (h : Halt) → Grows old new s0 s2 → Appended old begun (binary_front subtype 0) s0 s1 → Decodes {T = T} (Err fault) o begun new s1 s2 → IsFault fault h
      → Puts its (written_size (spell_decoded subtype o)) (spell_decoded subtype o) old new s0 s2 (Err h)
  decoded_fault T NotBase64 h grows a is fails = puts_refusal its _ (spell_decoded subtype o) old new s0 s2 grows _ h (ap (spell_decoded subtype) is) fails
  decoded_fault T NoMemory h grows a short fails = out_of_memory its _ (spell_decoded subtype o) old new s0 s2 grows (Err h) fails
      (λ ok. let expected = decoded_expected subtype o ok in omega (arith, short expected.0 expected.1, expected.2, a.spare))
