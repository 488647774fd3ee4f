-- A text closed by a zero, with its length before it.
use Rattle.std.proofs.Common.{◌≡◌, ℕ, ◌+◌, ◌≤◌, [], ◌∷◌, ◌++◌, length, ap, ◌∙◌, append_assoc, arith}
use Rattle.std.specs.Int.{w32, to_le_bytes, cast_unsigned, cast_signed}
use Rattle.std.proofs.lemmas.List.{length-append}
use Rattle.bson_kinds.specs.Text.{Bytes, Utf8}
use Rattle.bson_base.specs.Sound.{max_bytes}
use Rattle.bson_base.specs.Tree.{le32, closed_text}
use Rattle.bson_base.proofs.Lengths.{length-le32}
use Rattle.bson_io.specs.Output.{Output, Appended}
use Rattle.bson_ser_stream.proofs.Ended.{length_bytes}

-- the length, the text and the zero, appended one after another
pub wrote_text : (old begun filled new : Output) (t piece : Utf8) (lead : Bytes) (s0 s1 s2 s3 : ℕ) → length t + 5 ≤ max_bytes → piece ≡ t → lead ≡ to_le_bytes w32 (cast_unsigned w32 (cast_signed w32 (length t + 1)))
    → Appended old begun lead s0 s1 → Appended begun filled piece s1 s2 → Appended filled new (0 ∷ []) s2 s3 → Appended old new (closed_text t) s0 s3
wrote_text old begun filled new t piece lead s0 s1 s2 s3 small same is a b c =
    let long : lead ≡ le32 (length t + 1) = is ∙ length_bytes (length t + 1) (omega arith) in
    let size : length (closed_text t) ≡ length t + 5 = omega (arith, length-append (le32 (length t + 1)) (t ++ 0 ∷ []), length-append t (0 ∷ []), length-le32 (length t + 1)) in
    let four : length lead ≡ 4 = ap length long ∙ length-le32 (length t + 1) in
    record {
      bytes = c.bytes
          ∙ ap (λ x. x ++ 0 ∷ []) (b.bytes ∙ (λ i. a.bytes i ++ same i))
          ∙ append_assoc (old.bytes ++ lead) t (0 ∷ [])
          ∙ append_assoc old.bytes lead (t ++ 0 ∷ [])
          ∙ ap (λ l. old.bytes ++ (l ++ (t ++ 0 ∷ []))) long;
      spare = omega (arith, size, four, ap length same, a.spare, b.spare, c.spare);
      steps = omega (arith, size, four, ap length same, a.steps, b.steps, c.steps);
    }
