-- What came of a source that tells its file, beside the whole file.
use Rattle.std.proofs.Common.{◌≡◌, ℕ, ◌+◌, ◌<◌, ◌≤◌, List, [], ◌++◌, length, Option, Some, None, refl, ap, sym, subst, ◌∙◌, inl, inr, arith, append-nil}
use Rattle.std.specs.Prelude.{◌⊎◌}
use Rattle.std.specs.Io.KnownBytes.{Consumes, IsAtEnd}
use Rattle.std.proofs.lemmas.List.{append_assoc, length-append}
use Rattle.bson_kinds.specs.Text.{Bytes}
use Rattle.bson_rawdoc.specs.Cut.{Cut, cut, broken_at, piece_length}
use Rattle.bson_rawdoc.proofs.Pieces.{cut_broken}
use Rattle.bson_parts.specs.Parts.{moved, behind}
use Rattle.bson_parts.proofs.Parts.{cut_in_parts}
use Rattle.bson_streaming.specs.Next.{IsBreak}

-- bytes were taken of a file that was told, and these are left
told : (file came : Bytes) (left : Option Bytes) → Consumes (Some file) left came → (more : Bytes) × (left ≡ Some more) × (file ≡ came ++ more)
told file came None h = absurd h
told file came (Some more) h = (more, refl, h)

module _ (file came rest : Bytes) (before after : Option Bytes) (is : before ≡ Some file) (taken : Consumes before after (came ++ rest)) where
  left : (more : Bytes) × (after ≡ Some more) × (file ≡ (came ++ rest) ++ more)
  left = told file (came ++ rest) after (subst (λ i. Consumes i after (came ++ rest)) is taken)

  -- no more came than the file has
  pub came_within : length came + length rest ≤ length file
  came_within = omega (arith, ap length left.2, length-append (came ++ rest) left.0, length-append came rest)

  -- all of it came
  pub whole_came : rest ≡ [] → IsAtEnd after → came ≡ file
  whole_came nothing at =
      let none : left.0 ≡ [] = subst IsAtEnd left.1 at in
      sym (left.2 ∙ ap (λ m. (came ++ rest) ++ m) none ∙ append-nil (came ++ rest) ∙ ap (λ r. came ++ r) nothing ∙ append-nil came)

  -- the file is broken behind the documents that came
  pub broken_cut : (cut came).broken ≡ None → IsBreak rest after → cut file ≡ record { pieces = (cut came).pieces; broken = Some (length came) }
  broken_cut whole break =
      let there : file ≡ came ++ (rest ++ left.0) = left.2 ∙ append_assoc came rest left.0 in
      let zero_more : length came + 0 ≡ length came = omega arith in
      let parts : cut file ≡ behind (cut came) (moved (length came) (broken_at 0)) =
      ap cut there ∙ cut_in_parts came (rest ++ left.0) whole
      ∙ ap (λ c. behind (cut came) (moved (length came) c)) (cut_broken 0 (rest ++ left.0) (omega (arith, break.some, length-append rest left.0)) (nothing left.0 left.1 break.ends)) in
      let pieces : (cut file).pieces ≡ (cut came).pieces = ap (λ (c : Cut). c.pieces) parts ∙ append-nil (cut came).pieces in
      let place : (cut file).broken ≡ Some (length came) = ap (λ (c : Cut). c.broken) parts ∙ ap Some zero_more in
      λ i. record { pieces = pieces i; broken = place i } where
        nothing : (more : Bytes) → after ≡ Some more → IsAtEnd after ⊎ ((m : Bytes) → piece_length (rest ++ m) ≡ None) → piece_length (rest ++ more) ≡ None
        nothing more is_left (inl at) =
            let none : more ≡ [] = subst IsAtEnd is_left at in
            ap (λ m. piece_length (rest ++ m)) none ∙ ap piece_length (append-nil rest) ∙ break.none
        nothing more is_left (inr never) = never more
