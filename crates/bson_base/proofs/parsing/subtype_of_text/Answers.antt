use Rattle.std.proofs.Common.{arith, refl}
use Rattle.bson_base.proofs.SubtypeTexts.{subtype_some, subtype_refused, subtype_short, no_subtype}
use Rattle.bson_base.proofs.parsing.subtype_of_text.Goals as goal
use Rattle.bson_base.proofs.parsing.subtype_of_text.Goals.{then-digits-lt2-via-then-digits-lt2, then-digits-lt2-via-else-digits-lt2+then-not-are_digit_pairs}

pub returns-then-digits-lt2 : goal.returns-then-digits-lt2
returns-then-digits-lt2 c = elim c.then-digits-lt2.branch [
  | then-digits-lt2-via-then-digits-lt2 w ↦ subtype_short _ (omega arith)
  | then-digits-lt2-via-else-digits-lt2+then-not-are_digit_pairs w ↦ rw c.as_bytes-digits.ensures.value at (no_subtype c.as_bytes-digits.result.now (λ pairs. cc (w.if-not-are_digit_pairs.ensures.1 pairs)))
]

pub returns-in-Ok : goal.returns-in-Ok
returns-in-Ok c =
    rw c.as_bytes-digits.ensures.value at (subtype_some c.as_bytes-digits.result.now c.in-Ok.first (omega arith) (c.if-not-are_digit_pairs.ensures.0 refl) c.in-Ok.ensures)

pub returns-in-Err : goal.returns-in-Err
returns-in-Err c =
    rw c.as_bytes-digits.ensures.value at (subtype_refused c.as_bytes-digits.result.now c.in-Err.field-0 (omega arith) (c.if-not-are_digit_pairs.ensures.0 refl) c.in-Err.ensures)
